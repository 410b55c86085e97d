-- The lines of a journal part, judged one after the other.
use Rattle.std.proofs.Common.{◌≡◌, ℕ, ◌+◌, ◌-◌, ◌<◌, ◌≤◌, Bool, true, false, cond, List, [], ◌∷◌, ◌++◌, length, take, drop, Option, Some, None, refl, ap, sym, ◌∙◌, arith, append_assoc, length-append, length-drop}
use Rattle.std.specs.Prelude.{◌==◌, ◌&&◌, codes}
use Rattle.std.specs.Str.{bytes_eq}
use Rattle.std.specs.List.{flat_map}
use Rattle.std.proofs.lemmas.Grind.{flat_map-append}
use Rattle.std.proofs.lemmas.List.{append-nil, take-append-drop, drop-drop}
use Rattle.std.proofs.lemmas.Slice.Eq.{bytes_eq-Decides}
use Rattle.std.proofs.Math.ListN.{drop_of_length-le}
use Rattle.std.proofs.Math.Seq.{drop-append_seam, take-length}
use Rattle.apcu_model.specs.declared.conf.Conf.{Conf}
use Rattle.apcu_model.specs.declared.journal.Mark.{Mark}
use Rattle.script_read.specs.declared.script.Step.{Step}
use Rattle.script_read.specs.Budgets.{all_events}
use Rattle.script_read.specs.Play.{Play, nothing_played, marked, are_done}
use Rattle.reply_text.specs.Lines.{texts_of}
use Rattle.reply_text.specs.Output.{worker_texts, mark_line, journal_lines}
use Rattle.run_verify.specs.declared.verifying.Verdict.TheVariants.{Event}
use Rattle.run_verify.specs.JudgedOutputs.{IsJudgedTo}
use Rattle.run_verify.specs.Verdicts.{behind, journal_from, journal_part, first_difference, byte_verdict, judged_end, played_line, with_mark, go_on, judged, judged_part, verdict_of, lines_of, mark_of_line}
use Rattle.run_verify.proofs.MarkLines.{told}
use Rattle.run_verify.proofs.PlayBounds.{short_play}
use Rattle.run_verify.proofs.YesVerdicts.{played_more}

-- ---- where the journal begins

-- the line `journal` stands before the part
pub record Stands (text part : List ℕ) : Type 0 where
  front : List ℕ
  is : text ≡ front ++ (codes "journal\n" ++ part)

stands : (b : Bool) (text part : List ℕ) → journal_from b text ≡ Some part → Stands text part
stands b [] part e = absurd cc
stands b (byte ∷ bytes) part e =
    by (journal_from (byte == 10) bytes) (b && bytes_eq (codes "journal\n") (take 8 (byte ∷ bytes))) refl e (λ later. stands (byte == 10) bytes part later)
  where
    both : (x y : Bool) → (x && y) ≡ true → y ≡ true
    both true y h = h
    both false y h = absurd cc

    by : (o : Option (List ℕ)) (here : Bool) → (b && bytes_eq (codes "journal\n") (take 8 (byte ∷ bytes))) ≡ here → behind (byte ∷ bytes) here o ≡ Some part
        → (o ≡ Some part → Stands bytes part) → Stands (byte ∷ bytes) part
    by (Some later) here is e next =
        let s = next e in
        record { front = byte ∷ s.front; is = ap (λ (l : List ℕ). byte ∷ l) s.is }
    by None false is e next = absurd cc
    by None true is e next =
        let eight : codes "journal\n" ≡ take 8 (byte ∷ bytes) = (bytes_eq-Decides (codes "journal\n") (take 8 (byte ∷ bytes))).0 (both b (bytes_eq (codes "journal\n") (take 8 (byte ∷ bytes))) is) in
        let rest : drop 8 (byte ∷ bytes) ≡ part = cc in
        record {
          front = [];
          is = sym (take-append-drop 8 (byte ∷ bytes)) ∙ (ap (λ (l : List ℕ). l ++ drop 8 (byte ∷ bytes)) (sym eight) ∙ ap (λ (l : List ℕ). codes "journal\n" ++ l) rest);
        }

-- eight bytes before the journal part the line begins
pub record LineBefore (output : List ℕ) (part : ℕ) : Type 0 where
  pub room : 8 ≤ part
  pub line : drop (part - 8) output ≡ codes "journal\n" ++ drop part output

pub line_before : (output : List ℕ) (part : ℕ) → part ≤ length output → journal_part output ≡ Some (drop part output) → LineBefore output part
line_before output part within is =
    let s = stands true output (drop part output) is in
    let long : length output ≡ length s.front + length (codes "journal\n" ++ drop part output) = ap length s.is ∙ length-append s.front (codes "journal\n" ++ drop part output) in
    let eight : length (codes "journal\n" ++ drop part output) ≡ 8 + length (drop part output) = length-append (codes "journal\n") (drop part output) in
    let rest = length-drop part output in
    let front : part - 8 ≡ length s.front = omega (arith, long, eight, rest, within) in
    record {
      room = omega (arith, long, eight, rest, within);
      line = ap (λ (n : ℕ). drop n output) front ∙ (ap (drop (length s.front)) s.is ∙ drop-append_seam s.front (codes "journal\n" ++ drop part output));
    }

-- ---- lines

-- nothing was judged yet
pub judged_none : (conf : Conf) (scripts : List (List Step)) (output : List ℕ) (part : ℕ) → part ≤ length output → journal_part output ≡ Some (drop part output)
    → IsJudgedTo conf scripts output part part 0 (nothing_played conf scripts)
judged_none conf scripts output part within is = record {
  marks = [];
  many = refl;
  led = refl;
  within = within;
  printed = refl;
  verdict = ap (judged_part conf scripts output) is;
}

-- a line ends where the rest begins
line_split : (output : List ℕ) (at end : ℕ) → at < end → drop at output ≡ take (end - at) (drop at output) ++ drop end output
line_split output at end past =
    let there : at + (end - at) ≡ end = omega (arith, past) in
    sym (take-append-drop (end - at) (drop at output)) ∙ ap (λ (l : List ℕ). take (end - at) (drop at output) ++ l) (drop-drop (end - at) at output ∙ ap (λ (n : ℕ). drop n output) there)

line_judged : (conf : Conf) (scripts : List (List Step)) (output : List ℕ) (part at end k : ℕ) (p q : Play) (line : List ℕ) → IsJudgedTo conf scripts output part at k p → end ≤ length output
    → drop at output ≡ line ++ drop end output → lines_of (drop at output) ≡ line ∷ lines_of (drop end output) → (o : Option Mark) → mark_of_line line ≡ o
    → Some q ≡ played_line conf scripts p o → IsJudgedTo conf scripts output part end (k + 1) q
line_judged conf scripts output part at end k p q line j within split first None is goes = absurd cc
line_judged conf scripts output part at end k p q line j within split first (Some mark) is goes =
    let t = told line mark is in
    let played_on : marked conf scripts p mark ≡ Some q = sym goes in
    let rest : List ℕ = drop end output in
    record {
      marks = j.marks ++ mark ∷ [];
      many = omega (arith, length-append j.marks (mark ∷ []), j.many);
      led = played_more conf scripts (nothing_played conf scripts) j.marks mark p q j.led played_on;
      within = within;
      printed = j.printed ∙ (ap (λ (l : List ℕ). flat_map mark_line j.marks ++ l) (split ∙ ap (λ (l : List ℕ). l ++ rest) t.0)
          ∙ (sym (append_assoc (flat_map mark_line j.marks) (mark_line mark) rest)
          ∙ ap (λ (l : List ℕ). l ++ rest) (ap (λ (l : List ℕ). flat_map mark_line j.marks ++ l) (sym (append-nil (mark_line mark))) ∙ sym (flat_map-append mark_line j.marks (mark ∷ [])))));
      verdict = j.verdict ∙ (ap (judged conf scripts output k j.marks p) first
          ∙ (ap (λ (o : Option Mark). go_on (Event k) (λ (r : Play). judged conf scripts output (k + 1) (with_mark j.marks o) r (lines_of rest)) (played_line conf scripts p o)) is
          ∙ ap (go_on (Event k) (λ (r : Play). judged conf scripts output (k + 1) (j.marks ++ mark ∷ []) r (lines_of rest))) played_on));
    }

-- a line more, which prints a mark that can be played
pub judged_more : (conf : Conf) (scripts : List (List Step)) (output : List ℕ) (part at end k : ℕ) (p q : Play) → IsJudgedTo conf scripts output part at k p
    → at < end → end ≤ length output → lines_of (drop at output) ≡ take (end - at) (drop at output) ∷ lines_of (drop end output)
    → Some q ≡ played_line conf scripts p (mark_of_line (take (end - at) (drop at output))) → IsJudgedTo conf scripts output part end (k + 1) q
judged_more conf scripts output part at end k p q j past within first goes =
    line_judged conf scripts output part at end k p q (take (end - at) (drop at output)) j within (line_split output at end past) first
    (mark_of_line (take (end - at) (drop at output))) refl goes

-- a line that is no mark that can be played
pub judged_stop : (conf : Conf) (scripts : List (List Step)) (output : List ℕ) (part at end k : ℕ) (p : Play) → IsJudgedTo conf scripts output part at k p
    → lines_of (drop at output) ≡ take (end - at) (drop at output) ∷ lines_of (drop end output)
    → None ≡ played_line conf scripts p (mark_of_line (take (end - at) (drop at output))) → Event k ≡ verdict_of conf scripts output
judged_stop conf scripts output part at end k p j first stops =
    let line : List ℕ = take (end - at) (drop at output) in
    sym (j.verdict ∙ (ap (judged conf scripts output k j.marks p) first
    ∙ ap (go_on (Event k) (λ (r : Play). judged conf scripts output (k + 1) (with_mark j.marks (mark_of_line line)) r (lines_of (drop end output)))) (sym stops)))

-- ---- the end of the journal

ended : (conf : Conf) (scripts : List (List Step)) (output : List ℕ) (part at k : ℕ) (p : Play) → (j : IsJudgedTo conf scripts output part at k p) → length output ≤ at
    → verdict_of conf scripts output ≡ judged_end conf scripts output k j.marks p
ended conf scripts output part at k p j past =
    j.verdict ∙ ap (λ (l : List ℕ). judged conf scripts output k j.marks p (lines_of l)) (drop_of_length-le output past)

-- a worker wants something more
pub judged_short : (conf : Conf) (scripts : List (List Step)) (output : List ℕ) (part at k : ℕ) (p : Play) → IsJudgedTo conf scripts output part at k p → length output ≤ at
    → are_done conf scripts p.replies ≡ false → Event k ≡ verdict_of conf scripts output
judged_short conf scripts output part at k p j past more =
    sym (ended conf scripts output part at k p j past
    ∙ ap (λ (b : Bool). cond b (byte_verdict (first_difference output (worker_texts 0 (texts_of conf scripts p.replies) ++ journal_lines j.marks))) (Event k)) more)

-- the output is compared with that of its marks, which has the same journal
pub judged_whole : (conf : Conf) (scripts : List (List Step)) (output : List ℕ) (part at k : ℕ) (p : Play) (texts : List (List ℕ)) (place : Option ℕ) → IsJudgedTo conf scripts output part at k p
    → length output ≤ at → part ≤ length output → journal_part output ≡ Some (drop part output) → are_done conf scripts p.replies ≡ true → texts ≡ texts_of conf scripts p.replies
    → place ≡ first_difference output (worker_texts 0 texts ++ drop (part - 8) output) → byte_verdict place ≡ verdict_of conf scripts output
judged_whole conf scripts output part at k p texts place j past within is done same compared =
    let journal : drop (part - 8) output ≡ journal_lines j.marks =
    (line_before output part within is).line
    ∙ ap (λ (l : List ℕ). codes "journal\n" ++ l) (j.printed ∙ (ap (λ (l : List ℕ). flat_map mark_line j.marks ++ l) (drop_of_length-le output past) ∙ append-nil (flat_map mark_line j.marks))) in
    let whole : place ≡ first_difference output (worker_texts 0 (texts_of conf scripts p.replies) ++ journal_lines j.marks) =
    compared ∙ (ap (λ (ts : List (List ℕ)). first_difference output (worker_texts 0 ts ++ drop (part - 8) output)) same
    ∙ ap (λ (l : List ℕ). first_difference output (worker_texts 0 (texts_of conf scripts p.replies) ++ l)) journal) in
    ap byte_verdict whole
    ∙ sym (ended conf scripts output part at k p j past
    ∙ ap (λ (b : Bool). cond b (byte_verdict (first_difference output (worker_texts 0 (texts_of conf scripts p.replies) ++ journal_lines j.marks))) (Event k)) done)

-- ---- all events were played

-- no mark can be played behind as many as the scripts may make events
pub none_more : (conf : Conf) (scripts : List (List Step)) (output : List ℕ) (part at k : ℕ) (p : Play) → IsJudgedTo conf scripts output part at k p
    → all_events conf.slots scripts ≤ k → (line : List ℕ) → None ≡ played_line conf scripts p (mark_of_line line)
none_more conf scripts output part at k p j all line = by (mark_of_line line)
  where
    mark_by : (mark : Mark) (o : Option Play) → marked conf scripts p mark ≡ o → None ≡ o
    mark_by mark None is = refl
    mark_by mark (Some q) is =
        let few = short_play conf scripts (j.marks ++ mark ∷ []) q (played_more conf scripts (nothing_played conf scripts) j.marks mark p q j.led is) in
        absurd (omega (arith, few, length-append j.marks (mark ∷ []), j.many, all))

    by : (o : Option Mark) → None ≡ played_line conf scripts p o
    by None = refl
    by (Some mark) = mark_by mark (marked conf scripts p mark) refl

-- ---- what is known of a line

pub line_none : (conf : Conf) (scripts : List (List Step)) (p : Play) (line : List ℕ) → None ≡ mark_of_line line → None ≡ played_line conf scripts p (mark_of_line line)
line_none conf scripts p line is = ap (played_line conf scripts p) is

pub line_mark : (conf : Conf) (scripts : List (List Step)) (p : Play) (line : List ℕ) (mark : Mark) (o : Option Play) → Some mark ≡ mark_of_line line → o ≡ marked conf scripts p mark
    → o ≡ played_line conf scripts p (mark_of_line line)
line_mark conf scripts p line mark o is goes = goes ∙ ap (played_line conf scripts p) is

-- its worker is below 64
pub line_low : (line : List ℕ) (mark : Mark) → Some mark ≡ mark_of_line line → mark.worker < 64
line_low line mark is = (told line mark (sym is)).1.0

-- what a call leaves of a list that it was lent whole
pub written_back : {A : Type 0} (n : ℕ) (new items : List A) → length new ≡ length items → n ≡ length items → take n (new ++ drop (length new) items) ≡ new
written_back {A} n new items same whole =
    ap (λ (l : List A). take n (new ++ l)) (drop_of_length-le items (omega (arith, same)))
    ∙ (ap (take n) (append-nil new) ∙ (ap (λ (k : ℕ). take k new) (whole ∙ sym same) ∙ take-length new))
