-- The outputs for which the verdict is yes.
use Rattle.std.proofs.Common.{◌≡◌, ℕ, ◌+◌, ◌≤◌, ◌^◌, Bool, true, false, cond, List, [], ◌∷◌, ◌++◌, length, Option, Some, None, refl, ap, sym, ◌∙◌, subst, arith, append_assoc}
use Rattle.std.specs.Prelude.{◌==◌, ◌&&◌, ◌||◌, not, nat_lt, map, is_some, IsSome, IsTrue}
use Rattle.std.specs.Option.{option_and_then}
use Rattle.std.specs.List.{list_all, range_with_len}
use Rattle.std.proofs.lemmas.Bool.{ltb-true, eqb-true}
use Rattle.std.proofs.lemmas.List.{append-nil}
use Rattle.std.proofs.lemmas.Option.{slice_get_within}
use Rattle.apcu_model.specs.declared.conf.Conf.{Conf}
use Rattle.apcu_model.specs.declared.journal.Mark.{Mark}
use Rattle.apcu_model.specs.History.{is_in_mask, is_legal_mask, window_of}
use Rattle.script_read.specs.declared.script.Step.{Step}
use Rattle.script_read.specs.Play.{Wish, Play, wanted, replies_of, script_of, wish_of, after_wish, marked, played_from, played, nothing_played, are_done, is_complete_play}
use Rattle.reply_text.specs.Lines.{texts_of}
use Rattle.reply_text.specs.Output.{worker_texts, mark_line, journal_lines, play_text, IsOutput}
use Rattle.run_verify.specs.declared.verifying.Verdict.TheVariants.{Yes, Event}
use Rattle.run_verify.specs.Verdicts.{first_difference, place_further, byte_verdict, judged_end, played_line, with_mark, go_on, judged, judged_part, verdict_of, journal_part, lines_of, mark_of_line}
use Rattle.run_verify.proofs.MarkLines.{read}
use Rattle.run_verify.proofs.LinePieces.{same_none}
use Rattle.run_verify.proofs.OutputJournals.{AllInBits, output_part, marks_lines}

-- ---- only outputs

no_place : (o : Option ℕ) → place_further o ≡ None → o ≡ None
no_place None e = refl
no_place (Some p) e = absurd cc

same_text : (xs ys : List ℕ) → first_difference xs ys ≡ None → xs ≡ ys
same_text [] [] e = refl
same_text [] (y ∷ ys) e = absurd cc
same_text (x ∷ xs) [] e = absurd cc
same_text (x ∷ xs) (y ∷ ys) e = by (x == y) refl e (same_text xs ys)
  where
    by : (t : Bool) → (x == y) ≡ t → cond t (place_further (first_difference xs ys)) (Some 0) ≡ None → (first_difference xs ys ≡ None → xs ≡ ys) → x ∷ xs ≡ y ∷ ys
    by false d e later = absurd cc
    by true d e later =
        let head : x ≡ y = eqb-true x y d in
        let tail : xs ≡ ys = later (no_place (first_difference xs ys) e) in
        ap (λ (k : ℕ). k ∷ xs) head ∙ ap (λ (l : List ℕ). y ∷ l) tail

-- one mark more is played
pub played_more : (conf : Conf) (scripts : List (List Step)) (p : Play) (marks : List Mark) (mark : Mark) (q r : Play)
    → played_from conf scripts p marks ≡ Some q → marked conf scripts q mark ≡ Some r → played_from conf scripts p (marks ++ mark ∷ []) ≡ Some r
played_more conf scripts p [] mark q r so_far goes =
    let one : p ≡ q = cc in
    ap (option_and_then (λ (s : Play). Some s)) (ap (λ (s : Play). marked conf scripts s mark) one ∙ goes)
played_more conf scripts p (m ∷ ms) mark q r so_far goes = by (marked conf scripts p m) so_far (λ s. played_more conf scripts s ms mark q r)
  where
    by : (o : Option Play) → option_and_then (λ (s : Play). played_from conf scripts s ms) o ≡ Some q
        → ((s : Play) → played_from conf scripts s ms ≡ Some q → marked conf scripts q mark ≡ Some r → played_from conf scripts s (ms ++ mark ∷ []) ≡ Some r)
        → option_and_then (λ (s : Play). played_from conf scripts s (ms ++ mark ∷ [])) o ≡ Some r
    by None e later = absurd cc
    by (Some s) e later = later s e goes

byte_yes : (o : Option ℕ) → byte_verdict o ≡ Yes → o ≡ None
byte_yes None e = refl
byte_yes (Some p) e = absurd cc

end_yes : (conf : Conf) (scripts : List (List Step)) (output : List ℕ) (k : ℕ) (marks : List Mark) (p : Play) → played conf scripts marks ≡ Some p
    → judged_end conf scripts output k marks p ≡ Yes → IsOutput conf scripts output
end_yes conf scripts output k marks p is e = by (are_done conf scripts p.replies) refl e
  where
    by : (d : Bool) → are_done conf scripts p.replies ≡ d
        → cond d (byte_verdict (first_difference output (worker_texts 0 (texts_of conf scripts p.replies) ++ journal_lines marks))) (Event k) ≡ Yes → IsOutput conf scripts output
    by false done e = absurd cc
    by true done e = record {
      journal = marks;
      legal = subst (λ (o : Option Play). IsSome o) (sym is) refl;
      complete = subst (λ (o : Option Play). IsTrue (is_complete_play conf scripts o)) (sym is) done;
      text = same_text output (worker_texts 0 (texts_of conf scripts p.replies) ++ journal_lines marks) (byte_yes (first_difference output (worker_texts 0 (texts_of conf scripts p.replies) ++ journal_lines marks)) e)
          ∙ sym (ap (play_text conf scripts marks) is);
    }

judged_yes : (conf : Conf) (scripts : List (List Step)) (output : List ℕ) (k : ℕ) (marks : List Mark) (p : Play) (lines : List (List ℕ)) → played conf scripts marks ≡ Some p
    → judged conf scripts output k marks p lines ≡ Yes → IsOutput conf scripts output
judged_yes conf scripts output k marks p [] is e = end_yes conf scripts output k marks p is e
judged_yes conf scripts output k marks p (line ∷ lines) is e = by (mark_of_line line) e (λ ms q. judged_yes conf scripts output (k + 1) ms q lines)
  where
    goes : (mark : Mark) (o : Option Play) → marked conf scripts p mark ≡ o
        → go_on (Event k) (λ (q : Play). judged conf scripts output (k + 1) (marks ++ mark ∷ []) q lines) o ≡ Yes
        → ((ms : List Mark) (q : Play) → played conf scripts ms ≡ Some q → judged conf scripts output (k + 1) ms q lines ≡ Yes → IsOutput conf scripts output)
        → IsOutput conf scripts output
    goes mark None m e later = absurd cc
    goes mark (Some q) m e later = later (marks ++ mark ∷ []) q (played_more conf scripts (nothing_played conf scripts) marks mark p q is m) e

    by : (o : Option Mark) → go_on (Event k) (λ (q : Play). judged conf scripts output (k + 1) (with_mark marks o) q lines) (played_line conf scripts p o) ≡ Yes
        → ((ms : List Mark) (q : Play) → played conf scripts ms ≡ Some q → judged conf scripts output (k + 1) ms q lines ≡ Yes → IsOutput conf scripts output)
        → IsOutput conf scripts output
    by None e later = absurd cc
    by (Some mark) e later = goes mark (marked conf scripts p mark) refl e later

pub only_outputs : (conf : Conf) (scripts : List (List Step)) (output : List ℕ) → verdict_of conf scripts output ≡ Yes → IsOutput conf scripts output
only_outputs conf scripts output e = by (journal_part output) e
  where
    by : (o : Option (List ℕ)) → judged_part conf scripts output o ≡ Yes → IsOutput conf scripts output
    by None e = absurd cc
    by (Some part) e = judged_yes conf scripts output 0 [] (nothing_played conf scripts) (lines_of part) refl e

-- ---- each output

record Comes {A B : Type 0} (f : A → Option B) (o : Option A) : Type 0 where
  first : A
  is : o ≡ Some first
  goes : IsSome (f first)

and_then_some : {A B : Type 0} (f : A → Option B) (o : Option A) → IsSome (option_and_then f o) → Comes f o
and_then_some f None some = absurd cc
and_then_some f (Some x) some = record { first = x; is = refl; goes = some }

if_some : {A : Type 0} (b : Bool) (o : Option A) → IsSome (cond b o None) → (b ≡ true) × IsSome o
if_some true o some = (refl, some)
if_some false o some = absurd cc

first_true : (a b : Bool) → (a && b) ≡ true → a ≡ true
first_true true b e = refl
first_true false b e = absurd cc

-- the marks of a legal journal
marks_fair : (conf : Conf) (scripts : List (List Step)) (p : Play) (marks : List Mark) → length scripts ≤ 64 → IsSome (played_from conf scripts p marks) → AllInBits marks
marks_fair conf scripts p [] few legal = tt
marks_fair conf scripts p (mark ∷ marks) few legal =
    let one = and_then_some (λ (q : Play). played_from conf scripts q marks) (marked conf scripts p mark) legal in
    let some : IsSome (marked conf scripts p mark) = subst (λ (o : Option Play). IsSome o) (sym one.is) refl in
    let parts = if_some (is_legal_mask (length scripts) mark.worker p.stage mark.mask) (option_and_then (λ (wish : Wish). Some (after_wish p mark wish)) (wish_of conf scripts p mark.worker)) some in
    let wish = and_then_some (λ (wish : Wish). Some (after_wish p mark wish)) (wish_of conf scripts p mark.worker) parts.1 in
    let wished : IsSome (wish_of conf scripts p mark.worker) = subst (λ (o : Option Wish). IsSome o) (sym wish.is) refl in
    let own = and_then_some (λ (script : List Step). wanted conf script (replies_of p mark.worker)) (script_of scripts mark.worker) wished in
    let worker = slice_get_within scripts mark.worker own.first own.is in
    let legal_mask = first_true (nat_lt mark.mask (2 ^ 64))
    (list_all (λ v. not (is_in_mask mark.mask v) || (not (v == mark.worker) && nat_lt v (length scripts) && is_some (window_of p.stage v))) (range_with_len 0 64)) parts.0 in
    ((omega (arith, worker, few), ltb-true mark.mask (2 ^ 64) legal_mask), marks_fair conf scripts one.first marks few one.goes)

-- the lines of marks that can be played are judged by their end
judged_marks : (conf : Conf) (scripts : List (List Step)) (output : List ℕ) (k : ℕ) (done : List Mark) (p q : Play) (marks : List Mark) → AllInBits marks
    → played_from conf scripts p marks ≡ Some q
    → judged conf scripts output k done p (map mark_line marks) ≡ judged_end conf scripts output (k + length marks) (done ++ marks) q
judged_marks conf scripts output k done p q [] all is =
    let one : p ≡ q = cc in
    let count : k ≡ k + 0 = omega arith in
    ap (λ (r : Play). judged_end conf scripts output k done r) one
    ∙ (ap (λ (l : List Mark). judged_end conf scripts output k l q) (sym (append-nil done)) ∙ ap (λ (n : ℕ). judged_end conf scripts output n (done ++ []) q) count)
judged_marks conf scripts output k done p q (m ∷ ms) all is =
    ap (λ (o : Option Mark). go_on (Event k) (λ (r : Play). judged conf scripts output (k + 1) (with_mark done o) r (map mark_line ms)) (played_line conf scripts p o)) (read m all.0)
    ∙ by (marked conf scripts p m) is (λ r. judged_marks conf scripts output (k + 1) (done ++ m ∷ []) r q ms all.1)
  where
    by : (o : Option Play) → option_and_then (λ (s : Play). played_from conf scripts s ms) o ≡ Some q
        → ((r : Play) → played_from conf scripts r ms ≡ Some q → judged conf scripts output (k + 1) (done ++ m ∷ []) r (map mark_line ms) ≡ judged_end conf scripts output (k + 1 + length ms) ((done ++ m ∷ []) ++ ms) q)
        → go_on (Event k) (λ (r : Play). judged conf scripts output (k + 1) (done ++ m ∷ []) r (map mark_line ms)) o ≡ judged_end conf scripts output (k + length (m ∷ ms)) (done ++ m ∷ ms) q
    by None e later = absurd cc
    by (Some r) e later =
        let count : k + 1 + length ms ≡ k + length (m ∷ ms) = omega arith in
        later r e
        ∙ (ap (λ (n : ℕ). judged_end conf scripts output n ((done ++ m ∷ []) ++ ms) q) count
        ∙ ap (λ (l : List Mark). judged_end conf scripts output (k + length (m ∷ ms)) l q) (append_assoc done (m ∷ []) ms))

record Known {A : Type 0} (o : Option A) : Type 0 where
  it : A
  is : o ≡ Some it

known : {A : Type 0} (o : Option A) → IsSome o → Known o
known None some = absurd cc
known (Some x) some = record { it = x; is = refl }

pub each_output : (conf : Conf) (scripts : List (List Step)) (output : List ℕ) → length scripts ≤ 64 → IsOutput conf scripts output → verdict_of conf scripts output ≡ Yes
each_output conf scripts output few o =
    let play = known (played conf scripts o.journal) o.legal in
    let p : Play = play.it in
    let fair = marks_fair conf scripts (nothing_played conf scripts) o.journal few o.legal in
    let text : List ℕ = worker_texts 0 (texts_of conf scripts p.replies) ++ journal_lines o.journal in
    let is : output ≡ text = o.text ∙ ap (play_text conf scripts o.journal) play.is in
    let done : are_done conf scripts p.replies ≡ true = subst (λ (q : Option Play). IsTrue (is_complete_play conf scripts q)) play.is o.complete in
    ap (judged_part conf scripts output) (ap journal_part is ∙ output_part conf scripts p.replies o.journal fair)
    ∙ (ap (judged conf scripts output 0 [] (nothing_played conf scripts)) (marks_lines o.journal fair)
    ∙ (judged_marks conf scripts output 0 [] (nothing_played conf scripts) p o.journal fair play.is
    ∙ (ap (λ (d : Bool). cond d (byte_verdict (first_difference output text)) (Event (0 + length o.journal))) done
    ∙ ap byte_verdict (ap (λ (l : List ℕ). first_difference l text) is ∙ same_none text))))
