-- What generated scripts want, wish by wish; and when the observer looks.
use Rattle.std.proofs.Common.{◌≡◌, ◌⊎◌, inl, inr, ℕ, zero, suc, ◌+◌, ◌<◌, Bool, true, false, cond, List, [], ◌∷◌, ◌++◌, length, map, slice_get, append_assoc, refl, sym, ap, ◌∙◌, arith}
use Rattle.std.specs.Prelude.{◌==◌, option_map}
use Rattle.std.specs.List.{range_with_len}
use Rattle.std.proofs.lemmas.Bool.{eq-eqb}
use Rattle.std.proofs.lemmas.List.{map-append}
use Rattle.seg_words.specs.Members.{count-cons, count-append}
use Rattle.apcu_model.specs.declared.conf.Conf.{Conf}
use Rattle.apcu_model.specs.declared.request.Event.{Event}
use Rattle.apcu_model.specs.declared.journal.Mark.{Mark}
use Rattle.apcu_model.specs.declared.request.Reply.{Reply}
use Rattle.apcu_model.specs.History.{mark_of, marks_of}
use Rattle.pin_table.specs.Events.{events_of}
use Rattle.script_read.specs.declared.script.Step.{Step}
use Rattle.script_read.specs.Play.{Wish, wanted}
use Rattle.script_read.specs.GeneratedScripts.{Draw, Fetches, Stores, Counts, steps_of_draws}
use Rattle.play_laws.specs.Observer.{counters_read, wishes_of_draws, wishes_of_looks, wish_to_end, times_marked, IsObservedLast}
use Rattle.play_laws.proofs.Acts.{Act, Does, Ends}
use Rattle.play_laws.proofs.ActWishes.{step_of, ended, wish_in_act, wanted_act, watching, drawn_body, drawn_steps, work_drawn, work_joined, work_watching}

get_mapped : {X Y : Type 0} (f : X → Y) (xs : List X) (k : ℕ) → option_map f (slice_get xs k) ≡ slice_get (map f xs) k
get_mapped f [] k = refl
get_mapped f (x ∷ xs) zero = refl
get_mapped f (x ∷ xs) (suc k) = get_mapped f xs k

drawn_wishes : (worker : ℕ) (draws : List Draw) → map wish_in_act (drawn_body worker draws) ≡ wishes_of_draws worker draws
drawn_wishes worker [] = refl
drawn_wishes worker (Fetches owner n ∷ draws) = ap (λ (l : List Wish). wish_in_act (Does worker (Fetches owner n)) ∷ l) (drawn_wishes worker draws)
drawn_wishes worker (Stores n len ∷ draws) = ap (λ (l : List Wish). wish_in_act (Does worker (Stores n len)) ∷ l) (drawn_wishes worker draws)
drawn_wishes worker (Counts n step ∷ draws) = ap (λ (l : List Wish). wish_in_act (Does worker (Counts n step)) ∷ l) (drawn_wishes worker draws)

pub others_want : (conf : Conf) (worker : ℕ) (draws : List Draw) (replies : List Reply) → wanted conf (steps_of_draws worker draws) replies ≡ slice_get (wishes_of_draws worker draws ++ wish_to_end ∷ []) (length replies)
others_want conf worker draws replies =
    let body = drawn_body worker draws in
    ap (λ (l : List Step). wanted conf l replies) (sym (drawn_steps worker draws))
    ∙ (wanted_act conf body replies (work_drawn worker draws)
    ∙ (get_mapped wish_in_act (ended body) (length replies)
    ∙ ap (λ (l : List Wish). slice_get l (length replies)) (map-append wish_in_act body (Ends ∷ []) ∙ ap (λ (l : List Wish). l ++ wish_to_end ∷ []) (drawn_wishes worker draws))))

pub observer_wants : (conf : Conf) (draws : List Draw) (replies : List Reply)
    → wanted conf (steps_of_draws 0 draws ++ counters_read) replies ≡ slice_get (wishes_of_draws 0 draws ++ (wishes_of_looks ++ wish_to_end ∷ [])) (length replies)
observer_wants conf draws replies =
    let body = drawn_body 0 draws ++ watching in
    let steps : map step_of body ≡ steps_of_draws 0 draws ++ counters_read = map-append step_of (drawn_body 0 draws) watching ∙ ap (λ (l : List Step). l ++ map step_of watching) (drawn_steps 0 draws) in
    let wishes : map wish_in_act (ended body) ≡ wishes_of_draws 0 draws ++ (wishes_of_looks ++ wish_to_end ∷ []) =
    ap (λ (l : List Act). map wish_in_act l) (append_assoc (drawn_body 0 draws) watching (Ends ∷ []))
    ∙ (map-append wish_in_act (drawn_body 0 draws) (watching ++ Ends ∷ []) ∙ ap (λ (l : List Wish). l ++ map wish_in_act (watching ++ Ends ∷ [])) (drawn_wishes 0 draws)) in
    ap (λ (l : List Step). wanted conf l replies) (sym steps)
    ∙ (wanted_act conf body replies (work_joined (drawn_body 0 draws) watching (work_drawn 0 draws) (work_watching (range_with_len 0 8)))
    ∙ (get_mapped wish_in_act (ended body) (length replies) ∙ ap (λ (l : List Wish). slice_get l (length replies)) wishes))

-- ---- the looks come last

-- the place of a mark in a journal of two parts
in_parts : (first second before after : List Mark) (mark : Mark) → first ++ second ≡ before ++ mark ∷ after
    → ((x : List Mark) × (before ≡ first ++ x) × (second ≡ x ++ mark ∷ after)) ⊎ ((y : List Mark) × (first ≡ before ++ mark ∷ y))
in_parts [] second before after mark e = inl (before, refl, e)
in_parts (a ∷ first) second [] after mark e = let same : a ≡ mark = cc e in inr (first, ap (λ (m : Mark). m ∷ first) same)
in_parts (a ∷ first) second (b ∷ before) after mark e =
    let same : a ≡ b = cc e in
    let rest : first ++ second ≡ before ++ mark ∷ after = cc e in
    elim (in_parts first second before after mark rest) [
      | inl p ↦ inl (p.0, ap (λ (m : Mark). m ∷ before) (sym same) ∙ ap (λ (l : List Mark). a ∷ l) p.1, p.2)
      | inr p ↦ inr (p.0, ap (λ (m : Mark). m ∷ first) same ∙ ap (λ (l : List Mark). b ∷ l) p.1)
    ]

marked_count : (w : ℕ) (events : List Event) → times_marked w (marks_of events) ≡ length (events_of w events)
marked_count w [] = refl
marked_count w (e ∷ events) = count-cons (λ (mark : Mark). mark.worker == w) (mark_of e) (marks_of events) ∙ go (e.worker == w) (marked_count w events)
  where
    go : (b : Bool) → times_marked w (marks_of events) ≡ length (events_of w events) → cond {A = ℕ} b 1 0 + times_marked w (marks_of events) ≡ length (cond b (e ∷ events_of w events) (events_of w events))
    go true h = omega (arith, h)
    go false h = omega (arith, h)

joined_marks : (seen rest : List Event) → marks_of (seen ++ rest) ≡ marks_of seen ++ marks_of rest
joined_marks seen rest = map-append mark_of seen rest

pub come_last : (workers calls : ℕ) (seen rest : List Event) → length (events_of 0 seen) ≡ calls → ((w : ℕ) → 0 < w → w < workers → length (events_of w seen) ≡ calls + 1) → ((w : ℕ) → 0 < w → w < workers → events_of w rest ≡ [])
    → IsObservedLast workers calls (marks_of (seen ++ rest))
come_last workers calls seen rest own others none before after mark split zeroth enough w some few =
    elim (in_parts (marks_of seen) (marks_of rest) before after mark (sym (joined_marks seen rest) ∙ split)) [
      | inl p ↦
          let later : times_marked w (marks_of rest) ≡ 0 = marked_count w rest ∙ ap (λ (l : List Event). length l) (none w some few) in
          let parts : times_marked w before ≡ times_marked w (marks_of seen) + times_marked w p.0 = ap (times_marked w) p.1 ∙ count-append (λ (m : Mark). m.worker == w) (marks_of seen) p.0 in
          let past : times_marked w (marks_of rest) ≡ times_marked w p.0 + times_marked w (mark ∷ after) = ap (times_marked w) p.2 ∙ count-append (λ (m : Mark). m.worker == w) p.0 (mark ∷ after) in
          omega (arith, later, parts, past, marked_count w seen, others w some few)
      | inr p ↦
          let one : cond {A = ℕ} (mark.worker == 0) 1 0 ≡ 1 = ap (λ b. cond {A = ℕ} b 1 0) (eq-eqb mark.worker 0 zeroth) in
          let parts : times_marked 0 (marks_of seen) ≡ times_marked 0 before + times_marked 0 (mark ∷ p.0) = ap (times_marked 0) p.1 ∙ count-append (λ (m : Mark). m.worker == 0) before (mark ∷ p.0) in
          absurd (omega (arith, one, parts, count-cons (λ (m : Mark). m.worker == 0) mark p.0, marked_count 0 seen, own, enough))
    ]
