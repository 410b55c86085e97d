-- Histories that are one event longer.
use Rattle.std.proofs.Common.{◌≡◌, ℕ, ◌&&◌, Bool, true, false, List, [], ◌∷◌, ◌++◌, refl, ap, ◌∙◌}
use Rattle.apcu_model.specs.declared.request.Event.{Event}
use Rattle.apcu_model.specs.History.{Stage, after_event, after_events, all_legal, is_legal_mask, is_shallow, are_shallow, mark_of, marks_of}

pub after-more : (m : Stage) (events : List Event) (e : Event) → after_events m (events ++ e ∷ []) ≡ after_event (after_events m events) e
after-more m [] e = refl
after-more m (x ∷ events) e = after-more (after_event m x) events e

and_true : (b : Bool) → (b && true) ≡ b
and_true true = refl
and_true false = refl

and_assoc : (a b c : Bool) → (a && (b && c)) ≡ ((a && b) && c)
and_assoc true b c = refl
and_assoc false b c = refl

pub legal-more : (workers : ℕ) (m : Stage) (events : List Event) (e : Event)
    → all_legal workers m (events ++ e ∷ []) ≡ (all_legal workers m events && is_legal_mask workers e.worker (after_events m events) e.mask)
legal-more workers m [] e = and_true (is_legal_mask workers e.worker m e.mask)
legal-more workers m (x ∷ events) e =
    let first = is_legal_mask workers x.worker m x.mask in
    let rest = all_legal workers (after_event m x) events in
    let last = is_legal_mask workers e.worker (after_events (after_event m x) events) e.mask in
    ap (λ b. first && b) (legal-more workers (after_event m x) events e) ∙ and_assoc first rest last

pub shallow-more : (events : List Event) (e : Event) → are_shallow (events ++ e ∷ []) ≡ (are_shallow events && is_shallow e.request)
shallow-more [] e = and_true (is_shallow e.request)
shallow-more (x ∷ events) e =
    ap (λ b. is_shallow x.request && b) (shallow-more events e) ∙ and_assoc (is_shallow x.request) (are_shallow events) (is_shallow e.request)

pub marks-more : (events : List Event) (e : Event) → marks_of (events ++ e ∷ []) ≡ marks_of events ++ mark_of e ∷ []
marks-more [] e = refl
marks-more (x ∷ events) e = ap (λ marks. mark_of x ∷ marks) (marks-more events e)
