-- A look at what a worker saw that has ended changes nothing.
use Rattle.std.proofs.Common.{◌≡◌, ℕ, zero, suc, false, List, [], ◌∷◌, set, slice_set, None, Option, refl, ap, sym, ◌∙◌, arith}
use Rattle.std.proofs.lemmas.Bool.{false≢true}
use mathlib.Core.Option.{some}
use mathlib.Core.List.{IsPrefix}
use lib.ListN.{get_elem?}
use Rattle.pin_table.specs.declared.views.Known.{Known}
use Rattle.pin_table.specs.declared.views.WriterState.{WriterState}
use Rattle.pin_table.specs.Events.{events_of, fetched_last, HasRetired}
use Rattle.pin_table.specs.Views.{taken_in, rested, with_hand}
use Rattle.pin_table.specs.Order.{StateInOrder}
use Rattle.pin_table.proofs.EventLogs.{fetched_own, fetched_retired}

set_zero : (ws : List ℕ) (w : ℕ) → ((at : ℕ) → get_elem? ws w ≡ some at → at ≡ 0) → set ws w 0 ≡ ws
set_zero [] w h = refl
set_zero (x ∷ xs) zero h = ap (λ y. y ∷ xs) (sym (h x refl))
set_zero (x ∷ xs) (suc w) h = ap (λ t. x ∷ t) (set_zero xs w h)

-- the window of a worker that has ended is closed already
pub left_alone : (d : WriterState) (p : Known) (c1 c2 : List ℕ) → StateInOrder d c1 → StateInOrder (taken_in d p) c2 → d.log.hand ≡ None → HasRetired p.worker p.own
    → rested (taken_in d p) (with_hand (taken_in d p).log None) ≡ rested d d.log
left_alone d p c1 c2 before after nobody ended =
    let f = after.log.hand p refl in
    let last : fetched_last p.worker d.log.history false ≡ false = sym (fetched_own p.worker d.log.history false) ∙ (ap (λ l. fetched_last p.worker l false) f.own ∙ fetched_retired p.worker p.own ended) in
    let ws : slice_set d.windows p.worker 0 ≡ d.windows = set_zero d.windows p.worker (λ at h. shut last at h) in
    ap (λ (l : List ℕ). let x : WriterState = record { words = d.words; log = with_hand d.log None; windows = l; begun = []; mask = 0; readings = []; pinning = d.pinning } in x) ws
    ∙ ap (λ (h : Option Known). let x : WriterState = record { words = d.words; log = with_hand d.log h; windows = d.windows; begun = []; mask = 0; readings = []; pinning = d.pinning } in x) (sym nobody)
  where
    shut : fetched_last p.worker d.log.history false ≡ false → (at : ℕ) → get_elem? d.windows p.worker ≡ some at → at ≡ 0
    shut last zero h = refl
    shut last (suc at) h = absurd (false≢true (sym last ∙ (before.fetched p.worker (suc at) h (omega arith)).2))

pub was_seen : (d : WriterState) (p : Known) (c : List ℕ) → StateInOrder (taken_in d p) c → IsPrefix p.seen d.log.history
was_seen d p c after = (after.log.hand p refl).seen

pub was_own : (d : WriterState) (p : Known) (c : List ℕ) → StateInOrder (taken_in d p) c → events_of p.worker d.log.history ≡ p.own
was_own d p c after = (after.log.hand p refl).own

pub saw_own : (d : WriterState) (p : Known) (c : List ℕ) → StateInOrder (taken_in d p) c → events_of p.worker p.seen ≡ p.own
saw_own d p c after = (after.log.hand p refl).saw_own
