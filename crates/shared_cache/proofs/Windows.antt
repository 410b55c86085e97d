-- The writer's windows, and the masks that its probes gather.
use Rattle.std.proofs.Common.{◌≡◌, ◌≢◌, ℕ, zero, suc, ◌^◌, ◌<◌, ◌==◌, ◌&&◌, ◌||◌, ⊎_elim, Bool, true, false, not, ltb, List, [], ◌∷◌, ◌++◌, length, set, slice_set, Some, refl, ap, sym, ◌∙◌, subst, arith}
use Rattle.std.specs.Prelude.{Contains, is_some, nat_lt}
use Rattle.std.specs.Int.{bit_at}
use Rattle.std.specs.List.{list_all, range_with_len}
use Rattle.std.proofs.lemmas.Bool.{and_from, eqb-true, ne_eqb, lt-ltb}
use mathlib.Core.Option.{some, some-injective, some-ne-none}
use lib.ListN.{get_elem?}
use Rattle.atomic_table.proofs.Lists.{at_set}
use Rattle.seg_words.specs.Windows.{is_named}
use Rattle.apcu_model.specs.declared.request.Event.{Event}
use Rattle.apcu_model.specs.Cache.{Row, Cache}
use Rattle.apcu_model.specs.History.{Stage, window_of, is_in_mask, is_legal_mask, after_event}
use Rattle.apcu_model.proofs.Windows.{window_stays}
use Rattle.pin_table.specs.declared.views.Known.{Known}
use Rattle.pin_table.specs.declared.views.WriterState.{WriterState}
use Rattle.pin_table.specs.Order.{StateInOrder}
use Rattle.shared_cache.specs.Laws.{LockLaws}
use Rattle.shared_cache.specs.TiedWindows.{AreTied}

all_pass : (p : ℕ → Bool) → ((n : ℕ) → p n ≡ true) → (ns : List ℕ) → list_all p ns ≡ true
all_pass p passes [] = refl
all_pass p passes (n ∷ ns) = ap (λ b. b && list_all p ns) (passes n) ∙ all_pass p passes ns

pub at_less : {A : Type 0} (l : List A) (i : ℕ) (a : A) → get_elem? l i ≡ some a → i < length l
at_less [] i a h = absurd (some-ne-none a (sym h))
at_less (x ∷ xs) zero a h = omega arith
at_less (x ∷ xs) (suc i) a h = let r = at_less xs i a h in omega (arith, r)

pub same_there : {A : Type 0} (l : List A) (i : ℕ) (a b : A) → get_elem? l i ≡ some a → get_elem? l i ≡ some b → a ≡ b
same_there l i a b p q = some-injective a b (sym p ∙ q)

pub set_other : (ws : List ℕ) (w j at : ℕ) → get_elem? (set ws w 0) j ≡ some at → 0 < at → (j ≢ w) × (get_elem? ws j ≡ some at)
set_other ws w j at h pos = ⊎_elim (λ (t : (j ≡ w) × (0 ≡ at)). absurd (omega (arith, t.1))) (λ (t : (j ≢ w) × (get_elem? ws j ≡ some at)). t) (at_set ws w j 0 at h)

-- where a window is closed, only named blocks are named
pub named_set : LockLaws → (ws : List ℕ) (w at : ℕ) → is_named (set ws w 0) at ≡ true → is_named ws at ≡ true
named_set laws ws w at h = let t = laws.rule.there (set ws w 0) at h in laws.rule.named ws t.1.0 at (set_other ws w t.1.0 at t.1.1 t.0).1 t.0

-- an event as it ends: the state d, in which nothing was opened since the pass p was taken, and the
-- windows before that
pub record Running (d : WriterState) (p : Known) (old : List ℕ) : Type 0 where
  pub copying : List ℕ
  pub order : StateInOrder d copying
  pub hand : d.log.hand ≡ Some p
  pub begun : d.begun ≡ slice_set old p.worker 0

-- what a window names in an event, it named before
pub from_before : (d : WriterState) (p : Known) (old : List ℕ) → Running d p old
    → (v at : ℕ) → get_elem? d.windows v ≡ some at → 0 < at → (v ≢ p.worker) × (get_elem? old v ≡ some at)
from_before d p old run v at h pos = set_other old p.worker v at (subst (λ ws. get_elem? ws v ≡ some at) run.begun (run.order.shrunk p run.hand v at h pos)) pos

-- the mask that the probes of an event gathered is legal there
pub legal_mask : (workers : ℕ) (m : Stage) (d : WriterState) (p : Known) (old : List ℕ) → Running d p old → AreTied m old
    → length d.log.budgets ≡ workers → d.mask < 2 ^ 64 → is_legal_mask workers p.worker m d.mask ≡ true
legal_mask workers m d p old run tied count small =
    and_from (ltb d.mask (2 ^ 64)) _ (lt-ltb d.mask (2 ^ 64) small) (all_pass _ each (range_with_len 0 64))
  where
    each : (v : ℕ) → (not (is_in_mask d.mask v) || (not (v == p.worker) && nat_lt v workers && is_some (window_of m v))) ≡ true
    each v = go (is_in_mask d.mask v) refl
      where
        go : (b : Bool) → is_in_mask d.mask v ≡ b → (not b || (not (v == p.worker) && nat_lt v workers && is_some (window_of m v))) ≡ true
        go false is = refl
        go true is =
            let k = run.order.masked v (eqb-true (bit_at d.mask v) 1 is) in
            let o = from_before d p old run v k.0 k.1 k.2 in
            let t = tied v k.0 o.1 k.2 in
            let other : (v == p.worker) ≡ false = ne_eqb v p.worker o.0 in
            let less : ltb v workers ≡ true = lt-ltb v workers (let l = at_less d.windows v k.0 k.1 in omega (arith, l, run.order.seats, run.order.all_seats, count)) in
            let opens : is_some (window_of m v) ≡ true = ap is_some t.window in
            rw (other, less, opens) refl

-- the rows under open windows are still in the cache, with their places and numbers
pub record StayOpen (windows : List ℕ) (c d : Cache) : Type 0 where
  pub each : (row : Row) → Contains (c.rows ++ c.removed) row → is_named windows row.place ≡ true
      → (kept : Row) × Contains (d.rows ++ d.removed) kept × (kept.place ≡ row.place) × (kept.number ≡ row.number)

-- after an event that opens no window of the segment
pub tied_after : LockLaws → (m : Stage) (e : Event) (d : WriterState) (p : Known) (old : List ℕ) → Running d p old → AreTied m old
    → e.worker ≡ p.worker → StayOpen d.windows m.cache (after_event m e).cache → AreTied (after_event m e) d.windows
tied_after laws m e d p old run tied same keeps v at h pos =
    let o = from_before d p old run v at h pos in
    let t = tied v at o.1 pos in
    let named : is_named d.windows t.row.place ≡ true = ap (is_named d.windows) t.place ∙ laws.rule.named d.windows v at h pos in
    let k = keeps.each t.row t.there named in
    record {
      row = k.0;
      there = k.1;
      place = k.2 ∙ t.place;
      window = window_stays m e v (λ q. o.0 (q ∙ same)) ∙ (t.window ∙ ap Some (sym k.3));
    }
