-- The place of each worker's pass, and the workers that copy, after the views have changed.
use Rattle.std.proofs.Common.{◌≡◌, ◌≢◌, ℕ, zero, suc, ◌+◌, ◌<◌, ◌||◌, Bool, true, false, cond, List, [], ◌∷◌, ◌++◌, length, set, refl, ap, sym, ◌∙◌, subst, arith, length-set}
use Rattle.std.proofs.lemmas.Bool.{false≢true, eqb-true}
use native.Mathlib.Decide.{ℕ_discrete}
use mathlib.Core.Option.{some, some-injective, some-ne-none}
use lib.ListN.{get_elem?}
use Rattle.atomic_table.proofs.Lists.{set_here, set_else, at_longer, at_last}
use Rattle.pin_table.specs.declared.views.Known.{Known}
use Rattle.pin_table.specs.declared.views.EventLog.{EventLog}
use Rattle.pin_table.specs.declared.views.Reader.{Reader}
use Rattle.pin_table.specs.declared.views.WriterState.{WriterState}
use Rattle.pin_table.specs.declared.views.View.{View}
use Rattle.pin_table.specs.declared.views.View.TheVariants.{Writer, Idle, Copying, Spent}
use Rattle.pin_table.specs.Pins.{pins_on, is_count}
use Rattle.pin_table.specs.Views.{is_in_hand, has_worker, carries, copied_block, copied_blocks}
use Rattle.pin_table.specs.Order.{AllPlaced}
use Rattle.pin_table.proofs.WindowLists.{at_less, same_there, pins_on-set}
use Rattle.pin_table.proofs.EventLogs.{moved, moved_here, moved_else}

not_writer : (w : ℕ) (v : View) (d : WriterState) → carries w v ≡ true → v ≡ Writer d → ⊥
not_writer w v d h e = false≢true (subst (λ (x : View). carries w x ≡ true) e h)

-- the writer's view becomes another
pub placed_writer : (b : EventLog) (place : ℕ → ℕ) (views : List View) (d : WriterState) (u : View) → get_elem? views 0 ≡ some (Writer d) → AllPlaced b place views → AllPlaced b place (set views 0 u)
placed_writer b place views d u at all w made hand closed =
    let f = all w made hand closed in
    (f.0, set_else views 0 (place w) u (λ e. not_writer w f.0 d f.2 (same_there views 0 f.0 (Writer d) (subst (λ k. get_elem? views k ≡ some f.0) e f.1) at)) ∙ f.1, f.2)

-- .. and there is a new pass, of the worker v
pub placed_cut : (b c : EventLog) (place : ℕ → ℕ) (views : List View) (d : WriterState) (u new : View) (v : ℕ) → get_elem? views 0 ≡ some (Writer d) → carries v new ≡ true
    → ((w : ℕ) → w ≢ v → w < c.made → is_in_hand w c.hand ≡ false → has_worker w c.closed ≡ false → (w < b.made) × (is_in_hand w b.hand ≡ false) × (has_worker w b.closed ≡ false))
    → AllPlaced b place views → AllPlaced c (moved place v (length views)) (set views 0 u ++ new ∷ [])
placed_cut b c place views d u new v at mine older all w made hand closed = go (ℕ_discrete w v)
  where
    go : Dec (w ≡ v) → (x : View) × (get_elem? (set views 0 u ++ new ∷ []) (moved place v (length views) w) ≡ some x) × (carries w x ≡ true)
    go (yes e) = (
      new,
      subst (λ k. get_elem? (set views 0 u ++ new ∷ []) (moved place v (length views) k) ≡ some new) (sym e)
          (subst (λ k. get_elem? (set views 0 u ++ new ∷ []) k ≡ some new) (sym (moved_here place v (length views))) (at_last (set views 0 u) new (length views) (length-set views 0 u))),
      subst (λ k. carries k new ≡ true) (sym e) mine,
    )
    go (no apart) =
        let o = older w apart made hand closed in
        let f = placed_writer b place views d u at all w o.0 o.1 o.2 in
        (f.0, subst (λ k. get_elem? (set views 0 u ++ new ∷ []) k ≡ some f.0) (sym (moved_else place v (length views) w apart)) (at_longer (set views 0 u) (new ∷ []) (place w) f.0 f.1), f.2)

-- .. and a pass is spent
pub placed_join : (b c : EventLog) (place : ℕ → ℕ) (views : List View) (d : WriterState) (u : View) (p : Known) (other : ℕ) → get_elem? views 0 ≡ some (Writer d) → get_elem? views other ≡ some (Idle p)
    → ((w : ℕ) → w < c.made → is_in_hand w c.hand ≡ false → has_worker w c.closed ≡ false → (w ≢ p.worker) × (w < b.made) × (is_in_hand w b.hand ≡ false) × (has_worker w b.closed ≡ false))
    → AllPlaced b place views → AllPlaced c place (set (set views 0 u) other Spent)
placed_join b c place views d u p other at there older all w made hand closed =
    let o = older w made hand closed in
    let f = all w o.1 o.2 o.3 in
    let g = placed_writer b place views d u at all w o.1 o.2 o.3 in
    (g.0, set_else (set views 0 u) other (place w) Spent (λ e. o.0 (mine f.0 f.2 (same_there views other f.0 (Idle p) (subst (λ k. get_elem? views k ≡ some f.0) e f.1) there))) ∙ g.1, g.2)
  where
    mine : (v : View) → carries w v ≡ true → v ≡ Idle p → w ≡ p.worker
    mine v h e = sym (eqb-true p.worker w (subst (λ (x : View). carries w x ≡ true) e h))

-- a pass that copied is idle again
pub placed_release : (b : EventLog) (place : ℕ → ℕ) (views : List View) (id : ℕ) (c : Reader) → get_elem? views id ≡ some (Copying c) → AllPlaced b place views → AllPlaced b place (set views id (Idle c.known))
placed_release b place views id c at all w made hand closed = go (ℕ_discrete (place w) id)
  where
    go : Dec (place w ≡ id) → (x : View) × (get_elem? (set views id (Idle c.known)) (place w) ≡ some x) × (carries w x ≡ true)
    go (yes e) =
        let f = all w made hand closed in (
          Idle c.known,
          subst (λ k. get_elem? (set views id (Idle c.known)) k ≡ some (Idle c.known)) (sym e) (set_here views id (Idle c.known) (at_less views id (Copying c) at)),
          subst (λ (x : View). carries w x ≡ true) (same_there views id f.0 (Copying c) (subst (λ k. get_elem? views k ≡ some f.0) e f.1) at) f.2,
        )
    go (no apart) = let f = all w made hand closed in (f.0, set_else views id (place w) (Idle c.known) apart ∙ f.1, f.2)

-- the workers that copy, by the workers and by the views
abbrev pub SameCopies : List ℕ → List View → Type 0
SameCopies copying views = (i : ℕ) → pins_on i copying ≡ pins_on i (copied_blocks views)

blocks_set : (views : List View) (k : ℕ) (u : View) → copied_blocks (set views k u) ≡ set (copied_blocks views) k (copied_block u)
blocks_set [] k u = refl
blocks_set (v ∷ vs) zero u = refl
blocks_set (v ∷ vs) (suc k) u = ap (λ t. copied_block v ∷ t) (blocks_set vs k u)

blocks_at : (views : List View) (k : ℕ) (v : View) → get_elem? views k ≡ some v → get_elem? (copied_blocks views) k ≡ some (copied_block v)
blocks_at [] k v h = absurd (some-ne-none v (sym h))
blocks_at (x ∷ xs) zero v h = ap (λ (y : View). some (copied_block y)) (some-injective x v h)
blocks_at (x ∷ xs) (suc k) v h = blocks_at xs k v h

pins_more : (i : ℕ) (views : List View) (u : View) → pins_on i (copied_blocks (views ++ u ∷ [])) ≡ pins_on i (copied_blocks views) + cond (is_count i (copied_block u)) 1 0
pins_more i [] u = omega arith
pins_more i (v ∷ vs) u = omega (arith, pins_more i vs u)

-- a view becomes another
pins_changed : (i : ℕ) (views : List View) (k : ℕ) (old new : View) → get_elem? views k ≡ some old
    → pins_on i (copied_blocks (set views k new)) + cond (is_count i (copied_block old)) 1 0 ≡ pins_on i (copied_blocks views) + cond (is_count i (copied_block new)) 1 0
pins_changed i views k old new at =
    ap (λ l. pins_on i l + cond (is_count i (copied_block old)) 1 0) (blocks_set views k new)
    ∙ pins_on-set i (copied_blocks views) k (copied_block new) (copied_block old) (blocks_at views k old at)

pub copies_writer : (copying : List ℕ) (views : List View) (d e : WriterState) → get_elem? views 0 ≡ some (Writer d) → SameCopies copying views → SameCopies copying (set views 0 (Writer e))
copies_writer copying views d e at same i =
    let c : pins_on i (copied_blocks (set views 0 (Writer e))) + 0 ≡ pins_on i (copied_blocks views) + 0 = pins_changed i views 0 (Writer d) (Writer e) at in
    omega (arith, same i, c)

pub copies_cut : (copying : List ℕ) (views : List View) (d e : WriterState) (p : Known) → get_elem? views 0 ≡ some (Writer d) → SameCopies copying views → SameCopies copying (set views 0 (Writer e) ++ Idle p ∷ [])
copies_cut copying views d e p at same i =
    let m : pins_on i (copied_blocks (set views 0 (Writer e) ++ Idle p ∷ [])) ≡ pins_on i (copied_blocks (set views 0 (Writer e))) + 0 = pins_more i (set views 0 (Writer e)) (Idle p) in
    omega (arith, copies_writer copying views d e at same i, m)

pub copies_out : (copying : List ℕ) (views : List View) (d e : WriterState) (c : Reader) (w : ℕ) → get_elem? views 0 ≡ some (Writer d) → get_elem? copying w ≡ some 0 → SameCopies copying views
    → SameCopies (set copying w c.block) (set views 0 (Writer e) ++ Copying c ∷ [])
copies_out copying views d e c w at free same i =
    let m : pins_on i (copied_blocks (set views 0 (Writer e) ++ Copying c ∷ [])) ≡ pins_on i (copied_blocks (set views 0 (Writer e))) + cond (is_count i c.block) 1 0 = pins_more i (set views 0 (Writer e)) (Copying c) in
    let n : pins_on i (set copying w c.block) + 0 ≡ pins_on i copying + cond (is_count i c.block) 1 0 = pins_on-set i copying w c.block 0 free in
    omega (arith, copies_writer copying views d e at same i, m, n)

pub copies_join : (copying : List ℕ) (views : List View) (d e : WriterState) (p : Known) (other : ℕ) → get_elem? views 0 ≡ some (Writer d) → get_elem? (set views 0 (Writer e)) other ≡ some (Idle p) → SameCopies copying views
    → SameCopies copying (set (set views 0 (Writer e)) other Spent)
copies_join copying views d e p other at there same i =
    let c : pins_on i (copied_blocks (set (set views 0 (Writer e)) other Spent)) + 0 ≡ pins_on i (copied_blocks (set views 0 (Writer e))) + 0 = pins_changed i (set views 0 (Writer e)) other (Idle p) Spent there in
    omega (arith, copies_writer copying views d e at same i, c)

pub copies_release : (copying : List ℕ) (views : List View) (id : ℕ) (c : Reader) → get_elem? views id ≡ some (Copying c) → get_elem? copying c.known.worker ≡ some c.block → SameCopies copying views
    → SameCopies (set copying c.known.worker 0) (set views id (Idle c.known))
copies_release copying views id c at mine same i =
    let m : pins_on i (copied_blocks (set views id (Idle c.known))) + cond (is_count i c.block) 1 0 ≡ pins_on i (copied_blocks views) + 0 = pins_changed i views id (Copying c) (Idle c.known) at in
    let n : pins_on i (set copying c.known.worker 0) + cond (is_count i c.block) 1 0 ≡ pins_on i copying + 0 = pins_on-set i copying c.known.worker 0 c.block mine in
    omega (arith, same i, m, n)

pub both_false : (a b : Bool) → (a || b) ≡ false → (a ≡ false) × (b ≡ false)
both_false false b h = (refl, h)
both_false true b h = absurd (false≢true (sym h))
