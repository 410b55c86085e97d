-- No place is there twice.
use Rattle.std.proofs.Common.{◌≡◌, ◌≢◌, inl, inr, ℕ, ◌+◌, ◌<◌, ◌≤◌, Bool, true, false, cond, eqb, List, [], ◌∷◌, ◌++◌, length, map, refl, sym, ap, ◌∙◌, arith}
use Rattle.std.proofs.lemmas.Bool.{cases_lt, eqb-true, eq-eqb}
use Rattle.std.specs.List.{Contains, count_by}
use Rattle.seg_words.specs.declared.gaps.Extent.{Extent}
use Rattle.seg_words.specs.Windows.{Aside}
use Rattle.sma_blocks.specs.Order.{ready_blocks}
use Rattle.sma_blocks.specs.Live.{live_blocks}
use Rattle.sma_blocks.specs.Ready.{AreBlocks}
use Rattle.apcu_model.specs.Cache.{Row}
use Rattle.apcu_model.specs.Cache as cache
use Rattle.entry_slots.specs.declared.slots.EntrySlots.{EntrySlots}
use Rattle.entry_slots.specs.Lists.{is_at, begins_at}
use Rattle.entry_slots.specs.Entries.{Entries, listed, blocks_of}
use Rattle.entry_slots.specs.Standing.{Stands}
use Rattle.entry_slots.proofs.Blocks.{blocks_between}
use Rattle.seg_words.specs.Members.{Contains-cases, count-cons, count-append, counted_some, counted_there, none_in_nil}

pub blocks_once : (ws : List ℕ) (low : ℕ) (es : List Extent) (high x : ℕ) → AreBlocks ws low es high → count_by (begins_at x) es ≤ 1
blocks_once ws low [] high x h = omega arith
blocks_once ws low (e ∷ es) high x h =
    go (eqb e.place x) refl (blocks_once ws (e.place + e.size) es high x h.3)
  where
    none_later : e.place ≡ x → count_by (begins_at x) es < 1
    none_later is = elim (cases_lt (count_by (begins_at x) es) 1) [
      | inl few ↦ few
      | inr some ↦ let r = counted_there (begins_at x) es some in
          absurd (omega (arith, (blocks_between ws (e.place + e.size) es high r.0 h.3 r.1).0, eqb-true r.0.place x r.2, h.1))
    ]

    go : (here : Bool) → eqb e.place x ≡ here → count_by (begins_at x) es ≤ 1 → count_by (begins_at x) (e ∷ es) ≤ 1
    go true is rest =
        let one : cond {A = ℕ} (begins_at x e) 1 0 ≡ 1 = ap (λ v. cond {A = ℕ} v 1 0) is in
        omega (arith, count-cons (begins_at x) e es, none_later (eqb-true e.place x is))
    go false is rest =
        let none : cond {A = ℕ} (begins_at x e) 1 0 ≡ 0 = ap (λ v. cond {A = ℕ} v 1 0) is in
        omega (arith, count-cons (begins_at x) e es)

pub count-map : {X Y : Type 0} (p : Y → Bool) (f : X → Y) (xs : List X) → count_by p (map f xs) ≡ count_by (λ x. p (f x)) xs
count-map p f [] = refl
count-map p f (x ∷ xs) = omega (arith, count-cons p (f x) (map f xs), count-cons (λ y. p (f y)) x xs, count-map p f xs)

-- all blocks, list by list
pub count_blocks : (test : Extent → Bool) (s : Entries) → count_by test (blocks_of s)
    ≡ count_by (λ row. test (cache.extent_of row)) s.rows + (count_by (λ row. test (cache.extent_of row)) s.removed + (count_by (λ row. test (cache.extent_of row)) s.unlinked + count_by test s.taken))
count_blocks test s =
    let rows : List Extent = map cache.extent_of s.rows in
    let removed : List Extent = map cache.extent_of s.removed in
    let unlinked : List Extent = map cache.extent_of s.unlinked in
    omega (
      arith,
      count-append test rows (removed ++ (unlinked ++ s.taken)),
      count-append test removed (unlinked ++ s.taken),
      count-append test unlinked s.taken,
      count-map test cache.extent_of s.rows,
      count-map test cache.extent_of s.removed,
      count-map test cache.extent_of s.unlinked,
    )

-- one block at most stands at a place
pub once : {e : EntrySlots} {ws : List ℕ} {aside : Aside} {s : Entries} → Stands e ws aside s → (x : ℕ)
    → count_by (is_at x) s.rows + (count_by (is_at x) s.removed + (count_by (is_at x) s.unlinked + count_by (begins_at x) s.taken)) ≤ 1
once {e} {ws} {aside} {s} h x =
    omega (arith, count_blocks (begins_at x) s, h.blocks.count (begins_at x), blocks_once ws e.sma.bounds.from (live_blocks ws e.sma.bounds.from) e.sma.bounds.to x (ready_blocks h.ready))

pub at_itself : (row : Row) (x : ℕ) → row.place ≡ x → is_at x row ≡ true
at_itself row x e = eq-eqb row.place x e

pub rows_removed : {e : EntrySlots} {ws : List ℕ} {aside : Aside} {s : Entries} → Stands e ws aside s → (p q : Row) → Contains s.rows p → Contains s.removed q → q.place ≢ p.place
rows_removed {s = s} h p q cp cq same =
    omega (arith, once h p.place, counted_some (is_at p.place) s.rows p cp (at_itself p p.place refl), counted_some (is_at p.place) s.removed q cq (at_itself q p.place same))

pub rows_unlinked : {e : EntrySlots} {ws : List ℕ} {aside : Aside} {s : Entries} → Stands e ws aside s → (p q : Row) → Contains s.rows p → Contains s.unlinked q → q.place ≢ p.place
rows_unlinked {s = s} h p q cp cq same =
    omega (arith, once h p.place, counted_some (is_at p.place) s.rows p cp (at_itself p p.place refl), counted_some (is_at p.place) s.unlinked q cq (at_itself q p.place same))

pub removed_unlinked : {e : EntrySlots} {ws : List ℕ} {aside : Aside} {s : Entries} → Stands e ws aside s → (p q : Row) → Contains s.removed p → Contains s.unlinked q → q.place ≢ p.place
removed_unlinked {s = s} h p q cp cq same =
    omega (arith, once h p.place, counted_some (is_at p.place) s.removed p cp (at_itself p p.place refl), counted_some (is_at p.place) s.unlinked q cq (at_itself q p.place same))

-- how many blocks fit
blocks_few : (ws : List ℕ) (low : ℕ) (es : List Extent) (high : ℕ) → AreBlocks ws low es high → low + count_by (λ (e : Extent). true) es ≤ high
blocks_few ws low [] high h = omega (arith, h)
blocks_few ws low (e ∷ es) high h = omega (arith, count-cons (λ (x : Extent). true) e es, h.0, h.1, blocks_few ws (e.place + e.size) es high h.3)

count_all : {X : Type 0} (xs : List X) → count_by (λ x. true) xs ≡ length xs
count_all [] = refl
count_all (x ∷ xs) = omega (arith, count-cons (λ y. true) x xs, count_all xs)

pub rows_few : {e : EntrySlots} {ws : List ℕ} {aside : Aside} {s : Entries} → Stands e ws aside s → e.count ≤ length ws
rows_few {e} {ws} {aside} {s} h =
    omega (arith, h.count, count_all s.rows, count_blocks (λ (x : Extent). true) s, h.blocks.count (λ (x : Extent). true), h.ready.end, blocks_few ws e.sma.bounds.from (live_blocks ws e.sma.bounds.from) e.sma.bounds.to (ready_blocks h.ready))

pub removed_few : {e : EntrySlots} {ws : List ℕ} {aside : Aside} {s : Entries} → Stands e ws aside s → e.sma.bounds.from + length s.removed ≤ length ws
removed_few {e} {ws} {aside} {s} h =
    omega (arith, count_all s.removed, count_blocks (λ (x : Extent). true) s, h.blocks.count (λ (x : Extent). true), h.ready.end, blocks_few ws e.sma.bounds.from (live_blocks ws e.sma.bounds.from) e.sma.bounds.to (ready_blocks h.ready))

one_of : (x : ℕ) (rows : List Row) (p q : Row) → count_by (is_at x) rows ≤ 1 → Contains rows p → Contains rows q → p.place ≡ x → q.place ≡ x → p ≡ q
one_of x [] p q few cp cq ep eq' = absurd (none_in_nil p cp)
one_of x (row ∷ rows) p q few cp cq ep eq' = elim (Contains-cases row rows p cp) [
  | inl here ↦ elim (Contains-cases row rows q cq) [
    | inl too ↦ sym here ∙ too
    | inr later ↦
        let one : cond {A = ℕ} (is_at x row) 1 0 ≡ 1 = ap (λ (b : Bool). cond {A = ℕ} b 1 0) (at_itself row x (ap (λ (r : Row). r.place) here ∙ ep)) in
        absurd (omega (arith, few, count-cons (is_at x) row rows, counted_some (is_at x) rows q later (at_itself q x eq')))
  ]
  | inr later ↦ elim (Contains-cases row rows q cq) [
    | inl here ↦
        let one : cond {A = ℕ} (is_at x row) 1 0 ≡ 1 = ap (λ (b : Bool). cond {A = ℕ} b 1 0) (at_itself row x (ap (λ (r : Row). r.place) here ∙ eq')) in
        absurd (omega (arith, few, count-cons (is_at x) row rows, counted_some (is_at x) rows p later (at_itself p x ep)))
    | inr too ↦ one_of x rows p q (omega (arith, few, count-cons (is_at x) row rows)) later too ep eq'
  ]
]

-- two rows at one place are one
pub rows_one : {e : EntrySlots} {ws : List ℕ} {aside : Aside} {s : Entries} → Stands e ws aside s → (p q : Row) → Contains s.rows p → Contains s.rows q → p.place ≡ q.place → p ≡ q
rows_one {s = s} h p q cp cq e = one_of q.place s.rows p q (omega (arith, once h q.place)) cp cq e refl

-- also of rows and removed rows
pub listed_one : (e : EntrySlots) (ws : List ℕ) (aside : Aside) (s : Entries) (p q : Row) → Stands e ws aside s → Contains (listed s) p → Contains (listed s) q → p.place ≡ q.place → p ≡ q
listed_one e ws aside s p q h cp cq same =
    one_of q.place (listed s) p q (omega (arith, once h q.place, count-append (is_at q.place) s.rows s.removed)) cp cq same refl
