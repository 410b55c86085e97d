-- Runs of words that are written into a row, or stand in it.
use Rattle.std.proofs.Common.{◌≡◌, ◌≢◌, ℕ, ◌+◌, ◌-◌, ◌<◌, ◌≤◌, List, [], ◌∷◌, ◌++◌, length, slice_set, slice_index, take, drop, get_or, refl, ap, ap₂, sym, ◌∙◌, arith, add-zero, length-append}
use Rattle.std.proofs.lemmas.List.{length-set, get_or-set_other, take-append-drop, take_more_set, drop-set-lt, drop-drop, append_assoc, take_at, drop_at, length-take, length-take-le, length-drop, get_or-drop, get_or-take, take-take, drop-take}
use Rattle.seg_words.specs.Windows.{Aside}
use Rattle.seg_words.specs.Blocks.{MayStore, may_store_set}
use Rattle.value_image.specs.Rows.{written, MayWrite, StandsAt, IsToldAt}

-- ---- what was written

pub length-written : (row : List ℕ) (at : ℕ) (run : List ℕ) → length (written row at run) ≡ length row
length-written row at [] = refl
length-written row at (w ∷ run) = length-written (slice_set row at w) (at + 1) run ∙ length-set row at w

-- one run after another
pub written-append : (row : List ℕ) (at : ℕ) (xs ys : List ℕ) → written row at (xs ++ ys) ≡ written (written row at xs) (at + length xs) ys
written-append row at [] ys = ap (λ k. written row k ys) (sym (add-zero at))
written-append row at (x ∷ xs) ys =
    let e : (at + 1) + length xs ≡ at + length (x ∷ xs) = omega arith in
    written-append (slice_set row at x) (at + 1) xs ys ∙ ap (λ k. written (written (slice_set row at x) (at + 1) xs) k ys) e

-- the same, where the second run's place is known
pub written-then : (row : List ℕ) (at : ℕ) (xs ys : List ℕ) (b : ℕ) → b ≡ at + length xs → written (written row at xs) b ys ≡ written row at (xs ++ ys)
written-then row at xs ys b e =
    ap (λ k. written (written row at xs) k ys) e ∙ sym (written-append row at xs ys)

-- a run that was written, as a cut of the row
pub written-is : (row : List ℕ) (at : ℕ) (run : List ℕ) → at + length run ≤ length row → written row at run ≡ take at row ++ (run ++ drop (length run) (drop at row))
written-is row at [] le = sym (take-append-drop at row)
written-is row at (w ∷ run) le =
    let same = length-set row at w in
    let more = written-is (slice_set row at w) (at + 1) run (omega (arith, same)) in
    let front = take_more_set row at w (omega arith) in
    let back = drop-set-lt (at + 1) row at w (omega arith) in
    let shift : drop (length run) (drop (at + 1) row) ≡ drop (length (w ∷ run)) (drop at row) =
    drop-drop (length run) (at + 1) row ∙ (ap (λ (k : ℕ). drop k row) (omega arith) ∙ sym (drop-drop (length (w ∷ run)) at row)) in
    more ∙ (ap₂ (λ (a b : List ℕ). a ++ (run ++ drop (length run) b)) front back
    ∙ (append_assoc (take at row) (w ∷ []) (run ++ drop (length run) (drop (at + 1) row))
    ∙ ap (λ (r : List ℕ). take at row ++ (w ∷ (run ++ r))) shift))

-- what was written is there
pub stands-written : (row : List ℕ) (at : ℕ) (run : List ℕ) → at + length run ≤ length row → StandsAt (written row at run) at run
stands-written row at run le =
    let front : length (take at row) ≡ at = length-take-le at row (omega arith) in
    ap (λ (r : List ℕ). take (length run) (drop at r)) (written-is row at run le)
    ∙ (ap (take (length run)) (drop_at (take at row) (run ++ drop (length run) (drop at row)) at front)
    ∙ take_at run (drop (length run) (drop at row)) (length run) refl)

-- ---- what may still be written

-- behind a run that was written the rest may still be
pub may_write-after : (row windows : List ℕ) (at n : ℕ) (run : List ℕ) (b m : ℕ) → MayWrite row windows at n → b ≡ at + length run → length run + m ≤ n → MayWrite (written row at run) windows b m
may_write-after row windows at n [] b m h e le = record {
  inside = omega (arith, h.inside);
  apart = λ i low high. h.apart i (omega arith) (omega arith);
}
may_write-after row windows at n (w ∷ run) b m h e le =
    let same = length-set row at w in
    let next : MayWrite (slice_set row at w) windows (at + 1) (n - 1) = record {
      inside = omega (arith, same, h.inside);
      apart = λ i low high. may_store_set row windows at i w (h.apart at (omega arith) (omega arith)) (h.apart i (omega arith) (omega arith));
    } in
    may_write-after (slice_set row at w) windows (at + 1) (n - 1) run b m next (omega arith) (omega arith)

-- fewer words
pub may_write-fewer : (row windows : List ℕ) (at n m : ℕ) → MayWrite row windows at n → m ≤ n → MayWrite row windows at m
may_write-fewer row windows at n m h le = may_write-after row windows at n [] at m h (omega arith) (omega arith)

-- ---- what stands in a row

-- a run that is there lies inside the row
pub stands-inside : (row : List ℕ) (at : ℕ) (run : List ℕ) → StandsAt row at run → 0 < length run → at + length run ≤ length row
stands-inside row at run h some =
    let len = ap (length {A = ℕ}) h in
    omega (arith, len, length-take (length run) (drop at row), length-drop at row)

-- each word of it
pub stands-at : (row : List ℕ) (at : ℕ) (run : List ℕ) (i : ℕ) → StandsAt row at run → i < length run → slice_index row (at + i) ≡ slice_index run i
stands-at row at run i h lt =
    sym (get_or-drop at row i 0) ∙ (sym (get_or-take (length run) (drop at row) i 0 lt) ∙ ap (λ (r : List ℕ). get_or r i 0) h)

-- its front, and its back
pub stands-front : (row : List ℕ) (at : ℕ) (xs ys : List ℕ) → StandsAt row at (xs ++ ys) → StandsAt row at xs
stands-front row at xs ys h =
    let len = length-append xs ys in
    sym (take-take (length xs) (length (xs ++ ys)) (drop at row) (omega (arith, len)))
    ∙ (ap (take (length xs)) h ∙ take_at xs ys (length xs) refl)

pub stands-back : (row : List ℕ) (at : ℕ) (xs ys : List ℕ) (b : ℕ) → StandsAt row at (xs ++ ys) → b ≡ at + length xs → StandsAt row b ys
stands-back row at xs ys b h e =
    let len = length-append xs ys in
    ap (λ (k : ℕ). take (length ys) (drop k row)) e
    ∙ (ap (take (length ys)) (sym (drop-drop (length xs) at row))
    ∙ (sym (drop-take (length xs) (length ys) (drop at row))
    ∙ (ap (λ (k : ℕ). drop (length xs) (take k (drop at row))) (sym len)
    ∙ (ap (drop (length xs)) h ∙ drop_at xs ys (length xs) refl))))

pub told-front : (row windows : List ℕ) (at : ℕ) (xs ys : List ℕ) → IsToldAt row windows at (xs ++ ys) → IsToldAt row windows at xs
told-front row windows at xs ys h =
    let len = length-append xs ys in
    record {
      stands = stands-front row at xs ys h.stands;
      told = λ i low high. h.told i low (omega arith);
    }

pub told-back : (row windows : List ℕ) (at : ℕ) (xs ys : List ℕ) (b : ℕ) → IsToldAt row windows at (xs ++ ys) → b ≡ at + length xs → IsToldAt row windows b ys
told-back row windows at xs ys b h e =
    let len = length-append xs ys in
    record {
      stands = stands-back row at xs ys b h.stands e;
      told = λ i low high. h.told i (omega arith) (omega arith);
    }

-- the next word of what is being written may be stored
pub may_store-next : (row windows : List ℕ) (at n : ℕ) (run : List ℕ) (i : ℕ) → MayWrite row windows at n → i ≡ length run → i < n
    → (at + i < length (written row at run)) × MayStore (written row at run) windows (at + i)
may_store-next row windows at n run i h e lt =
    let more : MayWrite (written row at run) windows (at + i) 1 = may_write-after row windows at n run (at + i) 1 h (omega arith) (omega arith) in
    (omega (arith, more.inside), more.apart (at + i) (omega arith) (omega arith))

-- The same from one call to the next: a run was written, nothing else has changed.
pub may_write-along : (row : List ℕ) (old : Aside) (at n : ℕ) (run row' : List ℕ) (new : Aside) (b m : ℕ) → MayWrite row old.windows at n
    → row' ≡ written row at run → new ≡ old → b ≡ at + length run → length run + m ≤ n → MayWrite row' new.windows b m
may_write-along row old at n run row' new b m h ew ea eb le =
    rw (ew, ea) (may_write-after row old.windows at n run b m h eb le)

-- one run written behind another
pub written-along : (row : List ℕ) (at : ℕ) (xs ys row' row'' : List ℕ) (b : ℕ) → row' ≡ written row at xs → row'' ≡ written row' b ys → b ≡ at + length xs → row'' ≡ written row at (xs ++ ys)
written-along row at xs ys row' row'' b e f eb =
    f ∙ (ap (λ (r : List ℕ). written r b ys) e ∙ written-then row at xs ys b eb)

pub written-before : (row : List ℕ) (at : ℕ) (run : List ℕ) (i : ℕ) → i < at → slice_index (written row at run) i ≡ slice_index row i
written-before row at [] i lt = refl
written-before row at (w ∷ run) i lt =
    let ne : i ≢ at = omega arith in
    written-before (slice_set row at w) (at + 1) run i (omega arith) ∙ get_or-set_other row at i w 0 ne

pub written-behind : (row : List ℕ) (at : ℕ) (run : List ℕ) (i : ℕ) → at + length run ≤ i → slice_index (written row at run) i ≡ slice_index row i
written-behind row at [] i le = refl
written-behind row at (w ∷ run) i le =
    let ne : i ≢ at = omega arith in
    written-behind (slice_set row at w) (at + 1) run i (omega arith) ∙ get_or-set_other row at i w 0 ne

-- what may be stored still may be, once a run that may be written was
pub may_store-written : (row windows : List ℕ) (at : ℕ) (run : List ℕ) (i : ℕ) → MayWrite row windows at (length run) → MayStore row windows i → MayStore (written row at run) windows i
may_store-written row windows at [] i h hi = hi
may_store-written row windows at (w ∷ run) i h hi =
    let same = length-set row at w in
    let next : MayWrite (slice_set row at w) windows (at + 1) (length run) = record {
      inside = omega (arith, same, h.inside);
      apart = λ j low high. may_store_set row windows at j w (h.apart at (omega arith) (omega arith)) (h.apart j (omega arith) (omega arith));
    } in
    may_store-written (slice_set row at w) windows (at + 1) run i next (may_store_set row windows at i w (h.apart at (omega arith) (omega arith)) hi)
