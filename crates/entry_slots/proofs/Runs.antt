-- Runs of words that are written, by what the crate below says of them.
use Rattle.std.proofs.Common.{◌≡◌, ℕ, ◌+◌, ◌<◌, ◌≤◌, List, [], ◌∷◌, ◌++◌, length, take, drop, get_or, slice_set, sym, ap, ap₂, ◌∙◌, subst, arith}
use Rattle.std.proofs.lemmas.List.{take_more, length-take-le, drop-drop}
use Rattle.std.proofs.lemmas.List.FromFn.{get_or-map-range_with_len, length-map-range_with_len}
use Rattle.seg_words.specs.Windows.{Aside}
use Rattle.seg_words.specs.Blocks.{MayStore}
use Rattle.seg_words.specs.Layout.{words_in}
use Rattle.value_image.specs.PackedBytes.{words_of, word_at}
use Rattle.value_image.specs.Rows.{written, MayWrite}
use Rattle.entry_slots.specs.Lower.{Laws}

pub words_long : (bytes : List ℕ) → length (words_of bytes) ≡ words_in (length bytes)
words_long bytes = length-map-range_with_len (word_at bytes) 0 (words_in (length bytes))

pub word_there : (bytes : List ℕ) (k : ℕ) → k < words_in (length bytes) → get_or (words_of bytes) k 0 ≡ word_at bytes k
word_there bytes k lt = get_or-map-range_with_len (word_at bytes) 0 (words_in (length bytes)) k k 0 lt (omega arith)

pub may_write_fewer : (row windows : List ℕ) (at n m : ℕ) → MayWrite row windows at n → m ≤ n → MayWrite row windows at m
may_write_fewer row windows at n m h le = record { inside = omega (arith, h.inside); apart = λ i low high. h.apart i low (omega arith) }

-- behind a run that was written the rest may still be
pub may_write_after : Laws → (row windows : List ℕ) (at n : ℕ) (run : List ℕ) (b m : ℕ) → MayWrite row windows at n → b ≡ at + length run → length run + m ≤ n → MayWrite (written row at run) windows b m
may_write_after law row windows at n run b m h e le =
    let same = law.written.long row at run in
    record {
      inside = omega (arith, same, h.inside);
      apart = λ i low high. law.written.stored row windows at run i (may_write_fewer row windows at n (length run) h (omega arith)) (h.apart i (omega arith) (omega arith));
    }

-- The same from one call to the next: a run was written, nothing else has changed.
pub may_write_along : Laws → (row : List ℕ) (old : Aside) (at n : ℕ) (run row' : List ℕ) (new : Aside) (b m : ℕ) → MayWrite row old.windows at n
    → row' ≡ written row at run → new ≡ old → b ≡ at + length run → length run + m ≤ n → MayWrite row' new.windows b m
may_write_along law row old at n run row' new b m h ew ea eb le =
    rw (ew, ea) (may_write_after law row old.windows at n run b m h eb le)

-- one run written behind another
pub written_along : Laws → (row : List ℕ) (at : ℕ) (xs ys row' row'' : List ℕ) (b : ℕ) → row' ≡ written row at xs → row'' ≡ written row' b ys → b ≡ at + length xs → row'' ≡ written row at (xs ++ ys)
written_along law row at xs ys row' row'' b e f eb =
    f ∙ (ap (λ (r : List ℕ). written r b ys) e ∙ (ap (λ (k : ℕ). written (written row at xs) k ys) eb ∙ sym (law.written.joined row at xs ys)))

-- eight words that are stored at once are such a run
pub eight_written : Laws → (row : List ℕ) (at : ℕ) (run row' : List ℕ) → length run ≡ 8 → at + 8 ≤ length row → row' ≡ take at row ++ (run ++ drop (at + 8) row) → row' ≡ written row at run
eight_written law row at run row' count inside is =
    is ∙ sym (law.written.cut row at run (omega (arith, count, inside)) ∙ ap (λ (r : List ℕ). take at row ++ (run ++ r)) (ap (λ (n : ℕ). drop n (drop at row)) count ∙ drop-drop 8 at row))

-- the next word of a run that is being written may be stored
pub may_store_next : Laws → (row windows : List ℕ) (at i : ℕ) (run : List ℕ) → MayWrite row windows at (length run) → i < length run
    → (at + i < length (written row at (take i run))) × MayStore (written row at (take i run)) windows (at + i)
may_store_next law row windows at i run h lt =
    let front : length (take i run) ≡ i = length-take-le i run (omega arith) in
    let more : MayWrite (written row at (take i run)) windows (at + i) 1 = may_write_after law row windows at (length run) (take i run) (at + i) 1 h (omega arith) (omega arith) in
    (omega (arith, more.inside), more.apart (at + i) (omega arith) (omega arith))

-- and then one word more of it is written
pub written_more : Laws → (row : List ℕ) (at : ℕ) (run : List ℕ) (i x : ℕ) → i < length run → x ≡ get_or run i 0 → slice_set (written row at (take i run)) (at + i) x ≡ written row at (take (i + 1) run)
written_more law row at run i x lt e =
    let front : length (take i run) ≡ i = length-take-le i run (omega arith) in
    ap₂ (λ (k y : ℕ). slice_set (written row at (take i run)) k y) (ap (λ (k : ℕ). at + k) (sym front)) e
    ∙ (sym (law.written.joined row at (take i run) (get_or run i 0 ∷ [])) ∙ ap (λ (r : List ℕ). written row at r) (sym (take_more run i 0 lt)))

-- what may be stored still may be, once another such word was
pub may_store_set : Laws → (row windows : List ℕ) (j i w : ℕ) → j < length row → MayStore row windows j → MayStore row windows i → MayStore (slice_set row j w) windows i
may_store_set law row windows j i w inside hj hi =
    law.written.stored row windows j (w ∷ []) i (record {
      inside = omega arith;
      apart = λ k low high. let e : j ≡ k = omega arith in subst (λ (n : ℕ). MayStore row windows n) e hj;
    }) hi
