-- A block put into the list of live blocks, and places of live blocks.
use Rattle.std.proofs.Common.{◌≡◌, ℕ, zero, suc, ◌<◌, ◌≤◌, true, false, ltb, List, [], ◌∷◌, ◌++◌, length, get_or, refl, ap, arith}
use Rattle.std.specs.List.{insert, All}
use Rattle.std.proofs.lemmas.Bool.{lt-ltb, le-ltb}
use Rattle.std.proofs.lemmas.List.Elements.{All-push, Contains-get_or}
use Rattle.seg_words.specs.declared.gaps.Extent.{Extent}
use Rattle.sma_blocks.specs.Live.{IsLive, with_block}

-- a block is put before the first that lies past it
pub with_block-insert : (e d : Extent) (xs : List Extent) (i : ℕ) → i ≤ length xs → ((k : ℕ) → k < i → (get_or xs k d).place ≤ e.place) → (i < length xs → e.place < (get_or xs i d).place) → insert xs i e ≡ with_block e xs
with_block-insert e d [] zero within before after = refl
with_block-insert e d [] (suc i) within before after = absurd (omega arith)
with_block-insert e d (x ∷ xs) zero within before after =
    let past : ltb e.place x.place ≡ true = lt-ltb e.place x.place (after (omega arith)) in
    rw past refl
with_block-insert e d (x ∷ xs) (suc i) within before after =
    let not_past : ltb e.place x.place ≡ false = le-ltb e.place x.place (before 0 (omega arith)) in
    rw not_past (ap (λ ys. x ∷ ys) (with_block-insert e d xs i (omega arith) (λ k lt. before (suc k) (omega arith)) (λ lt. after (omega arith))))

-- the place of one more block put at the end of places of live blocks
pub live_push : (blocks : List Extent) (places : List ℕ) (i : ℕ) (d : Extent) → i < length blocks → All (IsLive blocks) places
    → All (IsLive blocks) (places ++ (get_or blocks i d).place ∷ [])
live_push blocks places i d low live =
    All-push (IsLive blocks) places (get_or blocks i d).place live ((get_or blocks i d).size, Contains-get_or blocks i d low)
