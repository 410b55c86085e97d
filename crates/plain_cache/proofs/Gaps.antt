-- Runs of free words, from the last word down.
use Rattle.std.proofs.Common.{◌≡◌, ◌∙◌, ℕ, suc, ◌+◌, ◌-◌, ◌<◌, Bool, true, false, cond, List, [], ◌∷◌}
use Rattle.std.proofs.Common.{filter, reverse, refl, ap, arith}
use Rattle.std.specs.Prelude.{sum_by}
use Rattle.std.specs.List.{range_with_len}
use Rattle.std.proofs.lemmas.List.{reverse-append}
use Rattle.std.proofs.lemmas.List.Sums.{sum_by-cons, sum_by-append}
use Rattle.seg_words.specs.declared.gaps.Extent.{Extent}
use Rattle.seg_words.specs.Gaps.{is_free, runs_of, with_word}

pick : (piece : ℕ) (b : Bool) (word : ℕ) (rest : List ℕ)
    → cond b (with_word piece word (runs_of piece rest)) (runs_of piece rest)
    ≡ runs_of piece (cond b (word ∷ rest) rest)
pick piece true word rest = refl
pick piece false word rest = refl

-- one word more, below the others
pub run_goes_on_below : (piece : ℕ) (extents : List Extent) (to i : ℕ) (runs : List Extent) → i < to
    → runs ≡ runs_of piece (filter (λ word. is_free word 1 extents) (range_with_len (to - i) i))
    → cond (is_free (to - (i + 1)) 1 extents) (with_word piece (to - (i + 1)) runs) runs
    ≡ runs_of piece (filter (λ word. is_free word 1 extents)
    (range_with_len (to - (i + 1)) (i + 1)))
run_goes_on_below piece extents to i runs low are =
    let word = to - (i + 1) in
    let free : ℕ → Bool = λ w. is_free w 1 extents in
    let rest = filter free (range_with_len (to - i) i) in
    let one : suc i ≡ i + 1 = omega arith in
    let next : to - i ≡ word + 1 = omega (arith, low) in
    ap (λ l. cond (free word) (with_word piece word l) l) are ∙ pick piece (free word) word rest
    ∙ ap (λ n. runs_of piece (cond (free word) (word ∷ filter free (range_with_len n i))
    (filter free (range_with_len n i)))) next
    ∙ ap (λ n. runs_of piece (filter free (range_with_len word n))) one

-- the same words, whichever way they are listed
pub sum-reverse : (gaps : List Extent)
    → sum_by (λ (gap : Extent). gap.size) (reverse gaps)
    ≡ sum_by (λ (gap : Extent). gap.size) gaps
sum-reverse [] = refl
sum-reverse (gap ∷ gaps) =
    let size : Extent → ℕ = λ g. g.size in
    ap (sum_by size) (reverse-append (gap ∷ []) gaps)
    ∙ omega (
      arith,
      sum_by-append size (reverse gaps) (gap ∷ []),
      sum_by-cons size gap gaps,
      sum_by-cons size gap [],
      sum-reverse gaps,
    )
