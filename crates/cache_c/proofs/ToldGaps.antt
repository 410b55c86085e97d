-- Gaps that are written one after the other.
use Rattle.std.proofs.Common.{◌≡◌, ◌∙◌, ℕ, ◌+◌, ◌<◌, List, [], ◌∷◌, ◌++◌, length, take, map, refl, sym, ap, length-append}
use Rattle.std.proofs.lemmas.List.{append_assoc, take_more_set, length-map}
use Rattle.std.specs.List.{slice_set}
use Rattle.seg_words.specs.declared.gaps.Extent.{Extent}
use Rattle.cache_info.proofs.GapRuns.{left_from}
use Rattle.cache_c.specs.declared.counts.Gap.{Gap}
use Rattle.cache_c.specs.Told.{gap_told}

-- the first of them are written
pub prefix_told : (xs ys : List Gap) (es : List Extent) → xs ++ ys ≡ map gap_told es → xs ≡ map gap_told (take (length xs) es)
prefix_told [] ys es e = refl
prefix_told (x ∷ xs) ys [] e = absurd (cc e)
prefix_told (x ∷ xs) ys (g ∷ es) e =
    let first : x ≡ gap_told g = cc e in
    let rest : xs ++ ys ≡ map gap_told es = cc e in
    ap (λ (h : Gap). h ∷ xs) first ∙ ap (λ (l : List Gap). gap_told g ∷ l) (prefix_told xs ys es rest)

pub prefix_length : (xs ys : List Gap) (es : List Extent) → xs ++ ys ≡ map gap_told es → length xs + length ys ≡ length es
prefix_length xs ys es e = sym (length-append xs ys) ∙ ap (λ (l : List Gap). length l) e ∙ length-map es gap_told

-- one more
pub gap_more : (out : List Gap) (i from : ℕ) (gap : Extent) (gaps : List Extent) (all : List Gap) → i < length out → left_from from gaps ≡ gap ∷ left_from (gap.place + gap.size) gaps
    → take i out ++ map gap_told (left_from from gaps) ≡ all
    → take (i + 1) (slice_set out i (gap_told gap)) ++ map gap_told (left_from (gap.place + gap.size) gaps) ≡ all
gap_more out i from gap gaps all low left is =
    let rest = map gap_told (left_from (gap.place + gap.size) gaps) in
    ap (λ (l : List Gap). l ++ rest) (take_more_set out i (gap_told gap) low)
    ∙ append_assoc (take i out) (gap_told gap ∷ []) rest
    ∙ sym (ap (λ (l : List Extent). take i out ++ map gap_told l) left)
    ∙ is
