-- The pieces of a map, put together.
use Rattle.std.proofs.Common.{◌≡◌, ◌∙◌, ℕ, List, ◌++◌, length, ap, append_assoc}
use Rattle.std.specs.Prelude.{codes, sum_by}
use Rattle.seg_words.specs.declared.gaps.Extent.{Extent}
use Rattle.sma_blocks.specs.Live.{largest_of}
use Rattle.seg_report.specs.Lines.{fits_text, free_text, number_line}

-- three pieces one after the other
pub three_pieces : (old first second third a b c d e : List ℕ) → first ≡ old ++ a
    → second ≡ first ++ b → third ≡ second ++ c → b ≡ d → c ≡ e → third ≡ old ++ (a ++ (d ++ e))
three_pieces old first second third a b c d e one two three b_is c_is =
    three
    ∙ ap (λ l. l ++ c) (two ∙ ap (λ l. l ++ b) one)
    ∙ append_assoc (old ++ a) b c ∙ append_assoc old a (b ++ c)
    ∙ ap (λ l. old ++ (a ++ (l ++ c))) b_is ∙ ap (λ l. old ++ (a ++ (d ++ l))) c_is

-- what the free runs come to
pub free_told : (old first second third fourth : List ℕ) (runs last : List Extent) (n m k : ℕ)
    → first ≡ old ++ number_line (codes "free words ") n
    → second ≡ first ++ number_line (codes "largest ") m
    → third ≡ second ++ number_line (codes "runs ") k → fourth ≡ third ++ fits_text last
    → n ≡ sum_by (λ (run : Extent). run.size) runs → m ≡ largest_of runs → k ≡ length runs
    → last ≡ runs → fourth ≡ old ++ free_text runs
free_told old first second third fourth runs last n m k one two three four n_is m_is k_is last_is =
    let a = number_line (codes "free words ") n in
    let b = number_line (codes "largest ") m in
    let c = number_line (codes "runs ") k in
    let d = fits_text last in
    four
    ∙ ap (λ l. l ++ d) (three ∙ ap (λ l. l ++ c) (two ∙ ap (λ l. l ++ b) one))
    ∙ append_assoc ((old ++ a) ++ b) c d ∙ append_assoc (old ++ a) b (c ++ d)
    ∙ append_assoc old a (b ++ (c ++ d))
    ∙ ap (λ x. old ++ (number_line (codes "free words ") x ++ (b ++ (c ++ d)))) n_is
    ∙ ap (λ x. old ++ (number_line (codes "free words ") (sum_by (λ (run : Extent). run.size) runs)
    ++ (number_line (codes "largest ") x ++ (c ++ d)))) m_is
    ∙ ap (λ x. old ++ (number_line (codes "free words ") (sum_by (λ (run : Extent). run.size) runs)
    ++ (number_line (codes "largest ") (largest_of runs) ++ (number_line (codes "runs ") x ++ d)))) k_is
    ∙ ap (λ x. old ++ (number_line (codes "free words ") (sum_by (λ (run : Extent). run.size) runs)
    ++ (number_line (codes "largest ") (largest_of runs)
    ++ (number_line (codes "runs ") (length runs) ++ fits_text x)))) last_is
