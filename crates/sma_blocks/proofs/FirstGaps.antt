-- The first gaps of the chain, one after the other.
use Rattle.std.proofs.Common.{◌≡◌, ◌≢◌, inl, inr, ℕ, ◌+◌, ◌*◌, ◌/◌, ◌%◌, ◌<◌, ◌≤◌, List, length, get_or, Option, Some, None, MatchOption, ap, ◌∙◌, arith}
use Rattle.std.proofs.lemmas.Bool.{cases_lt, cases_eq, le-leb, lt-leb}
use Rattle.std.specs.Prelude.{nat_le}
use Rattle.max_tree.proofs.Positions.{position_found}
use Rattle.seg_words.specs.Windows.{Aside}
use Rattle.seg_words.specs.Blocks.{IsTold}
use Rattle.sma_blocks.specs.declared.sma.Sma.{Sma}
use Rattle.sma_blocks.specs.Tiles.{tiles}
use Rattle.sma_blocks.specs.Ready.{IsReady}
use Rattle.sma_blocks.specs.Walk.{link_before}
use Rattle.sma_blocks.specs.Fits.{IsFit}
use Rattle.sma_blocks.proofs.FilledWords.{filled_of}
use Rattle.sma_blocks.proofs.GapSizes.{gap_words-le}
use Rattle.sma_blocks.proofs.LastGapLink.{IsLastTold, link_inside, link_told}
use Rattle.sma_blocks.proofs.NextGap.{ask_small, ask_next}

-- the first numbers, up to one that is not 0, are too small
abbrev pub IsPassed : List ℕ → ℕ → Option ℕ → Type 0
IsPassed numbers n before =
    MatchOption before (Unit {0}) (λ q. (get_or numbers q 0 ≢ 0) × ((k : ℕ) → k ≤ q → get_or numbers k 0 < n))

-- how many these are
abbrev passed_count : Option ℕ → ℕ
passed_count None = 0
passed_count (Some q) = q + 1

passed_told : (numbers : List ℕ) (n : ℕ) (before : Option ℕ) → IsPassed numbers n before → IsLastTold numbers (passed_count before) before
passed_told numbers n None h = ((λ k low. absurd (omega arith)), tt)
passed_told numbers n (Some q) h = ((omega arith, h.0), λ k past low. absurd (omega arith))

passed_small : (numbers : List ℕ) (n : ℕ) (before : Option ℕ) → IsPassed numbers n before → (k : ℕ) → k < passed_count before → get_or numbers k 0 < n
passed_small numbers n None h k low = absurd (omega arith)
passed_small numbers n (Some q) h k low = h.1 k (omega arith)

module _ {sma : Sma} {ws : List ℕ} {aside : Aside} (ready : IsReady sma ws aside) (n : ℕ) (before : Option ℕ) (passed : IsPassed sma.sizes n before) where
  abbrev count : ℕ
  count = passed_count before

  told : IsLastTold sma.sizes count before
  told = passed_told sma.sizes n before passed

  pub near_inside : MatchOption before (Unit {0}) (λ q. 2 * q + 1 < length ws)
  near_inside = link_inside sma.bounds ws aside sma.sizes count before (filled_of ready) ready.indexed told

  pub near_told : MatchOption before (Unit {0}) (λ q. IsTold aside.windows (2 * q + 1))
  near_told = link_told sma.bounds ws aside sma.sizes count before (filled_of ready) ready.indexed told

  module _ (v : ℕ) (link : v ≡ link_before ws sma.head before) where
    half : count ≡ (2 * count) / 2 + (2 * count) % 2
    half = omega arith

    pub near_index : 2 ≤ n → n ≤ sma.free → v / 2 < length sma.sizes
    near_index some enough =
        let words = gap_words-le ws sma.bounds.from (tiles ws sma.bounds.from) (length ws) ready.formatted.full in
        (ask_small ready (2 * count) count v before half told link (omega (arith, ready.counted))).1

    module _ (size : ℕ) (is : size ≡ get_or sma.sizes (v / 2) 0) (there : size ≢ 0) where
      between : 2 * count ≤ v → (k : ℕ) → count ≤ k → k < v / 2 → get_or sma.sizes k 0 ≡ 0
      between low k from under = (ask_next ready (2 * count) count v before half told link size is there low).1 k (omega arith) under

      -- the next gap is too small, too
      pub near_passed : size < n → IsPassed sma.sizes n (Some (v / 2))
      near_passed small = (
        λ e. there (is ∙ e),
        λ k low. elim (cases_lt k count) [
          | inl front ↦ passed_small sma.sizes n before passed k front
          | inr behind ↦ elim (cases_eq k (v / 2)) [
            | inl same ↦ omega (arith, ap (λ (x : ℕ). get_or sma.sizes x 0) same)
            | inr other ↦ omega (arith, between (omega arith) k behind (omega arith))
          ]
        ],
      )

      -- the next gap is the one
      pub near_found : 2 ≤ n → n ≤ size → v / 2 < length sma.sizes → IsFit sma.sizes n (record { index = v / 2; size = size; before = before })
      near_found some enough inside =
          let low : count ≤ v / 2 = elim (cases_lt (v / 2) count) [
            | inl front ↦ absurd (omega (arith, passed_small sma.sizes n before passed (v / 2) front))
            | inr behind ↦ behind
          ] in
          let zeros : (k : ℕ) → count ≤ k → k < v / 2 → get_or sma.sizes k 0 ≡ 0 = between (omega arith) in
          let small : (k : ℕ) → k < v / 2 → get_or sma.sizes k 0 < n = λ k under. elim (cases_lt k count) [
            | inl front ↦ passed_small sma.sizes n before passed k front
            | inr behind ↦ omega (arith, zeros k behind under)
          ] in
          let last : IsLastTold sma.sizes (v / 2) before = last_at before passed low zeros in
          record {
            first = position_found (λ value. nat_le n value) sma.sizes (v / 2) inside (le-leb n _ (omega arith)) (λ k under. lt-leb n _ (small k under));
            size = is;
            before = last.0;
            last = last.1;
          }
        where
          last_at : (before : Option ℕ) → IsPassed sma.sizes n before → passed_count before ≤ v / 2 → ((k : ℕ) → passed_count before ≤ k → k < v / 2 → get_or sma.sizes k 0 ≡ 0) → IsLastTold sma.sizes (v / 2) before
          last_at None p low zeros = ((λ k under. zeros k (omega arith) under), tt)
          last_at (Some q) p low zeros = ((omega arith, p.0), λ k past under. zeros k (omega arith) under)
