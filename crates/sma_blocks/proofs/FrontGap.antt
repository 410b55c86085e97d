-- A gap laid in front of all others.
use Rattle.std.proofs.Common.{◌≡◌, ◌⊎◌, inl, inr, ℕ, ◌+◌, ◌-◌, ◌/◌, ◌%◌, ◌<◌, ◌≤◌, Bool, true, false, cond, ◌&&◌, List, [], ◌∷◌, length, get_or, slice_index, slice_set, refl, sym, ap, ◌∙◌, subst, arith}
use Rattle.std.proofs.lemmas.Bool.{cases_lt, cases_eq, eq-eqb}
use Rattle.max_tree.specs.Halves.{other_half, MayStand}
use Rattle.seg_words.specs.Gaps.{is_whole, free_runs}
use Rattle.seg_words.specs.Blocks.{MayStore}
use Rattle.sma_blocks.specs.Tiles.{Tile, tiles, Fill, gaps_touch, are_whole}
use Rattle.sma_blocks.specs.Live.{lives, gap_words}
use Rattle.sma_blocks.specs.Index.{size_at, IsJoined}
use Rattle.sma_blocks.specs.Chain.{IsChain, AreLinked}
use Rattle.seg_words.specs.declared.gaps.Extent.{Extent}
use Rattle.sma_blocks.proofs.FreeRuns.{free_runs-gaps}
use Rattle.sma_blocks.specs.Walk.{merged_words}
use Rattle.sma_blocks.specs.LaidGaps.{IsLaid}
use Rattle.sma_blocks.proofs.TileLemmas.{Fill-le, tiles-end}
use Rattle.sma_blocks.proofs.TouchingGaps.{merged_begin, merged_after}
use Rattle.sma_blocks.proofs.WholeTiles.{whole_cons}
use Rattle.sma_blocks.proofs.MergedWords.{merged_count, merged_first, merged_link, merged_other}
use Rattle.sma_blocks.proofs.WordsAfterTake.{may_store_after}
use Rattle.sma_blocks.proofs.TileChanges.{Change, change_full, change_tiles}
use Rattle.sma_blocks.proofs.FirstFit.{here_other, here_gap, size_outside}
use Rattle.sma_blocks.proofs.GapSizes.{gap_words-le}
use Rattle.sma_blocks.proofs.ChainLemmas.{link_between, chain_of}

-- nothing is laid yet
pub laid_nothing : (s : ℕ) (ws : List ℕ) (end : ℕ) (sizes : List ℕ) → end ≡ length ws → ((i : ℕ) → get_or sizes i 0 ≡ 0) → IsLaid s ws end sizes 0 0 true
laid_nothing s ws end sizes is zeros =
    let none : tiles ws end ≡ [] = tiles-end ws end (omega arith) in
    record {
      full = subst (λ (ps : List Tile). Fill ws end ps (length ws)) (sym none) is;
      merged = ap (gaps_touch s true) none;
      whole = ap (are_whole s) none;
      linked = subst (λ (ps : List Tile). AreLinked ws 0 ps 0) (sym none) refl;
      told = λ i. zeros i ∙ sym (ap (λ (ps : List Tile). size_at ps (i + i)) none);
      counted = sym (ap gap_words none);
    }

pub laid_front : {s : ℕ} {ws : List ℕ} {end : ℕ} {sizes : List ℕ} {head free : ℕ} → IsLaid s ws end sizes head free true → IsLaid s ws end sizes head free false
laid_front {s} {ws} {end} h = record {
  full = h.full;
  merged = merged_after s true (tiles ws end) h.merged;
  whole = h.whole;
  linked = h.linked;
  told = h.told;
  counted = h.counted;
}

pub laid_total : {s : ℕ} {ws : List ℕ} {end : ℕ} {sizes : List ℕ} {head free : ℕ} {b : Bool} → IsLaid s ws end sizes head free b → free + end ≤ length ws
laid_total {s} {ws} {end} h = omega (arith, h.counted, gap_words-le ws end (tiles ws end) (length ws) h.full)

-- the other number of the pair in which a gap in front begins
pub laid_stands : {s : ℕ} {ws : List ℕ} {end : ℕ} {sizes : List ℕ} {head free : ℕ} {b : Bool} → IsLaid s ws end sizes head free b → (first : ℕ) → first % 2 ≡ 0 → end % 2 ≡ 0 → first < end → MayStand (first / 2) (end - first) (get_or sizes (other_half (first / 2)) 0)
laid_stands {s} {ws} {end} {sizes} h first even_first even_end lt some =
    let q = other_half (first / 2) + other_half (first / 2) in
    let number = get_or sizes (other_half (first / 2)) 0 in
    let past : end ≤ q = elim (cases_lt q end) [
      | inl low ↦ absurd (some (h.told (other_half (first / 2)) ∙ size_outside ws end (tiles ws end) (length ws) q h.full (inl low)))
      | inr high ↦ high
    ] in
    let first_half : first / 2 % 2 ≡ 0 = omega arith in
    let two : end - first ≡ 2 = omega arith in
    ap (λ (t : Bool). cond t (end - first) number) (eq-eqb (first / 2 % 2) 0 first_half) ∙ two

-- what may be stored may be stored still after a gap was made
pub merged_store : (ws windows : List ℕ) (first last next i : ℕ) → MayStore ws windows first → MayStore ws windows (first + 1) → MayStore ws windows i → MayStore (merged_words ws first last next) windows i
merged_store ws windows first last next i one two here =
    let once = may_store_after ws windows first i ((last - first) + 1) one here in
    let again = may_store_after ws windows first (first + 1) ((last - first) + 1) one two in
    may_store_after (slice_set ws first ((last - first) + 1)) windows (first + 1) i next again once

abbrev pub front_gap : ℕ → ℕ → Tile
front_gap first end = record { place = first; size = end - first; live = false }

-- a gap is laid in front
pub record Gapped (s : ℕ) (ws new : List ℕ) (first end : ℕ) (sizes : List ℕ) (head free : ℕ) (b : Bool) : Type 0 where
  pub laid : IsLaid s new first sizes head free b
  pub blocks : lives (tiles new first) ≡ lives (tiles ws end)
  pub same : (i : ℕ) → (i < first) ⊎ (end ≤ i) → slice_index new i ≡ slice_index ws i
  pub count : length new ≡ length ws

pub gapped : {s : ℕ} {ws : List ℕ} {end : ℕ} {sizes : List ℕ} {head free : ℕ} → IsLaid s ws end sizes head free true → (first : ℕ) (new sizes' : List ℕ) (head' free' : ℕ) (b : Bool) → first % 2 ≡ 0 → end % 2 ≡ 0 → first < end → is_whole s first (end - first) ≡ true → (b && is_whole s (first - 1) 2) ≡ false
    → new ≡ merged_words ws first end head → IsJoined sizes sizes' first end end → head' ≡ first → free' ≡ free + (end - first) → Gapped s ws new first end sizes' head' free' b
gapped {s} {ws} {end} {sizes} {head} {free} h first new sizes' head' free' b even_first even_end lt whole before made joined head_is free_is =
    subst (λ (xs : List ℕ). Gapped s ws xs first end sizes' head' free' b) (sym made) (subst (λ (x : ℕ). Gapped s ws (merged_words ws first end head) first end sizes' x free' b) (sym head_is) (subst (λ (x : ℕ). Gapped s ws (merged_words ws first end head) first end sizes' first x b) (sym free_is) (record {
      laid = record {
        full = subst (λ (ps : List Tile). Fill (merged_words ws first end head) first ps (length (merged_words ws first end head))) (sym all) (change_full change);
        merged = ap (gaps_touch s b) all ∙ merged_begin s b (front_gap first end) (tiles ws end) refl before h.merged;
        whole = ap (are_whole s) all ∙ whole_cons s (front_gap first end) (tiles ws end) whole h.whole;
        linked = subst (λ (ps : List Tile). AreLinked (merged_words ws first end head) first ps 0) (sym all) chain;
        told = λ i. elim (cases_eq i (first / 2)) [
          | inl is ↦
              let place : i + i ≡ first = omega arith in
              ap (λ (k : ℕ). get_or sizes' k 0) is ∙ joined.there ∙ sym (ap (λ (ps : List Tile). size_at ps (i + i)) all ∙ omega (arith, here_gap (front_gap first end) (i + i) (sym place) refl, size_outside ws end (tiles ws end) (length ws) (i + i) h.full (inl (omega arith))))
          | inr other ↦
              joined.others i other (λ no_end e. omega arith) ∙ h.told i ∙ sym (ap (λ (ps : List Tile). size_at ps (i + i)) all ∙ omega (arith, here_other (front_gap first end) (i + i) (λ e. other (omega arith))))
        ];
        counted = sym (ap gap_words all ∙ omega (arith, h.counted));
      };
      blocks = ap lives all;
      same = same;
      count = merged_count ws first end head;
    })))
  where
    most : end ≤ length ws
    most = Fill-le ws end (tiles ws end) (length ws) h.full

    same : (i : ℕ) → (i < first) ⊎ (end ≤ i) → slice_index (merged_words ws first end head) i ≡ slice_index ws i
    same i o = merged_other ws first end head i (λ e. elim o [ inl l ↦ omega arith | inr r ↦ omega arith ]) (λ e. elim o [ inl l ↦ omega arith | inr r ↦ omega arith ])

    change : Change ws (merged_words ws first end head) first first end [] (front_gap first end ∷ []) (tiles ws end)
    change =
        let high = most in
        record {
          before = refl;
          middle = (record { place = refl; word = merged_first ws first end head (omega arith); even = omega arith; enough = omega arith }, omega arith);
          after = h.full;
          same = same;
          count = merged_count ws first end head;
        }

    all : tiles (merged_words ws first end head) first ≡ front_gap first end ∷ tiles ws end
    all = change_tiles change

    chain : AreLinked (merged_words ws first end head) first (front_gap first end ∷ tiles ws end) 0
    chain =
        let high = most in
        let link : slice_index (merged_words ws first end head) (first + 1) ≡ head = merged_link ws first end head (omega arith) in
        let rest : AreLinked (merged_words ws first end head) head (tiles ws end) 0 = link_between ws (merged_words ws first end head) end (tiles ws end) (length ws) head 0 h.full (λ i low high. same i (inr low)) h.linked in
        (refl, subst (λ (x : ℕ). AreLinked (merged_words ws first end head) x (tiles ws end) 0) (sym link) rest)

-- the chain from the first gap that was laid
pub laid_chain : {s : ℕ} {ws : List ℕ} {end : ℕ} {sizes : List ℕ} {head free : ℕ} → IsLaid s ws end sizes head free false → IsChain ws head (free_runs end (length ws) s (lives (tiles ws end)))
laid_chain {s} {ws} {end} {sizes} {head} h =
    subst (λ (runs : List Extent). IsChain ws head runs) (sym (free_runs-gaps s ws end (tiles ws end) (length ws) h.full h.merged h.whole))
    (chain_of ws end (tiles ws end) (length ws) head h.full h.linked)
