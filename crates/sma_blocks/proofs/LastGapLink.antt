-- The link of the last gap before a place is set.
use Rattle.std.proofs.Common.{◌≡◌, ◌≢◌, inl, inr, ℕ, ◌+◌, ◌*◌, ◌/◌, ◌%◌, ◌<◌, ◌≤◌, true, false, List, [], ◌∷◌, ◌++◌, length, get_or, slice_index, slice_set, Option, Some, None, MatchOption, refl, sym, ap, ◌∙◌, subst, arith}
use Rattle.std.proofs.lemmas.Bool.{cases_lt, cases_eq, and_from, false≢true}
use Rattle.std.proofs.lemmas.List.{get_or-set_same, get_or-set_other, length-set}
use Rattle.seg_words.specs.declared.gaps.Extent.{Extent}
use Rattle.seg_words.specs.Windows.{Aside}
use Rattle.seg_words.specs.Blocks.{IsTold, MayStore}
use Rattle.seg_words.specs.Gaps.{is_free}
use Rattle.sma_blocks.specs.Tiles.{Tile, tiles, Fill, gaps_touch, are_whole, IsFormatted}
use Rattle.sma_blocks.specs.Live.{lives, live_blocks, SameBlocks}
use Rattle.sma_blocks.specs.Ready.{NameLive}
use Rattle.sma_blocks.specs.Index.{size_at, IsIndexed}
use Rattle.sma_blocks.specs.Chain.{AreLinked}
use Rattle.sma_blocks.specs.Walk.{link_before, relinked_words, relinked_head}
use Rattle.sma_blocks.specs.declared.bounds.Bounds.{Bounds}
use Rattle.sma_blocks.proofs.FilledWords.{IsFilled}
use Rattle.sma_blocks.proofs.TileLemmas.{Fill-le, edge_whole}
use Rattle.sma_blocks.proofs.LiveBlocks.{free_outside, is_free-append}
use Rattle.sma_blocks.proofs.NamedBlocks.{between, may_store, told_from, ready_from}
use Rattle.sma_blocks.proofs.FitPlaces.{blocks_at, Fill-even}
use Rattle.sma_blocks.proofs.TileChanges.{Change, change_full, change_tiles, change_names}
use Rattle.sma_blocks.proofs.FirstFit.{GapAt, gap_told, here_other, size_at-append, size_outside, size_odd}
use Rattle.sma_blocks.proofs.ChainLemmas.{IsLastGap, link_none, none_link, last_link, link_set}

-- what the index tells of the last gap before an even place
abbrev pub IsLastTold : List ℕ → ℕ → Option ℕ → Type 0
IsLastTold numbers index before =
    MatchOption before ((k : ℕ) → k < index → get_or numbers k 0 ≡ 0) (λ q. (q < index) × (get_or numbers q 0 ≢ 0)) × MatchOption before (Unit {0}) (λ q. (k : ℕ) → q < k → k < index → get_or numbers k 0 ≡ 0)

-- the last gap of the tiles, if there is one, begins at the word 2 q
abbrev pub IsLastOf : List Tile → Option ℕ → Type 0
IsLastOf ps before = MatchOption before ((q : ℕ) → size_at ps q ≡ 0) (λ q. IsLastGap ps (2 * q))

pub last_of : (ws : List ℕ) (from : ℕ) (ps : List Tile) (at : ℕ) (others : List Tile) (numbers : List ℕ) (before : Option ℕ) → from % 2 ≡ 0 → Fill ws from ps at → Fill ws at others (length ws) → tiles ws from ≡ ps ++ others → IsIndexed ws from numbers → IsLastTold numbers (at / 2) before → IsLastOf ps before
last_of ws from ps at others numbers before even h k all indexed last = go before last
  where
    at_even : at % 2 ≡ 0
    at_even = Fill-even ws from ps at h even

    size : (q : ℕ) → q < at / 2 → size_at ps (q + q) ≡ get_or numbers q 0
    size q low =
        let none : size_at others (q + q) ≡ 0 = size_outside ws at others (length ws) (q + q) k (inl (omega arith)) in
        let whole : size_at (tiles ws from) (q + q) ≡ size_at ps (q + q) + size_at others (q + q) = ap (λ xs. size_at xs (q + q)) all ∙ size_at-append ps others (q + q) in
        omega (arith, indexed.told q)

    zero_at : (r : ℕ) → (r % 2 ≡ 0 → r < at → get_or numbers (r / 2) 0 ≡ 0) → size_at ps r ≡ 0
    zero_at r zero = elim (cases_lt r at) [
      | inr past ↦ size_outside ws from ps at r h (inr past)
      | inl low ↦ elim (cases_eq (r % 2) 0) [
        | inr odd ↦ size_odd ws from ps at r h even (omega arith)
        | inl even_place ↦
            let place : r / 2 + r / 2 ≡ r = omega arith in
            let there : r / 2 < at / 2 = (let e = at_even in omega arith) in
            ap (λ (x : ℕ). size_at ps x) (sym place) ∙ size (r / 2) there ∙ zero even_place low
      ]
    ]

    go : (before : Option ℕ) → IsLastTold numbers (at / 2) before → IsLastOf ps before
    go None l = λ r. zero_at r (λ e low. l.0 (r / 2) (let x = at_even in omega arith))
    go (Some q) l =
        let place : 2 * q ≡ q + q = omega arith in
        record {
          some = λ e. l.0.1 (sym (size q l.0.0) ∙ ap (λ (x : ℕ). size_at ps x) (sym place) ∙ e);
          last = λ r past. zero_at r (λ e low. l.1 (r / 2) (omega arith) (let x = at_even in omega arith));
        }

-- the words of a gap
pub gap_fill : (ws : List ℕ) (from at size : ℕ) (g : GapAt ws from at size) → Fill ws at (record { place = at; size = size; live = false } ∷ tiles ws (at + size)) (length ws)
gap_fill ws from at size g = subst (λ ps. Fill ws at ps (length ws)) g.is g.edge.after

pub gap_blocks : (ws : List ℕ) (from at size : ℕ) (g : GapAt ws from at size) → live_blocks ws from ≡ lives g.edge.passed ++ lives (tiles ws (at + size))
gap_blocks ws from at size g = blocks_at ws from at g.edge ∙ ap (λ ps. lives g.edge.passed ++ lives ps) g.is

-- they are in no live block
pub gap_free : (ws : List ℕ) (from at size i : ℕ) (g : GapAt ws from at size) → at ≤ i → i < at + size → (is_free i 1 (live_blocks ws from) ≡ true) × (from ≤ i)
gap_free ws from at size i g low high =
    let filled = gap_fill ws from at size g in
    let left : is_free i 1 (lives g.edge.passed) ≡ true = free_outside ws from g.edge.passed at i 1 g.edge.before (inr low) in
    let right : is_free i 1 (lives (tiles ws (at + size))) ≡ true = free_outside ws (at + size) (tiles ws (at + size)) (length ws) i 1 filled.1 (inl (omega arith)) in
    let start : from ≤ at = Fill-le ws from g.edge.passed at g.edge.before in
    (ap (is_free i 1) (gap_blocks ws from at size g) ∙ is_free-append i 1 (lives g.edge.passed) (lives (tiles ws (at + size))) ∙ and_from (is_free i 1 (lives g.edge.passed)) (is_free i 1 (lives (tiles ws (at + size)))) left right, omega arith)

gap_names : {bounds : Bounds} {ws : List ℕ} {aside : Aside} {at size : ℕ} (filled : IsFilled bounds ws aside) (g : GapAt ws bounds.from at size) → NameLive ws aside.windows (lives g.edge.passed ++ lives (tiles ws (at + size)))
gap_names {bounds} {ws} {aside} {at} {size} filled g = subst (λ es. NameLive ws aside.windows es) (gap_blocks ws bounds.from at size g) filled.windows

-- they may be stored, and are told
pub gap_apart : {bounds : Bounds} {ws : List ℕ} {aside : Aside} {at size : ℕ} (filled : IsFilled bounds ws aside) (g : GapAt ws bounds.from at size) (i : ℕ) → at ≤ i → i < at + size → MayStore ws aside.windows i
gap_apart {bounds} {ws} {aside} {at} {size} filled g i low high =
    may_store ws aside.windows (lives g.edge.passed ++ lives (tiles ws (at + size))) at (at + size) i (gap_names filled g)
    (between ws bounds.from g.edge.passed at (at + size) (tiles ws (at + size)) (length ws) g.edge.before (gap_fill ws bounds.from at size g).1) low high

pub told_apart : (ws windows : List ℕ) (i : ℕ) → MayStore ws windows i → IsTold windows i
told_apart ws windows i may = told_from windows i (λ x named. (may x named).pin_count)

-- the words after the link of a gap was set
pub record Relinked (bounds : Bounds) (old new : List ℕ) (aside : Aside) : Type 0 where
  pub count : length new ≡ length old
  pub same : tiles new bounds.from ≡ tiles old bounds.from
  pub filled : IsFilled bounds new aside

relinked_one : (bounds : Bounds) (ws : List ℕ) (aside : Aside) (at size v i : ℕ) → IsFilled bounds ws aside → GapAt ws bounds.from at size → i ≡ at + 1 → Relinked bounds ws (slice_set ws i v) aside
relinked_one bounds ws aside at size v i filled g place =
    let new = slice_set ws i v in
    let whole = gap_fill ws bounds.from at size g in
    let wide : 2 ≤ size = whole.0.enough in
    let gap : Tile = record { place = at; size = size; live = false } in
    let first : slice_index new at ≡ slice_index ws at = get_or-set_other ws i at v 0 (λ e. omega arith) in
    let change : Change ws new bounds.from at (at + size) g.edge.passed (gap ∷ []) (tiles ws (at + size)) = record {
      before = g.edge.before;
      middle = (record { place = refl; word = first ∙ whole.0.word; even = whole.0.even; enough = wide }, refl);
      after = whole.1;
      same = λ j out. get_or-set_other ws i j v 0 (λ e. elim out [ inl l ↦ omega arith | inr r ↦ omega arith ]);
      count = length-set ws i v;
    } in
    let all : tiles new bounds.from ≡ tiles ws bounds.from = change_tiles change ∙ sym (edge_whole ws bounds.from at g.edge ∙ ap (λ ps. g.edge.passed ++ ps) g.is) in
    let count : length new ≡ length ws = length-set ws i v in
    let full : Fill new bounds.from (tiles new bounds.from) (length new) = subst (λ ps. Fill new bounds.from ps (length new)) (sym (change_tiles change)) (change_full change) in
    record {
      count = count;
      same = all;
      filled = ready_from bounds new aside (filled.end ∙ sym count)
          (record { even = filled.formatted.even; full = full; merged = ap (gaps_touch bounds.piece false) all ∙ filled.formatted.merged; whole = ap (are_whole bounds.piece) all ∙ filled.formatted.whole })
          (subst (λ es. NameLive new aside.windows es) (sym (gap_blocks ws bounds.from at size g) ∙ sym (ap lives all)) (change_names aside.windows change (gap_names filled g)));
    }

-- where the index tells a last gap, or none
pub relinked : (bounds : Bounds) (ws : List ℕ) (aside : Aside) (numbers : List ℕ) (index v : ℕ) (before : Option ℕ) → IsFilled bounds ws aside → IsIndexed ws bounds.from numbers → IsLastTold numbers index before → Relinked bounds ws (relinked_words ws before v) aside
relinked bounds ws aside numbers index v None filled indexed last = record { count = refl; same = refl; filled = filled }
relinked bounds ws aside numbers index v (Some q) filled indexed last =
    relinked_one bounds ws aside (q + q) (get_or numbers q 0) v (2 * q + 1) filled (gap_told ws bounds.from numbers q filled.formatted indexed last.0.1) (omega arith)

-- what a call that reads or sets the link asks
pub link_inside : (bounds : Bounds) (ws : List ℕ) (aside : Aside) (numbers : List ℕ) (index : ℕ) (before : Option ℕ) → IsFilled bounds ws aside → IsIndexed ws bounds.from numbers → IsLastTold numbers index before → MatchOption before (Unit {0}) (λ q. 2 * q + 1 < length ws)
link_inside bounds ws aside numbers index None filled indexed last = tt
link_inside bounds ws aside numbers index (Some q) filled indexed last =
    let g = gap_told ws bounds.from numbers q filled.formatted indexed last.0.1 in
    let whole = gap_fill ws bounds.from (q + q) (get_or numbers q 0) g in
    let wide = whole.0.enough in
    omega (arith, Fill-le ws (q + q + get_or numbers q 0) (tiles ws (q + q + get_or numbers q 0)) (length ws) whole.1)

pub link_apart : (bounds : Bounds) (ws : List ℕ) (aside : Aside) (numbers : List ℕ) (index : ℕ) (before : Option ℕ) → IsFilled bounds ws aside → IsIndexed ws bounds.from numbers → IsLastTold numbers index before → MatchOption before (Unit {0}) (λ q. MayStore ws aside.windows (2 * q + 1))
link_apart bounds ws aside numbers index None filled indexed last = tt
link_apart bounds ws aside numbers index (Some q) filled indexed last =
    let g = gap_told ws bounds.from numbers q filled.formatted indexed last.0.1 in
    let wide = (gap_fill ws bounds.from (q + q) (get_or numbers q 0) g).0.enough in
    gap_apart filled g (2 * q + 1) (omega arith) (omega arith)

pub link_told : (bounds : Bounds) (ws : List ℕ) (aside : Aside) (numbers : List ℕ) (index : ℕ) (before : Option ℕ) → IsFilled bounds ws aside → IsIndexed ws bounds.from numbers → IsLastTold numbers index before → MatchOption before (Unit {0}) (λ q. IsTold aside.windows (2 * q + 1))
link_told bounds ws aside numbers index None filled indexed last = tt
link_told bounds ws aside numbers index (Some q) filled indexed last =
    told_apart ws aside.windows (2 * q + 1) (link_apart bounds ws aside numbers index (Some q) filled indexed last)

-- the words of the blocks stay
pub relinked_same : (ws mid : List ℕ) (from : ℕ) (numbers : List ℕ) (index v : ℕ) (before : Option ℕ) (blocks : List Extent) {s : ℕ} → IsFormatted ws from s → IsIndexed ws from numbers → IsLastTold numbers index before → ((i : ℕ) → is_free i 1 blocks ≡ false → is_free i 1 (live_blocks ws from) ≡ false) → SameBlocks ws mid from blocks → SameBlocks ws (relinked_words mid before v) from blocks
relinked_same ws mid from numbers index v None blocks {s} formatted indexed last fewer h = h
relinked_same ws mid from numbers index v (Some q) blocks {s} formatted indexed last fewer h =
    let g = gap_told ws from numbers q formatted indexed last.0.1 in
    let wide = (gap_fill ws from (q + q) (get_or numbers q 0) g).0.enough in
    let free = gap_free ws from (q + q) (get_or numbers q 0) (2 * q + 1) g (omega arith) (omega arith) in
    record {
      count = length-set mid (2 * q + 1) v ∙ h.count;
      before = λ i low. get_or-set_other mid (2 * q + 1) i v 0 (λ e. omega (arith, free.1)) ∙ h.before i low;
      inside = λ i taken. get_or-set_other mid (2 * q + 1) i v 0 (λ e. false≢true (sym (fewer i taken) ∙ ap (λ (x : ℕ). is_free x 1 (live_blocks ws from)) e ∙ free.0)) ∙ h.inside i taken;
    }

-- the word at another place
pub relinked_at : (mid : List ℕ) (index v i : ℕ) (before : Option ℕ) (numbers : List ℕ) → IsLastTold numbers index before → index + index ≤ i → slice_index (relinked_words mid before v) i ≡ slice_index mid i
relinked_at mid index v i None numbers last past = refl
relinked_at mid index v i (Some q) numbers last past =
    let low = last.0.0 in
    get_or-set_other mid (2 * q + 1) i v 0 (λ e. omega arith)

-- the chain up to the place
pub relinked_chain : (ws : List ℕ) (from : ℕ) (ps : List Tile) (at head m v : ℕ) (before : Option ℕ) → Fill ws from ps at → at ≤ length ws → IsLastOf ps before → AreLinked ws head ps m → AreLinked (relinked_words ws before v) (relinked_head head before v) ps v
relinked_chain ws from ps at head m v None h end last k = none_link ws ws from ps at v h last
relinked_chain ws from ps at head m v (Some q) h end last k =
    let inside : 2 * q + 1 < length ws = elim (cases_lt (2 * q) at) [
      | inl low ↦ gap_room ws from ps at (2 * q) h last.some end
      | inr past ↦ absurd (last.some (size_outside ws from ps at (2 * q) h (inr past)))
    ] in
    link_set ws (slice_set ws (2 * q + 1) v) from ps at head m (2 * q) v h last (get_or-set_same ws (2 * q + 1) v 0 inside) (λ i other. get_or-set_other ws (2 * q + 1) i v 0 other) k
  where
    gap_room : (ws : List ℕ) (a : ℕ) (ps : List Tile) (b q : ℕ) → Fill ws a ps b → size_at ps q ≢ 0 → b ≤ length ws → q + 1 < length ws
    gap_room ws a [] b q h some end = absurd (some refl)
    gap_room ws a (p ∷ ps) b q h some end = elim (cases_eq p.place q) [
      | inl same ↦
          let low : a + p.size ≤ b = Fill-le ws (a + p.size) ps b h.1 in omega (arith, h.0.place, h.0.enough)
      | inr other ↦
          gap_room ws (a + p.size) ps b q h.1 (λ e. some (omega (arith, here_other p q other))) end
    ]

-- the link that is read is what the chain up to the place ends in
pub link_is : (ws : List ℕ) (from : ℕ) (ps : List Tile) (at head m : ℕ) (before : Option ℕ) → Fill ws from ps at → IsLastOf ps before → AreLinked ws head ps m → link_before ws head before ≡ m
link_is ws from ps at head m None h last k = link_none ws from ps at head m h last k
link_is ws from ps at head m (Some q) h last k = last_link ws from ps at head m (2 * q) h last k
