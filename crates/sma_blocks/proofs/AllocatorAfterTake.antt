-- What taking and giving leave, with the index, the chain and the count.
use Rattle.std.proofs.Common.{◌≡◌, ◌≢◌, inl, inr, ℕ, ◌+◌, ◌-◌, ◌*◌, ◌/◌, ◌%◌, ◌^◌, ◌<◌, ◌≤◌, false, List, length, get_or, slice_index, Option, Some, None, MatchOption, sym, ap, ◌∙◌, subst, arith}
use Rattle.std.proofs.lemmas.Bool.{cases_lt}
use Rattle.max_tree.specs.Halves.{other_half, MayStand}
use Rattle.seg_words.specs.Windows.{Aside}
use Rattle.seg_words.specs.Blocks.{MayStore}
use Rattle.seg_words.specs.Gaps.{fits}
use Rattle.sma_blocks.specs.declared.bounds.Bounds.{Bounds}
use Rattle.sma_blocks.specs.declared.sma.Sma.{Sma}
use Rattle.sma_blocks.specs.declared.sma.near.Fit.{Fit}
use Rattle.sma_blocks.specs.Tiles.{tiles}
use Rattle.sma_blocks.specs.Live.{lives, gap_words, live_blocks, with_block, SameBlocks}
use Rattle.sma_blocks.specs.Index.{size_at, IsIndexed, IsShort}
use Rattle.sma_blocks.specs.Chain.{AreLinked}
use Rattle.sma_blocks.specs.Ready.{IsReady}
use Rattle.sma_blocks.specs.Fits.{IsFit}
use Rattle.sma_blocks.specs.Walk.{cut_words, relinked_words, relinked_head}
use Rattle.sma_blocks.proofs.FilledWords.{filled_of}
use Rattle.sma_blocks.proofs.FitPlaces.{FitParts}
use Rattle.sma_blocks.proofs.WordsAfterTake.{Room, take_ready, take_more, take_same, cut_first}
use Rattle.sma_blocks.proofs.FirstFit.{take_found}
use Rattle.sma_blocks.proofs.LastGapLink.{IsLastTold, Relinked, relinked, relinked_same, relinked_at, link_inside, link_apart}
use Rattle.sma_blocks.proofs.IndexAfterTake.{inside, size_even, index_inside, rest_inside, rest_stands, take_indexed, take_counted, next_small, take_linked}
use Rattle.sma_blocks.proofs.ReadyWords.{ready_by}

pub may_store_seen : (ws ws' : List ℕ) (one two : Aside) (i : ℕ) → ws' ≡ ws → two ≡ one → MayStore ws one.windows i → MayStore ws' two.windows i
may_store_seen ws ws' one two i words aside h =
    subst (λ (a : Aside). MayStore ws' a.windows i) (sym aside) (subst (λ (xs : List ℕ). MayStore xs one.windows i) (sym words) h)

-- an allocator with these fields
pub same_sma : (s' : Sma) (words : List ℕ) (aside : Aside) (b : Bounds) (c d : ℕ) (e : List ℕ) → s'.bounds ≡ b → s'.head ≡ c → s'.free ≡ d → s'.sizes ≡ e → IsReady (record { bounds = b; head = c; free = d; sizes = e }) words aside → IsReady s' words aside
same_sma s' words aside b c d e eb ec ed ee h =
    let one = subst (λ (x : Bounds). IsReady (record { bounds = x; head = c; free = d; sizes = e }) words aside) (sym eb) h in
    let two = subst (λ (x : ℕ). IsReady (record { bounds = s'.bounds; head = x; free = d; sizes = e }) words aside) (sym ec) one in
    let three = subst (λ (x : ℕ). IsReady (record { bounds = s'.bounds; head = s'.head; free = x; sizes = e }) words aside) (sym ed) two in
    subst (λ (x : List ℕ). IsReady (record { bounds = s'.bounds; head = s'.head; free = s'.free; sizes = x }) words aside) (sym ee) three

-- what is known where the index found a number
pub record Seen (sma : Sma) (ws : List ℕ) (aside : Aside) (n index size : ℕ) : Type 0 where
  pub room : Room sma.bounds ws aside (2 * index) size n
  pub none : (b : ℕ) → b < 2 * index → fits sma.bounds.from sma.bounds.to sma.bounds.piece n (live_blocks ws sma.bounds.from) b ≡ false
  pub inside_is : 2 * index + size ≤ length ws
  pub even : size % 2 ≡ 0
  pub there : index < length sma.sizes
  pub rest_there : n < size → index + n / 2 < length sma.sizes
  pub some : get_or sma.sizes index 0 ≢ 0
  pub stands : n < size → other_half (index + n / 2) ≢ index → MayStand (index + n / 2) (size - n) (get_or sma.sizes (other_half (index + n / 2)) 0)
  pub next : slice_index ws (2 * index + 1) ≤ length ws
  pub left : n ≤ sma.free

pub seen : FitParts → (sma : Sma) (ws : List ℕ) (aside : Aside) (n : ℕ) (fit : Fit) → IsReady sma ws aside → IsFit sma.sizes n fit → n % 2 ≡ 0 → 2 ≤ n → Seen sma ws aside n fit.index fit.size
seen parts sma ws aside n fit ready is even some =
    let twice : 2 * fit.index ≡ fit.index + fit.index = omega arith in
    let there = take_found parts sma.bounds ws aside sma.sizes n fit.index (2 * fit.index) (filled_of ready) ready.indexed is.first even some twice in
    let room : Room sma.bounds ws aside (2 * fit.index) fit.size n = subst (λ (x : ℕ). Room sma.bounds ws aside (2 * fit.index) x n) (sym is.size) there.0 in
    let enough = room.enough in
    record {
      room = room;
      none = there.1;
      inside_is = inside room sma.sizes fit.index ready.indexed twice;
      even = size_even room sma.sizes fit.index ready.indexed twice;
      there = index_inside room sma.sizes fit.index ready.indexed twice;
      rest_there = rest_inside room sma.sizes fit.index ready.indexed twice;
      some = λ e. omega (arith, is.size);
      stands = rest_stands room sma.sizes fit.index ready.indexed twice;
      next = next_small room sma.sizes fit.index ready.indexed twice sma.head ready.linked;
      left = (take_counted room sma.sizes fit.index ready.indexed twice sma.free ready.counted).0;
    }

pub small_rest : (v at size n : ℕ) (ws : List ℕ) → (n < size → v ≡ at + n) → (size ≤ n → v ≡ slice_index ws (at + 1)) → at + size ≤ length ws → slice_index ws (at + 1) ≤ length ws → length ws < 2 ^ 32 → v < 2 ^ 32
small_rest v at size n ws cut whole inside next short = elim (cases_lt n size) [
  | inl lt ↦ let is = cut lt in omega arith
  | inr ge ↦ let is = whole ge in omega arith
]

last_short : (old new : List ℕ) (index size n : ℕ) (before : Option ℕ) → IsShort old new index size n → IsLastTold old index before → IsLastTold new index before
last_short old new index size n None short l =
    ((λ k low. short.others k (λ e. omega arith) (λ lt e. omega arith) ∙ l.0 k low), tt)
last_short old new index size n (Some q) short l =
    let low = l.0.0 in (
      (low, λ e. l.0.1 (sym (short.others q (λ e. omega arith) (λ lt e. omega arith)) ∙ e)),
      λ k past under. short.others k (λ e. omega arith) (λ lt e. omega arith) ∙ l.1 k past under,
    )

pub indexed_along : (one two : List ℕ) (from : ℕ) (numbers : List ℕ) → length two ≡ length one → tiles two from ≡ tiles one from → IsIndexed one from numbers → IsIndexed two from numbers
indexed_along one two from numbers count same h =
    let room = h.room in
    record { room = omega (arith, count); told = λ i. h.told i ∙ ap (λ ps. size_at ps (i + i)) (sym same) }

module _ {sma : Sma} {ws : List ℕ} {aside : Aside} {n index size : ℕ} (ready : IsReady sma ws aside) (s : Seen sma ws aside n index size) (before : Option ℕ) (last : IsLastTold sma.sizes index before) (new : List ℕ) (short : IsShort sma.sizes new index size n) where
  twice : 2 * index ≡ index + index
  twice = omega arith

  abbrev mid : List ℕ
  mid = cut_words ws (2 * index) size n

  mid_indexed : IsIndexed mid sma.bounds.from new
  mid_indexed = take_indexed s.room sma.sizes index ready.indexed twice new short

  pub relink_inside : MatchOption before (Unit {0}) (λ q. 2 * q + 1 < length mid)
  relink_inside = link_inside sma.bounds mid aside new index before (take_ready s.room) mid_indexed (last_short sma.sizes new index size n before short last)

  pub relink_apart : MatchOption before (Unit {0}) (λ q. MayStore mid aside.windows (2 * q + 1))
  relink_apart = link_apart sma.bounds mid aside new index before (take_ready s.room) mid_indexed (last_short sma.sizes new index size n before short last)

  module _ (v : ℕ) where
    abbrev after : List ℕ
    after = relinked_words mid before v

    moved : Relinked sma.bounds mid after aside
    moved = relinked sma.bounds mid aside new index v before (take_ready s.room) mid_indexed (last_short sma.sizes new index size n before short last)

    pub done_blocks : live_blocks after sma.bounds.from ≡ with_block (record { place = 2 * index; size = n }) (live_blocks ws sma.bounds.from)
    done_blocks = ap lives moved.same ∙ take_more s.room

    pub done_word : slice_index after (2 * index) ≡ n
    done_word =
        let most = s.inside_is in
        let wide = s.room.some in
        let enough = s.room.enough in
        relinked_at mid index v (2 * index) before sma.sizes last (omega arith) ∙ cut_first ws (2 * index) size n (omega arith)

    pub done_same : SameBlocks ws after sma.bounds.from (live_blocks ws sma.bounds.from)
    done_same = relinked_same ws mid sma.bounds.from sma.sizes index v before (live_blocks ws sma.bounds.from) ready.formatted ready.indexed last (λ i t. t) (take_same s.room)

    pub done_ready : (sma' : Sma) → sma'.bounds ≡ sma.bounds → sma'.head ≡ relinked_head sma.head before v → sma'.free ≡ sma.free - n → sma'.sizes ≡ new → (n < size → v ≡ 2 * index + n) → (size ≤ n → v ≡ slice_index ws (2 * index + 1)) → IsReady sma' after aside
    done_ready sma' bounds head free sizes cut whole =
        let linked = take_linked s.room sma.sizes index ready.indexed twice sma.head ready.linked before v last cut whole in
        let counted = (take_counted s.room sma.sizes index ready.indexed twice sma.free ready.counted).1 in
        let indexed : IsIndexed after sma.bounds.from new = indexed_along mid after sma.bounds.from new moved.count moved.same mid_indexed in
        let made : IsReady (record { bounds = sma.bounds; head = relinked_head sma.head before v; free = sma.free - n; sizes = new }) after aside = ready_by (record { bounds = sma.bounds; head = relinked_head sma.head before v; free = sma.free - n; sizes = new }) after aside ready.short ready.even moved.filled indexed (subst (λ ps. AreLinked after (relinked_head sma.head before v) ps 0) (sym moved.same) linked) (counted ∙ ap gap_words (sym moved.same)) in
        same_sma sma' after aside sma.bounds (relinked_head sma.head before v) (sma.free - n) new bounds head free sizes made
