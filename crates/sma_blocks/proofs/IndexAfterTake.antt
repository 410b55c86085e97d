-- The index, the chain and the count after a block was taken.
use Rattle.std.proofs.Common.{◌≡◌, ◌≢◌, ◌⊎◌, inl, inr, ℕ, ◌+◌, ◌-◌, ◌/◌, ◌%◌, ◌<◌, ◌≤◌, Bool, true, false, ltb, cond, List, [], ◌∷◌, ◌++◌, length, get_or, slice_index, Option, refl, sym, ap, ◌∙◌, subst, arith}
use Rattle.std.proofs.lemmas.Bool.{cases_lt, cases_eq, lt-ltb, le-ltb}
use Rattle.max_tree.specs.Halves.{other_half, MayStand}
use Rattle.seg_words.specs.Windows.{Aside}
use Rattle.sma_blocks.specs.Tiles.{Tile, tiles, Fill}
use Rattle.sma_blocks.specs.Live.{gap_words}
use Rattle.sma_blocks.specs.Index.{here, size_at, IsIndexed, IsShort}
use Rattle.sma_blocks.specs.Chain.{AreLinked}
use Rattle.sma_blocks.specs.Walk.{cut_words, relinked_words, relinked_head}
use Rattle.sma_blocks.specs.declared.bounds.Bounds.{Bounds}
use Rattle.sma_blocks.proofs.TileLemmas.{Fill-le, Fill-same, edge_whole}
use Rattle.sma_blocks.proofs.TileChanges.{change_tiles, change_full}
use Rattle.sma_blocks.proofs.WordsAfterTake.{Room, room_fill, take_change, left_over, taken, cut_count, cut_same, cut_link}
use Rattle.sma_blocks.proofs.FirstFit.{here_other, here_live, here_gap, size_at-append, size_outside}
use Rattle.sma_blocks.proofs.GapSizes.{gap_words-append, pair_stands}
use Rattle.sma_blocks.proofs.ChainLemmas.{link_split, link_join, link_between, link_small}
use Rattle.sma_blocks.proofs.LastGapLink.{IsLastTold, IsLastOf, last_of, relinked_at, relinked_chain}

-- sizes of three parts
pub size_at-three : (front mid rest : List Tile) (q : ℕ) → size_at (front ++ (mid ++ rest)) q ≡ size_at front q + size_at mid q + size_at rest q
size_at-three front mid rest q = omega (arith, size_at-append front (mid ++ rest) q, size_at-append mid rest q)

abbrev pub tile_gap : ℕ → ℕ → Tile
tile_gap at size = record { place = at; size = size; live = false }

-- the sizes of what a cut leaves of a gap
left_at : (at size n q : ℕ) → q ≡ at + n → n < size → size_at (left_over at size n) q ≡ size - n
left_at at size n q is lt =
    let b : ltb n size ≡ true = lt-ltb n size lt in
    let one : Tile = record { place = at + n; size = size - n; live = false } in
    let found : here one q ≡ size - n = here_gap one q (sym is) refl in
    rw b (omega arith)

left_other : (at size n q : ℕ) → (n < size → q ≢ at + n) → size_at (left_over at size n) q ≡ 0
left_other at size n q other = elim (cases_lt n size) [
  | inl lt ↦
      let b : ltb n size ≡ true = lt-ltb n size lt in
      let one : Tile = record { place = at + n; size = size - n; live = false } in
      let none : here one q ≡ 0 = here_other one q (λ e. other lt (sym e)) in
      rw b (omega arith)
  | inr ge ↦ let b : ltb n size ≡ false = le-ltb n size ge in rw b refl
]

left_words : (at size n : ℕ) → gap_words (left_over at size n) ≡ size - n
left_words at size n = elim (cases_lt n size) [
  | inl lt ↦ let b : ltb n size ≡ true = lt-ltb n size lt in rw b (omega arith)
  | inr ge ↦ let b : ltb n size ≡ false = le-ltb n size ge in rw b (omega arith)
]

module _ {bounds : Bounds} {ws : List ℕ} {aside : Aside} {at size n : ℕ} (h : Room bounds ws aside at size n) (numbers : List ℕ) (index : ℕ) (indexed : IsIndexed ws bounds.from numbers) (twice : at ≡ index + index) where
  old_tiles : tiles ws bounds.from ≡ h.edge.passed ++ (tile_gap at size ∷ tiles ws (at + size))
  old_tiles = edge_whole ws bounds.from at h.edge ∙ ap (λ ps. h.edge.passed ++ ps) h.is

  -- the sizes before and after, by the parts
  old_at : (q : ℕ) → size_at (tiles ws bounds.from) q ≡ size_at h.edge.passed q + here (tile_gap at size) q + size_at (tiles ws (at + size)) q
  old_at q = ap (λ ps. size_at ps q) old_tiles ∙ omega (arith, size_at-append h.edge.passed (tile_gap at size ∷ tiles ws (at + size)) q)

  new_at : (q : ℕ) → size_at (tiles (cut_words ws at size n) bounds.from) q ≡ size_at h.edge.passed q + size_at (left_over at size n) q + size_at (tiles ws (at + size)) q
  new_at q =
      let one : here (taken at n) q ≡ 0 = here_live (taken at n) q refl in
      ap (λ ps. size_at ps q) (change_tiles (take_change h)) ∙ omega (arith, size_at-three h.edge.passed (taken at n ∷ left_over at size n) (tiles ws (at + size)) q)

  pub inside : at + size ≤ length ws
  inside = Fill-le ws (at + size) (tiles ws (at + size)) (length ws) (room_fill h).1

  pub size_even : size % 2 ≡ 0
  size_even = (room_fill h).0.even

  -- no other gap begins among the words of this one
  passed_at : (q : ℕ) → at ≤ q → size_at h.edge.passed q ≡ 0
  passed_at q low = size_outside ws bounds.from h.edge.passed at q h.edge.before (inr low)

  later_at : (q : ℕ) → q < at + size → size_at (tiles ws (at + size)) q ≡ 0
  later_at q high = size_outside ws (at + size) (tiles ws (at + size)) (length ws) q (room_fill h).1 (inl high)

  pub index_inside : index < length numbers
  index_inside =
      let room = indexed.room in
      let most = inside in
      let some = h.some in
      let enough = h.enough in
      omega arith

  pub rest_inside : n < size → index + n / 2 < length numbers
  rest_inside lt =
      let room = indexed.room in
      let most = inside in
      let even = h.even in
      omega arith

  pub unchanged_at : (i : ℕ) → i ≢ index → (n < size → i ≢ index + n / 2) → get_or numbers i 0 ≡ size_at (tiles (cut_words ws at size n) bounds.from) (i + i)
  unchanged_at i apart other =
      let even = h.even in
      let one : here (tile_gap at size) (i + i) ≡ 0 = here_other (tile_gap at size) (i + i) (λ e. apart (omega arith)) in
      let left : size_at (left_over at size n) (i + i) ≡ 0 = left_other at size n (i + i) (λ lt e. other lt (omega arith)) in
      let told = indexed.told i in
      omega (arith, old_at (i + i), new_at (i + i))

  gone_at : (i : ℕ) → i ≡ index → size_at (tiles (cut_words ws at size n) bounds.from) (i + i) ≡ 0
  gone_at i is =
      let some = h.some in
      let enough = h.enough in
      let left : size_at (left_over at size n) (i + i) ≡ 0 = left_other at size n (i + i) (λ lt e. omega arith) in
      omega (arith, new_at (i + i), passed_at (i + i) (omega arith), later_at (i + i) (omega arith))

  rest_at : n < size → (i : ℕ) → i ≡ index + n / 2 → size_at (tiles (cut_words ws at size n) bounds.from) (i + i) ≡ size - n
  rest_at lt i is =
      let even = h.even in
      let left : size_at (left_over at size n) (i + i) ≡ size - n = left_at at size n (i + i) (omega arith) lt in
      omega (arith, new_at (i + i), passed_at (i + i) (omega arith), later_at (i + i) (omega arith))

  -- the other number of the pair in which the rest begins
  pub rest_stands : n < size → other_half (index + n / 2) ≢ index → MayStand (index + n / 2) (size - n) (get_or numbers (other_half (index + n / 2)) 0)
  rest_stands lt other =
      let i = index + n / 2 in
      let new = cut_words ws at size n in
      let some : size_at (tiles new bounds.from) (i + i) ≢ 0 = λ e. (let r = rest_at lt i refl in omega arith) in
      let all = change_tiles (take_change h) in
      let full : Fill new bounds.from (tiles new bounds.from) (length new) = subst (λ ps. Fill new bounds.from ps (length new)) (sym all) (change_full (take_change h)) in
      let same : size_at (tiles new bounds.from) (other_half i + other_half i) ≡ get_or numbers (other_half i) 0 = sym (unchanged_at (other_half i) other (λ _ e. omega arith)) in
      subst (λ (x : ℕ). MayStand i x (get_or numbers (other_half i) 0)) (rest_at lt i refl)
      (subst (λ (x : ℕ). MayStand i (size_at (tiles new bounds.from) (i + i)) x) same (pair_stands new bounds.from (tiles new bounds.from) (length new) i full some))

  pub take_indexed : (new : List ℕ) → IsShort numbers new index size n → IsIndexed (cut_words ws at size n) bounds.from new
  take_indexed new short =
      let count : length (cut_words ws at size n) ≡ length ws = cut_count ws at size n in
      let same = short.count in
      let room = indexed.room in
      record {
        room = omega arith;
        told = λ i. elim (cases_eq i index) [
          | inl is ↦ ap (λ (k : ℕ). get_or new k 0) is ∙ short.gone ∙ sym (gone_at i is)
          | inr other ↦ elim (cases_lt n size) [
            | inl lt ↦ elim (cases_eq i (index + n / 2)) [
              | inl is ↦ ap (λ (k : ℕ). get_or new k 0) is ∙ short.rest lt ∙ sym (rest_at lt i is)
              | inr apart ↦ short.others i other (λ _. apart) ∙ unchanged_at i other (λ _. apart)
            ]
            | inr ge ↦
                let none : n < size → i ≢ index + n / 2 = λ lt e. omega arith in
                short.others i other none ∙ unchanged_at i other none
          ]
        ];
      }

  -- the words of all gaps
  pub take_counted : (free : ℕ) → free ≡ gap_words (tiles ws bounds.from) → (n ≤ free) × (free - n ≡ gap_words (tiles (cut_words ws at size n) bounds.from))
  take_counted free counted =
      let enough = h.enough in
      let old : gap_words (tiles ws bounds.from) ≡ gap_words h.edge.passed + (size + gap_words (tiles ws (at + size))) = ap gap_words old_tiles ∙ gap_words-append h.edge.passed (tile_gap at size ∷ tiles ws (at + size)) in
      let new : gap_words (tiles (cut_words ws at size n) bounds.from) ≡ gap_words h.edge.passed + (gap_words (left_over at size n) + gap_words (tiles ws (at + size))) = ap gap_words (change_tiles (take_change h)) ∙ gap_words-append h.edge.passed (taken at n ∷ (left_over at size n ++ tiles ws (at + size))) ∙ ap (λ (x : ℕ). gap_words h.edge.passed + x) (gap_words-append (left_over at size n) (tiles ws (at + size))) in
      (omega arith, omega (arith, left_words at size n))

  -- the last gap before
  pub take_last : (before : Option ℕ) → IsLastTold numbers index before → IsLastOf h.edge.passed before
  take_last before last =
      let half : index ≡ at / 2 = omega arith in
      last_of ws bounds.from h.edge.passed at (tiles ws at) numbers before h.ready.formatted.even h.edge.before h.edge.after (edge_whole ws bounds.from at h.edge) indexed (subst (λ (k : ℕ). IsLastTold numbers k before) half last)

  module _ (head : ℕ) (linked : AreLinked ws head (tiles ws bounds.from) 0) where
    old_linked : AreLinked ws head (h.edge.passed ++ (tile_gap at size ∷ tiles ws (at + size))) 0
    old_linked = subst (λ ps. AreLinked ws head ps 0) old_tiles linked

    -- the link of the gap that is cut
    pub next_small : slice_index ws (at + 1) ≤ length ws
    next_small =
        let s = link_split ws head h.edge.passed (tile_gap at size ∷ tiles ws (at + size)) 0 old_linked in
        link_small ws (at + size) (tiles ws (at + size)) (length ws) (slice_index ws (at + 1)) 0 (length ws) (room_fill h).1 s.two.1 (omega arith) (omega arith)

    pub take_linked : (before : Option ℕ) (v : ℕ) → IsLastTold numbers index before → (n < size → v ≡ at + n) → (size ≤ n → v ≡ slice_index ws (at + 1)) → AreLinked (relinked_words (cut_words ws at size n) before v) (relinked_head head before v) (tiles (cut_words ws at size n) bounds.from) 0
    take_linked before v last cut whole =
        let s = link_split ws head h.edge.passed (tile_gap at size ∷ tiles ws (at + size)) 0 old_linked in
        let passed = h.edge.passed in
        let mid = cut_words ws at size n in
        let new = relinked_words mid before v in
        let next = slice_index ws (at + 1) in
        let even = h.even in
        let even_size = size_even in
        let some = h.some in
        let enough = h.enough in
        let most = inside in
        let same : (i : ℕ) → (i < at) ⊎ (at + size ≤ i) → slice_index mid i ≡ slice_index ws i = λ i out. cut_same ws at size n i (omega arith) (λ lt. omega arith) out enough in
        let later : (i : ℕ) → at ≤ i → slice_index new i ≡ slice_index mid i = λ i low. relinked_at mid index v i before numbers last (omega arith) in
        let count : length mid ≡ length ws = cut_count ws at size n in
        let low : Fill mid bounds.from passed at = Fill-same ws mid bounds.from passed at (λ i first end. same i (inl end)) h.edge.before in
        let one : AreLinked mid head passed s.middle = link_between ws mid bounds.from passed at head s.middle h.edge.before (λ i first end. same i (inl end)) s.one in
        let front : AreLinked new (relinked_head head before v) passed v = relinked_chain mid bounds.from passed at head s.middle v before low (omega arith) (take_last before last) one in
        let rest : AreLinked new next (tiles ws (at + size)) 0 = link_between ws new (at + size) (tiles ws (at + size)) (length ws) next 0 (room_fill h).1 (λ i first end. later i (omega arith) ∙ same i (inr first)) s.two.1 in
        let middle : AreLinked new v (left_over at size n) next = elim (cases_lt n size) [
          | inl lt ↦
              let b : ltb n size ≡ true = lt-ltb n size lt in
              let word : slice_index new ((at + n) + 1) ≡ next = later ((at + n) + 1) (omega arith) ∙ cut_link ws at size n lt some (omega arith) in
              subst (λ (k : Bool). AreLinked new v (cond k (record { place = at + n; size = size - n; live = false } ∷ []) []) next) (sym b) (cut lt, word)
          | inr ge ↦
              let b : ltb n size ≡ false = le-ltb n size ge in
              subst (λ (k : Bool). AreLinked new v (cond k (record { place = at + n; size = size - n; live = false } ∷ []) []) next) (sym b) (whole ge)
        ] in
        let tail : AreLinked new v (left_over at size n ++ tiles ws (at + size)) 0 = link_join new v (left_over at size n) next (tiles ws (at + size)) 0 middle rest in
        let all : AreLinked new (relinked_head head before v) (passed ++ ((taken at n ∷ left_over at size n) ++ tiles ws (at + size))) 0 = link_join new (relinked_head head before v) passed v (taken at n ∷ (left_over at size n ++ tiles ws (at + size))) 0 front tail in
        subst (λ ps. AreLinked new (relinked_head head before v) ps 0) (sym (change_tiles (take_change h))) all
