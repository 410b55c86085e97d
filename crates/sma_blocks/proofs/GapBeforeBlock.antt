-- The gap that ends where a live block begins, by the index.
use Rattle.std.proofs.Common.{◌≡◌, ◌≢◌, ◌⊎◌, inl, inr, ℕ, ◌+◌, ◌-◌, ◌*◌, ◌&&◌, ◌/◌, ◌%◌, ◌<◌, ◌≤◌, Bool, true, false, not, cond, List, [], ◌∷◌, ◌++◌, length, get_or, Option, Some, None, refl, sym, ap, ◌∙◌, subst, arith}
use Rattle.std.specs.List.{Contains}
use Rattle.std.proofs.lemmas.Bool.{cases_lt, cases_eq, cases_Bool, false≢true, not-true, and_left, and_right}
use Rattle.seg_words.specs.declared.gaps.Extent.{Extent}
use Rattle.sma_blocks.specs.Tiles.{Tile, tiles, IsTileAt, Fill, gaps_touch, are_whole, IsFormatted}
use Rattle.sma_blocks.specs.Live.{lives}
use Rattle.sma_blocks.specs.Walk.{IsEdge, ends_in_gap, IsFreeBefore}
use Rattle.sma_blocks.proofs.TileLemmas.{Fill-le, tiles-filled, edge_whole}
use Rattle.sma_blocks.proofs.LiveBlocks.{tile_extent}
use Rattle.seg_words.specs.Members.{Contains-cases}
use Rattle.seg_words.specs.Gaps.{is_whole}
use Rattle.sma_blocks.proofs.WholeTiles.{whole_split, whole_head}
use Rattle.sma_blocks.proofs.TouchingGaps.{merged_front, merged_back, merged_gap}
use Rattle.sma_blocks.proofs.FitPlaces.{Fill-even}
use Rattle.sma_blocks.specs.Index.{here, size_at, IsIndexed}
use Rattle.sma_blocks.proofs.LastGapLink.{IsLastTold}
use Rattle.sma_blocks.proofs.FirstFit.{here_other, here_live, here_gap, size_at-append, size_outside, edge_behind}

-- tiles begin at a live block
pub edge_of_live : (ws : List ℕ) (from at size : ℕ) (ps : List Tile) (a : ℕ) → IsEdge ws from a → tiles ws a ≡ ps → Contains (lives ps) (record { place = at; size = size }) → IsEdge ws from at
edge_of_live ws from at size [] a h is live = absurd (omega (arith, live.1))
edge_of_live ws from at size (p ∷ ps) a h is live =
    let filled : Fill ws a (p ∷ ps) (length ws) = subst (λ qs. Fill ws a qs (length ws)) is h.after in
    let behind : tiles ws (a + p.size) ≡ ps = tiles-filled ws (a + p.size) ps filled.1 in
    go p.live live filled (λ later. edge_of_live ws from at size ps (a + p.size) (edge_behind ws from a p ps h filled) behind later)
  where
    go : (kind : Bool) → Contains (cond kind (tile_extent p ∷ lives ps) (lives ps)) (record { place = at; size = size }) → Fill ws a (p ∷ ps) (length ws) → (Contains (lives ps) (record { place = at; size = size }) → IsEdge ws from at) → IsEdge ws from at
    go true c f on = elim (Contains-cases (tile_extent p) (lives ps) (record { place = at; size = size }) c) [
      | inl same ↦
          let place : at ≡ a = sym (ap (λ (x : Extent). x.place) same) ∙ f.0.place in subst (λ (x : ℕ). IsEdge ws from x) (sym place) h
      | inr later ↦ on later
    ]
    go false c f on = on c

-- the parts of tiles that fill words
pub fill_split : (ws : List ℕ) (a : ℕ) (ps qs : List Tile) (b : ℕ) → Fill ws a (ps ++ qs) b → (m : ℕ) × Fill ws a ps m × Fill ws m qs b
fill_split ws a [] qs b h = (a, refl, h)
fill_split ws a (p ∷ ps) qs b h =
    let rest = fill_split ws (a + p.size) ps qs b h.1 in (rest.0, (h.0, rest.1), rest.2)

-- tiles that end in a gap
pub record LastGap (ps : List Tile) : Type 0 where
  pub front : List Tile
  pub last : Tile
  pub split : ps ≡ front ++ last ∷ []
  pub gap : last.live ≡ false

pub last_gap : (ps : List Tile) (p : Tile) (b : Bool) → ends_in_gap b (p ∷ ps) ≡ true → LastGap (p ∷ ps)
last_gap [] p b h = record { front = []; last = p; split = refl; gap = not-true p.live h }
last_gap (q ∷ ps) p b h =
    let rest = last_gap ps q (not p.live) h in record {
      front = p ∷ rest.front;
      last = rest.last;
      split = ap (λ xs. p ∷ xs) rest.split;
      gap = rest.gap;
    }

pub last_gap_of : (ps : List Tile) → ends_in_gap false ps ≡ true → LastGap ps
last_gap_of [] h = absurd (false≢true h)
last_gap_of (p ∷ ps) h = last_gap ps p false h

-- a gap that ends where the tiles end is the last one
pub ends_there : (ws : List ℕ) (a : ℕ) (ps : List Tile) (at q size : ℕ) (b : Bool) → Fill ws a ps at → size_at ps q ≡ size → q + size ≡ at → 1 ≤ size → ends_in_gap b ps ≡ true
ends_there ws a [] at q size b h is end some = absurd (omega arith)
ends_there ws a (p ∷ ps) at q size b h is end some = elim (cases_Bool p.live) [
  | inl live ↦
      ends_there ws (a + p.size) ps at q size (not p.live) h.1 (omega (arith, here_live p q live)) end some
  | inr gap ↦ elim (cases_eq p.place q) [
    | inr apart ↦
        ends_there ws (a + p.size) ps at q size (not p.live) h.1 (omega (arith, here_other p q apart)) end some
    | inl same ↦
        let place = h.0.place in
        let wide = h.0.enough in
        let later : size_at ps q ≡ 0 = size_outside ws (a + p.size) ps at q h.1 (inl (omega arith)) in
        let there : a + p.size ≡ at = omega (arith, here_gap p q same gap) in
        none_left ps h.1 there gap
  ]
]
  where
    none_left : (rest : List Tile) → Fill ws (a + p.size) rest at → a + p.size ≡ at → p.live ≡ false → ends_in_gap (not p.live) rest ≡ true
    none_left [] f e gap = ap not gap
    none_left (r ∷ rest) f e gap =
        let wide = f.0.enough in absurd (omega (arith, Fill-le ws ((a + p.size) + r.size) rest at f.1))

-- nothing ends there
pub before_none : (ws : List ℕ) (from s at : ℕ) (h : IsEdge ws from at) → (ends_in_gap false h.passed && is_whole s (at - 1) 2) ≡ false → IsFreeBefore ws from s at at
before_none ws from s at h ends = record {
  front = h.passed;
  tail = [];
  before = h.before;
  between = refl;
  free = refl;
  one = omega arith;
  whole = λ lt. absurd (omega arith);
  joined = λ lt. absurd (omega arith);
  ends_live = ends;
  after = h.after;
}

-- a gap ends there
pub record EndsAt (ws : List ℕ) (from at : ℕ) (h : IsEdge ws from at) : Type 0 where
  pub front : List Tile
  pub gap : Tile
  pub split : h.passed ≡ front ++ gap ∷ []
  pub free : gap.live ≡ false
  pub before : Fill ws from front gap.place
  pub stands : IsTileAt ws gap.place gap
  pub end : gap.place + gap.size ≡ at

pub ends_at : (ws : List ℕ) (from at : ℕ) (h : IsEdge ws from at) → ends_in_gap false h.passed ≡ true → EndsAt ws from at h
ends_at ws from at h ends =
    let l = last_gap_of h.passed ends in
    let split = l.split in
    let parts = fill_split ws from l.front (l.last ∷ []) at (subst (λ ps. Fill ws from ps at) l.split h.before) in
    let place : l.last.place ≡ parts.0 = parts.2.0.place in
    record {
      front = l.front;
      gap = l.last;
      split = l.split;
      free = l.gap;
      before = subst (λ (m : ℕ). Fill ws from l.front m) (sym place) parts.1;
      stands = subst (λ (m : ℕ). IsTileAt ws m l.last) (sym place) parts.2.0;
      end = ap (λ (m : ℕ). m + l.last.size) place ∙ parts.2.1;
    }

gap_whole : (s : ℕ) (others : List Tile) (front : List Tile) (p : Tile) → are_whole s ((front ++ p ∷ []) ++ others) ≡ true → is_whole s p.place p.size ≡ true
gap_whole s others front p all = (whole_head s p [] (whole_split s front (p ∷ []) (whole_split s (front ++ p ∷ []) others all).0).1).0

pub before_ends : (ws : List ℕ) (from at : ℕ) {s : ℕ} (h : IsEdge ws from at) → IsFormatted ws from s → is_whole s (at - 1) 2 ≡ true → (e : EndsAt ws from at h) → IsFreeBefore ws from s e.gap.place at
before_ends ws from at {s} h formatted joined e =
    let whole : gaps_touch s false (h.passed ++ tiles ws at) ≡ false = sym (ap (gaps_touch s false) (edge_whole ws from at h)) ∙ formatted.merged in
    let passed : gaps_touch s false (e.front ++ e.gap ∷ []) ≡ false = sym (ap (gaps_touch s false) e.split) ∙ merged_front s h.passed (tiles ws at) whole in
    let apart = merged_gap s (ends_in_gap false e.front) e.gap [] e.free (merged_back s e.front (e.gap ∷ []) passed) in
    let all : are_whole s ((e.front ++ e.gap ∷ []) ++ tiles ws at) ≡ true = sym (ap (are_whole s) (edge_whole ws from at h ∙ ap (λ ps. ps ++ tiles ws at) e.split)) ∙ formatted.whole in
    let none : lives (e.gap ∷ []) ≡ [] = ap (λ (k : Bool). cond k (tile_extent e.gap ∷ []) []) e.free in
    record {
      front = e.front;
      tail = e.gap ∷ [];
      before = e.before;
      between = (e.stands, e.end);
      free = none;
      one = omega arith;
      whole = λ lt. subst (λ (x : ℕ). is_whole s e.gap.place x ≡ true) (let end = e.end in omega arith) (gap_whole s (tiles ws at) e.front e.gap all);
      joined = λ lt. joined;
      ends_live = apart.0;
      after = h.after;
    }

nonzero : (n : ℕ) → n ≢ 0 → 1 ≤ n
nonzero n some = elim (cases_lt 0 n) [ inl more ↦ omega arith | inr none ↦ absurd (some (omega arith)) ]

-- a gap lies inside the words that the tiles fill
pub size_within : (ws : List ℕ) (a : ℕ) (ps : List Tile) (b q : ℕ) → Fill ws a ps b → (size_at ps q ≡ 0) ⊎ (q + size_at ps q ≤ b)
size_within ws a [] b q h = inl refl
size_within ws a (p ∷ ps) b q h =
    let end : a + p.size ≤ b = Fill-le ws (a + p.size) ps b h.1 in
    let place = h.0.place in
    let wide = h.0.enough in
    elim (cases_eq p.place q) [
      | inr apart ↦ elim (size_within ws (a + p.size) ps b q h.1) [
        | inl none ↦ inl (omega (arith, here_other p q apart))
        | inr within ↦ inr (omega (arith, here_other p q apart))
      ]
      | inl same ↦
          let later : size_at ps q ≡ 0 = size_outside ws (a + p.size) ps b q h.1 (inl (omega arith)) in
          elim (cases_Bool p.live) [
            | inl live ↦ inl (omega (arith, here_live p q live))
            | inr gap ↦ inr (omega (arith, here_gap p q same gap))
          ]
    ]

-- the sizes at a place where the tiles before end in a gap
size_by_ends : (ws : List ℕ) (from at : ℕ) (h : IsEdge ws from at) (e : EndsAt ws from at h) (q : ℕ) → size_at (tiles ws from) q ≡ size_at e.front q + here e.gap q + size_at (tiles ws at) q
size_by_ends ws from at h e q =
    ap (λ ps. size_at ps q) (edge_whole ws from at h ∙ ap (λ ps. ps ++ tiles ws at) e.split) ∙ omega (arith, size_at-append (e.front ++ e.gap ∷ []) (tiles ws at) q, size_at-append e.front (e.gap ∷ []) q)

module _ (ws : List ℕ) (from at : ℕ) (numbers : List ℕ) {s : ℕ} (formatted : IsFormatted ws from s) (h : IsEdge ws from at) (indexed : IsIndexed ws from numbers) where
  at_even : at % 2 ≡ 0
  at_even = Fill-even ws from h.passed at h.before formatted.even

  -- its number
  number_at : (e : EndsAt ws from at h) → (e.gap.place % 2 ≡ 0) × (e.gap.place < at) × (2 ≤ e.gap.size) × (get_or numbers (e.gap.place / 2) 0 ≡ e.gap.size)
  number_at e =
      let m = e.gap.place in
      let end = e.end in
      let wide = e.stands.enough in
      let even : m % 2 ≡ 0 = Fill-even ws from e.front m e.before formatted.even in
      let half : m / 2 + m / 2 ≡ m = omega arith in
      let front : size_at e.front m ≡ 0 = size_outside ws from e.front m m e.before (inr (omega arith)) in
      let later : size_at (tiles ws at) m ≡ 0 = size_outside ws at (tiles ws at) (length ws) m h.after (inl (omega arith)) in
      let same : get_or numbers (m / 2) 0 ≡ size_at (tiles ws from) m = indexed.told (m / 2) ∙ ap (λ (x : ℕ). size_at (tiles ws from) x) half in
      (even, omega arith, wide, omega (arith, size_by_ends ws from at h e m, here_gap e.gap m refl e.free))

  -- no number between is another's
  none_between : (e : EndsAt ws from at h) (index : ℕ) → e.gap.place < index + index → index + index < at → get_or numbers index 0 ≡ 0
  none_between e index low high =
      let q = index + index in
      let front : size_at e.front q ≡ 0 = size_outside ws from e.front e.gap.place q e.before (inr (omega arith)) in
      let later : size_at (tiles ws at) q ≡ 0 = size_outside ws at (tiles ws at) (length ws) q h.after (inl (omega arith)) in
      indexed.told index ∙ omega (arith, size_by_ends ws from at h e q, here_other e.gap q (λ e. omega arith))

  pub free_none : ((k : ℕ) → k < at / 2 → get_or numbers k 0 ≡ 0) → IsFreeBefore ws from s at at
  free_none zeros = elim (cases_Bool (ends_in_gap false h.passed)) [
    | inl ends ↦
        let e = ends_at ws from at h ends in
        let n = number_at e in
        let even = at_even in
        absurd (omega (arith, n.0, n.1, n.2, n.3, zeros (e.gap.place / 2) (omega (arith, n.0, n.1))))
    | inr ends ↦ before_none ws from s at h (and_left (ends_in_gap false h.passed) (is_whole s (at - 1) 2) ends)
  ]

  -- the number that was found is that of the gap that ends there
  same_number : (e : EndsAt ws from at h) (index : ℕ) → index < at / 2 → get_or numbers index 0 ≢ 0 → ((k : ℕ) → index < k → k < at / 2 → get_or numbers k 0 ≡ 0) → (e.gap.place ≡ index + index) × (get_or numbers index 0 ≡ e.gap.size)
  same_number e index before some zeros =
      let n = number_at e in
      let even = at_even in
      let place_even : e.gap.place % 2 ≡ 0 = n.0 in
      let place_before : e.gap.place < at = n.1 in
      let wide : 2 ≤ e.gap.size = n.2 in
      let is : get_or numbers (e.gap.place / 2) 0 ≡ e.gap.size = n.3 in
      elim (cases_lt index (e.gap.place / 2)) [
        | inl low ↦ absurd (omega (arith, zeros (e.gap.place / 2) low (omega arith)))
        | inr high ↦ elim (cases_lt (e.gap.place / 2) index) [
          | inl past ↦ absurd (some (none_between e index (omega arith) (omega arith)))
          | inr not_past ↦
              let half : index ≡ e.gap.place / 2 = omega arith in (omega arith, ap (λ (k : ℕ). get_or numbers k 0) half ∙ is)
        ]
      ]

  pub free_touching : (index : ℕ) → index < at / 2 → get_or numbers index 0 ≢ 0 → ((k : ℕ) → index < k → k < at / 2 → get_or numbers k 0 ≡ 0) → 2 * index + get_or numbers index 0 ≡ at → is_whole s (at - 1) 2 ≡ true → IsFreeBefore ws from s (2 * index) at
  free_touching index before some zeros touching joined =
      let q = index + index in
      let even = at_even in
      let later : size_at (tiles ws at) q ≡ 0 = size_outside ws at (tiles ws at) (length ws) q h.after (inl (omega arith)) in
      let whole : size_at (tiles ws from) q ≡ size_at h.passed q + size_at (tiles ws at) q = ap (λ ps. size_at ps q) (edge_whole ws from at h) ∙ size_at-append h.passed (tiles ws at) q in
      let sizes : get_or numbers index 0 ≡ size_at (tiles ws from) q = indexed.told index in
      let positive : 1 ≤ get_or numbers index 0 = nonzero (get_or numbers index 0) some in
      let ends : ends_in_gap false h.passed ≡ true = ends_there ws from h.passed at q (get_or numbers index 0) false h.before (omega arith) (omega arith) positive in
      let e = ends_at ws from at h ends in
      let same = same_number e index before some zeros in
      let place : e.gap.place ≡ 2 * index = omega (arith, same.0) in
      subst (λ (m : ℕ). IsFreeBefore ws from s m at) place (before_ends ws from at h formatted joined e)

  pub free_apart : (index : ℕ) → index < at / 2 → get_or numbers index 0 ≢ 0 → ((k : ℕ) → index < k → k < at / 2 → get_or numbers k 0 ≡ 0) → 2 * index + get_or numbers index 0 ≢ at → IsFreeBefore ws from s at at
  free_apart index before some zeros apart = elim (cases_Bool (ends_in_gap false h.passed)) [
    | inl ends ↦
        let e = ends_at ws from at h ends in
        let same = same_number e index before some zeros in
        let end = e.end in
        absurd (apart (omega (arith, same.0, same.1)))
    | inr ends ↦ before_none ws from s at h (and_left (ends_in_gap false h.passed) (is_whole s (at - 1) 2) ends)
  ]

  -- a segment begins there
  pub free_border : is_whole s (at - 1) 2 ≡ false → IsFreeBefore ws from s at at
  free_border border = before_none ws from s at h (and_right (ends_in_gap false h.passed) (is_whole s (at - 1) 2) border)

  -- the number's gap lies inside the words
  pub number_inside : (index : ℕ) → index < at / 2 → 2 * index + get_or numbers index 0 ≤ length ws
  number_inside index before =
      let sizes : get_or numbers index 0 ≡ size_at (tiles ws from) (index + index) = indexed.told index in
      let most = size_within ws from (tiles ws from) (length ws) (index + index) formatted.full in
      elim most [
        | inl none ↦
            let even = at_even in
            let end : at ≤ length ws = Fill-le ws at (tiles ws at) (length ws) h.after in omega arith
        | inr within ↦ omega arith
      ]

-- the same, by what the index tells of the last gap before the block
pub record TellsBefore (ws : List ℕ) (from s at : ℕ) (numbers : List ℕ) (q : ℕ) : Type 0 where
  pub touching : 2 * q + get_or numbers q 0 ≡ at → is_whole s (at - 1) 2 ≡ true → IsFreeBefore ws from s (2 * q) at
  pub apart : 2 * q + get_or numbers q 0 ≢ at → IsFreeBefore ws from s at at
  pub border : is_whole s (at - 1) 2 ≡ false → IsFreeBefore ws from s at at
  pub inside : 2 * q + get_or numbers q 0 ≤ length ws

pub tells_none : (ws : List ℕ) (from at : ℕ) (numbers : List ℕ) (before : Option ℕ) {s : ℕ} → IsFormatted ws from s → IsEdge ws from at → IsIndexed ws from numbers → IsLastTold numbers (at / 2) before → before ≡ None → IsFreeBefore ws from s at at
tells_none ws from at numbers before {s} formatted h indexed told is =
    let t : IsLastTold numbers (at / 2) None = subst (λ (o : Option ℕ). IsLastTold numbers (at / 2) o) is told in
    free_none ws from at numbers formatted h indexed t.0

pub tells_some : (ws : List ℕ) (from at : ℕ) (numbers : List ℕ) (before : Option ℕ) (q : ℕ) {s : ℕ} → IsFormatted ws from s → IsEdge ws from at → IsIndexed ws from numbers → IsLastTold numbers (at / 2) before → before ≡ Some q → TellsBefore ws from s at numbers q
tells_some ws from at numbers before q {s} formatted h indexed told is =
    let t : IsLastTold numbers (at / 2) (Some q) = subst (λ (o : Option ℕ). IsLastTold numbers (at / 2) o) is told in
    record {
      touching = free_touching ws from at numbers formatted h indexed q t.0.0 t.0.1 t.1;
      apart = free_apart ws from at numbers formatted h indexed q t.0.0 t.0.1 t.1;
      border = free_border ws from at numbers formatted h indexed;
      inside = number_inside ws from at numbers formatted h indexed q t.0.0;
    }
