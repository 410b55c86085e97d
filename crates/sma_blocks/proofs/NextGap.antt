-- The first gap at or past a place, by the index and the chain.
use Rattle.std.proofs.Common.{◌≡◌, ◌≢◌, ◌⊎◌, inl, inr, ℕ, ◌+◌, ◌*◌, ◌/◌, ◌%◌, ◌<◌, ◌≤◌, Bool, true, false, cond, leb, List, [], ◌∷◌, length, get_or, slice_index, Option, Some, None, MatchBool, find, option_map, refl, sym, ap, ap₂, ◌∙◌, subst, arith}
use Rattle.std.specs.Prelude.{nat_le}
use Rattle.std.proofs.lemmas.Bool.{cases_lt, cases_eq, cases_Bool, le-leb, lt-leb}
use Rattle.seg_words.specs.declared.gaps.Extent.{Extent}
use Rattle.seg_words.specs.Windows.{Aside}
use Rattle.sma_blocks.specs.declared.sma.Sma.{Sma}
use Rattle.sma_blocks.specs.Tiles.{Tile, tiles, Fill}
use Rattle.sma_blocks.specs.Live.{gaps, free_runs_in}
use Rattle.sma_blocks.specs.Index.{here, size_at}
use Rattle.sma_blocks.specs.Chain.{AreLinked}
use Rattle.sma_blocks.specs.Ready.{IsReady}
use Rattle.sma_blocks.specs.Walk.{link_before}
use Rattle.sma_blocks.proofs.FilledWords.{filled_of}
use Rattle.sma_blocks.proofs.TileLemmas.{Fill-le}
use Rattle.sma_blocks.proofs.LiveBlocks.{tile_extent}
use Rattle.sma_blocks.proofs.FilledFreeRuns.{free_runs_of}
use Rattle.sma_blocks.proofs.FirstFit.{here_other, here_live, here_gap, size_outside, size_odd}
use Rattle.sma_blocks.proofs.GapBeforeBlock.{size_within}
use Rattle.sma_blocks.proofs.LastGapLink.{IsLastTold}

abbrev past : ℕ → List Tile → Option Extent
past at ps = find (λ (run : Extent). nat_le at run.place) (gaps ps)

-- the first gap at or past a place begins at v, or there is none and v is 0
abbrev IsFirst : List Tile → ℕ → ℕ → Type 0
IsFirst ps at v = ((past at ps ≡ None) × (v ≡ 0)) ⊎ ((past at ps ≡ Some (record { place = v; size = size_at ps v })) × (at ≤ v) × (1 ≤ size_at ps v))

-- a tile in front that is no such gap
first_behind : (p : Tile) (ps : List Tile) (at v : ℕ) → past at (p ∷ ps) ≡ past at ps → (1 ≤ size_at ps v → here p v ≡ 0) → IsFirst ps at v → IsFirst (p ∷ ps) at v
first_behind p ps at v same none h = elim h [
  | inl nothing ↦ inl (same ∙ nothing.0, nothing.1)
  | inr found ↦
      let size : size_at (p ∷ ps) v ≡ size_at ps v = (let n = none found.2 in omega arith) in
      inr (same ∙ found.0 ∙ ap (λ (n : ℕ). Some (record { place = v; size = n })) (sym size), found.1, omega (arith, found.2))
]

past_live : (at : ℕ) (p : Tile) (ps : List Tile) → p.live ≡ true → past at (p ∷ ps) ≡ past at ps
past_live at p ps live = ap (λ (k : Bool). find (λ (run : Extent). nat_le at run.place) (cond k (gaps ps) (tile_extent p ∷ gaps ps))) live

past_gap : (at : ℕ) (p : Tile) (ps : List Tile) → p.live ≡ false → past at (p ∷ ps) ≡ cond (leb at p.place) (Some (tile_extent p)) (past at ps)
past_gap at p ps gap = ap (λ (k : Bool). find (λ (run : Extent). nat_le at run.place) (cond k (gaps ps) (tile_extent p ∷ gaps ps))) gap

first_here : (ws : List ℕ) (a : ℕ) (ps : List Tile) (b f at : ℕ) → Fill ws a ps b → AreLinked ws f ps 0 → ((q : ℕ) → q < at → size_at ps q ≡ 0) → IsFirst ps at f
first_here ws a [] b f at h k none = inl (refl, k)
first_here ws a (p ∷ ps) b f at h k none =
    let wide = h.0.enough in
    elim (cases_Bool p.live) [
      | inl live ↦
          let j : AreLinked ws f ps 0 = subst (λ (kind : Bool). MatchBool kind (AreLinked ws f ps 0) ((f ≡ p.place) × AreLinked ws (slice_index ws (p.place + 1)) ps 0)) live k in
          first_behind p ps at f (past_live at p ps live) (λ _. here_live p f live) (first_here ws (a + p.size) ps b f at h.1 j (λ q low. omega (arith, here_live p q live, none q low)))
      | inr gap ↦
          let j : (f ≡ p.place) × AreLinked ws (slice_index ws (p.place + 1)) ps 0 = subst (λ (kind : Bool). MatchBool kind (AreLinked ws f ps 0) ((f ≡ p.place) × AreLinked ws (slice_index ws (p.place + 1)) ps 0)) gap k in
          let place = j.0 in
          let later : size_at ps f ≡ 0 = size_outside ws (a + p.size) ps b f h.1 (inl (omega (arith, h.0.place))) in
          let size : size_at (p ∷ ps) f ≡ p.size = omega (arith, here_gap p f (sym place) gap) in
          let low : at ≤ p.place = elim (cases_lt p.place at) [
            | inr high ↦ high
            | inl under ↦ absurd (omega (arith, none p.place under, here_gap p p.place refl gap))
          ] in
          let found : past at (p ∷ ps) ≡ Some (tile_extent p) = past_gap at p ps gap ∙ ap (λ (t : Bool). cond t (Some (tile_extent p)) (past at ps)) (le-leb at p.place low) in
          inr (found ∙ ap₂ (λ (x n : ℕ). Some (record { place = x; size = n })) (sym place) (sym size), omega arith, omega arith)
    ]

first_after : (ws : List ℕ) (a : ℕ) (ps : List Tile) (b f at g : ℕ) → Fill ws a ps b → AreLinked ws f ps 0 → size_at ps g ≢ 0 → g < at → ((q : ℕ) → g < q → q < at → size_at ps q ≡ 0) → IsFirst ps at (slice_index ws (g + 1))
first_after ws a [] b f at g h k some before none = absurd (some refl)
first_after ws a (p ∷ ps) b f at g h k some before none =
    let wide = h.0.enough in
    let v = slice_index ws (g + 1) in
    let inner : size_at ps g ≢ 0 → a + p.size ≤ g = λ s. elim (cases_lt g (a + p.size)) [
      | inr high ↦ high
      | inl low ↦ absurd (s (size_outside ws (a + p.size) ps b g h.1 (inl low)))
    ] in
    elim (cases_Bool p.live) [
      | inl live ↦
          let j : AreLinked ws f ps 0 = subst (λ (kind : Bool). MatchBool kind (AreLinked ws f ps 0) ((f ≡ p.place) × AreLinked ws (slice_index ws (p.place + 1)) ps 0)) live k in
          first_behind p ps at v (past_live at p ps live) (λ _. here_live p v live) (first_after ws (a + p.size) ps b f at g h.1 j (λ e. some (omega (arith, here_live p g live))) before (λ q low high. omega (arith, here_live p q live, none q low high)))
      | inr gap ↦
          let j : (f ≡ p.place) × AreLinked ws (slice_index ws (p.place + 1)) ps 0 = subst (λ (kind : Bool). MatchBool kind (AreLinked ws f ps 0) ((f ≡ p.place) × AreLinked ws (slice_index ws (p.place + 1)) ps 0)) gap k in
          elim (cases_eq p.place g) [
            | inr other ↦
                let s : size_at ps g ≢ 0 = λ e. some (omega (arith, here_other p g other)) in
                let far : a + p.size ≤ g = inner s in
                let skip : past at (p ∷ ps) ≡ past at ps = past_gap at p ps gap ∙ ap (λ (t : Bool). cond t (Some (tile_extent p)) (past at ps)) (lt-leb at p.place (omega (arith, h.0.place))) in
                first_behind p ps at v skip (λ big. here_other p v (λ e. omega (arith, h.0.place, size_outside ws (a + p.size) ps b v h.1 (inl (omega (arith, h.0.place)))))) (first_after ws (a + p.size) ps b (slice_index ws (p.place + 1)) at g h.1 j.1 s before (λ q low high. omega (arith, here_other p q (λ e. omega (arith, h.0.place)), none q low high)))
            | inl same ↦
                let skip : past at (p ∷ ps) ≡ past at ps = past_gap at p ps gap ∙ ap (λ (t : Bool). cond t (Some (tile_extent p)) (past at ps)) (lt-leb at p.place (omega arith)) in
                let link : AreLinked ws v ps 0 = subst (λ (x : ℕ). AreLinked ws (slice_index ws (x + 1)) ps 0) same j.1 in
                let zeros : (q : ℕ) → q < at → size_at ps q ≡ 0 = λ q low. elim (cases_lt g q) [
                  | inl over ↦ omega (arith, here_other p q (λ e. omega arith), none q over low)
                  | inr under ↦ size_outside ws (a + p.size) ps b q h.1 (inl (omega (arith, h.0.place)))
                ] in
                first_behind p ps at v skip (λ big. here_other p v (λ e. omega (arith, h.0.place, size_outside ws (a + p.size) ps b v h.1 (inl (omega (arith, h.0.place)))))) (first_here ws (a + p.size) ps b v at h.1 link zeros)
          ]
    ]

-- where a gap begins at or past the place there is a first one
past_some : (ps : List Tile) (at v : ℕ) → size_at ps v ≢ 0 → at ≤ v → past at ps ≢ None
past_some [] at v some low e = some refl
past_some (p ∷ ps) at v some low e = elim (cases_Bool p.live) [
  | inl live ↦ past_some ps at v (λ z. some (omega (arith, here_live p v live))) low (sym (past_live at p ps live) ∙ e)
  | inr gap ↦ elim (cases_lt p.place at) [
    | inl under ↦
        let skip : past at (p ∷ ps) ≡ past at ps = past_gap at p ps gap ∙ ap (λ (t : Bool). cond t (Some (tile_extent p)) (past at ps)) (lt-leb at p.place under) in
        past_some ps at v (λ z. some (omega (arith, here_other p v (λ q. omega arith)))) low (sym skip ∙ e)
    | inr high ↦
        let found : past at (p ∷ ps) ≡ Some (tile_extent p) = past_gap at p ps gap ∙ ap (λ (t : Bool). cond t (Some (tile_extent p)) (past at ps)) (le-leb at p.place high) in cc
  ]
]

abbrev place_of : Option Extent → ℕ
place_of None = 0
place_of (Some e) = e.place

-- where a gap begins at or past the place the first one begins no later
past_least : (ws : List ℕ) (a : ℕ) (ps : List Tile) (b at q : ℕ) (e : Extent) → Fill ws a ps b → size_at ps q ≢ 0 → at ≤ q → past at ps ≡ Some e → e.place ≤ q
past_least ws a [] b at q e h some low is = absurd (some refl)
past_least ws a (p ∷ ps) b at q e h some low is = elim (cases_Bool p.live) [
  | inl live ↦
      past_least ws (a + p.size) ps b at q e h.1 (λ z. some (omega (arith, here_live p q live))) low (sym (past_live at p ps live) ∙ is)
  | inr gap ↦ elim (cases_lt p.place at) [
    | inl under ↦
        let skip : past at (p ∷ ps) ≡ past at ps = past_gap at p ps gap ∙ ap (λ (t : Bool). cond t (Some (tile_extent p)) (past at ps)) (lt-leb at p.place under) in
        past_least ws (a + p.size) ps b at q e h.1 (λ z. some (omega (arith, here_other p q (λ x. omega arith)))) low (sym skip ∙ is)
    | inr high ↦
        let found : past at (p ∷ ps) ≡ Some (tile_extent p) = past_gap at p ps gap ∙ ap (λ (t : Bool). cond t (Some (tile_extent p)) (past at ps)) (le-leb at p.place high) in
        let place : e.place ≡ p.place = ap place_of (sym is ∙ found) in
        elim (cases_lt q a) [
          | inl before ↦ absurd (some (size_outside ws a (p ∷ ps) b q h (inl before)))
          | inr behind ↦ omega (arith, h.0.place)
        ]
  ]
]

abbrev pub pair_of : Extent → ℕ × ℕ
pair_of run = (run.place, run.size)

-- what the look-up answers
module _ {sma : Sma} {ws : List ℕ} {aside : Aside} (ready : IsReady sma ws aside) (at index v : ℕ) (before : Option ℕ) (half : index ≡ at / 2 + at % 2) (told : IsLastTold sma.sizes index before) (link : v ≡ link_before ws sma.head before) where
  abbrev all : List Tile
  all = tiles ws sma.bounds.from

  even : sma.bounds.from % 2 ≡ 0
  even = ready.formatted.even

  zero_at : (q : ℕ) → (q % 2 ≡ 0 → get_or sma.sizes (q / 2) 0 ≡ 0) → size_at all q ≡ 0
  zero_at q zero = elim (cases_eq (q % 2) 0) [
    | inr odd ↦ size_odd ws sma.bounds.from all (length ws) q ready.formatted.full even (omega arith)
    | inl is ↦
        let place : q / 2 + q / 2 ≡ q = omega arith in
        ap (λ (x : ℕ). size_at all x) (sym place) ∙ sym (ready.indexed.told (q / 2)) ∙ zero is
  ]

  first : IsFirst all at v
  first = subst (λ (x : ℕ). IsFirst all at x) (sym link) (go before told)
    where
      go : (before : Option ℕ) → IsLastTold sma.sizes index before → IsFirst all at (link_before ws sma.head before)
      go None t = first_here ws sma.bounds.from all (length ws) sma.head at ready.formatted.full ready.linked (λ q low. zero_at q (λ e. t.0 (q / 2) (omega arith)))
      go (Some q) t =
          let place : q + q ≡ 2 * q = omega arith in
          let some : size_at all (2 * q) ≢ 0 = λ e. t.0.1 (ready.indexed.told q ∙ ap (λ (x : ℕ). size_at all x) place ∙ e) in
          let low = t.0.0 in
          first_after ws sma.bounds.from all (length ws) sma.head at (2 * q) ready.formatted.full ready.linked some (omega arith) (λ r over under. zero_at r (λ e. t.1 (r / 2) (omega arith) (omega arith)))

  runs : free_runs_in sma.bounds ws ≡ gaps all
  runs = free_runs_of sma.bounds ws aside (filled_of ready)

  answer : (r : Option Extent) → past at all ≡ r → option_map pair_of r ≡ option_map pair_of (find (λ (run : Extent). nat_le at run.place) (free_runs_in sma.bounds ws))
  answer r is = ap (option_map pair_of) (sym is ∙ ap (find (λ (run : Extent). nat_le at run.place)) (sym runs))

  pub ask_small : 2 ≤ length ws → (v ≤ length ws) × (v / 2 < length sma.sizes)
  ask_small inside =
      let room = ready.indexed.room in
      elim first [
        | inl nothing ↦ let zero = nothing.1 in (omega arith, omega arith)
        | inr found ↦ elim (size_within ws sma.bounds.from all (length ws) v ready.formatted.full) [
          | inl none ↦ absurd (omega (arith, found.2))
          | inr within ↦ (omega arith, omega (arith, found.2))
        ]
      ]

  pub ask_before : v < at → None ≡ option_map pair_of (find (λ (run : Extent). nat_le at run.place) (free_runs_in sma.bounds ws))
  ask_before low = elim first [
    | inl nothing ↦ answer None nothing.0
    | inr found ↦ absurd (omega (arith, found.1))
  ]

  size_is : (size : ℕ) → size ≡ get_or sma.sizes (v / 2) 0 → 1 ≤ size_at all v → size ≡ size_at all v
  size_is size is some = elim (cases_eq (v % 2) 0) [
    | inr odd ↦ absurd (omega (arith, size_odd ws sma.bounds.from all (length ws) v ready.formatted.full even (omega arith)))
    | inl even_place ↦
        let place : v / 2 + v / 2 ≡ v = omega arith in
        is ∙ ready.indexed.told (v / 2) ∙ ap (λ (x : ℕ). size_at all x) place
  ]

  pub ask_none : (size : ℕ) → size ≡ get_or sma.sizes (v / 2) 0 → size ≡ 0 → None ≡ option_map pair_of (find (λ (run : Extent). nat_le at run.place) (free_runs_in sma.bounds ws))
  ask_none size is zero = elim first [
    | inl nothing ↦ answer None nothing.0
    | inr found ↦ absurd (omega (arith, size_is size is found.2, found.2))
  ]

  pub ask_some : (size : ℕ) → size ≡ get_or sma.sizes (v / 2) 0 → size ≢ 0 → at ≤ v → Some (v, size) ≡ option_map pair_of (find (λ (run : Extent). nat_le at run.place) (free_runs_in sma.bounds ws))
  ask_some size is some low = elim first [
    | inl nothing ↦
        let zero : v ≡ 0 = nothing.1 in
        let half_zero : v / 2 ≡ 0 = omega arith in
        let told_zero : size ≡ size_at all 0 = is ∙ ap (λ (k : ℕ). get_or sma.sizes k 0) half_zero ∙ ready.indexed.told 0 in
        absurd (past_some all at 0 (λ e. some (told_zero ∙ e)) (omega arith) nothing.0)
    | inr found ↦
        ap (λ (n : ℕ). Some (v, n)) (size_is size is found.2) ∙ answer (Some (record { place = v; size = size_at all v })) found.0
  ]

  -- what the index tells of that gap and of the places before it
  pub ask_next : (size : ℕ) → size ≡ get_or sma.sizes (v / 2) 0 → size ≢ 0 → at ≤ v → (v % 2 ≡ 0) × ((k : ℕ) → at ≤ k + k → k < v / 2 → get_or sma.sizes k 0 ≡ 0)
  ask_next size is some low = elim first [
    | inl nothing ↦
        let zero : v ≡ 0 = nothing.1 in
        let half_zero : v / 2 ≡ 0 = omega arith in
        let told_zero : size ≡ size_at all 0 = is ∙ ap (λ (k : ℕ). get_or sma.sizes k 0) half_zero ∙ ready.indexed.told 0 in
        absurd (past_some all at 0 (λ e. some (told_zero ∙ e)) (omega arith) nothing.0)
    | inr found ↦
        let even_place : v % 2 ≡ 0 = elim (cases_eq (v % 2) 0) [
          | inr odd ↦ absurd (omega (arith, found.2, size_odd ws sma.bounds.from all (length ws) v ready.formatted.full even (omega arith)))
          | inl is_even ↦ is_even
        ] in (
          even_place,
          λ k from under. elim (cases_eq (size_at all (k + k)) 0) [
            | inl none ↦ ready.indexed.told k ∙ none
            | inr gap ↦
                let least : v ≤ k + k = past_least ws sma.bounds.from all (length ws) at (k + k) _ ready.formatted.full gap from found.0 in
                absurd (omega arith)
          ],
        )
  ]

-- no gap begins in the last two words
past_end : (ws : List ℕ) (a : ℕ) (ps : List Tile) (b at : ℕ) → Fill ws a ps b → b ≤ at + 1 → past at ps ≡ None
past_end ws a [] b at h near = refl
past_end ws a (p ∷ ps) b at h near =
    let wide = h.0.enough in
    let end : a + p.size ≤ b = Fill-le ws (a + p.size) ps b h.1 in
    let rest = past_end ws (a + p.size) ps b at h.1 near in
    elim (cases_Bool p.live) [
      | inl live ↦ past_live at p ps live ∙ rest
      | inr gap ↦
          past_gap at p ps gap ∙ ap (λ (t : Bool). cond t (Some (tile_extent p)) (past at ps)) (lt-leb at p.place (omega (arith, h.0.place))) ∙ rest
    ]

pub ask_end : {sma : Sma} {ws : List ℕ} {aside : Aside} (ready : IsReady sma ws aside) (at : ℕ) → length ws ≤ at + 1 → None ≡ option_map pair_of (find (λ (run : Extent). nat_le at run.place) (free_runs_in sma.bounds ws))
ask_end {sma} {ws} {aside} ready at near =
    ap (option_map pair_of) (sym (past_end ws sma.bounds.from (tiles ws sma.bounds.from) (length ws) at ready.formatted.full near) ∙ ap (find (λ (run : Extent). nat_le at run.place)) (sym (free_runs_of sma.bounds ws aside (filled_of ready))))
