-- The chain of gaps, by the tiles.
use Rattle.std.proofs.Common.{◌≡◌, ◌≢◌, ◌⊎◌, inl, inr, ℕ, ◌+◌, ◌<◌, ◌≤◌, Bool, true, false, cond, List, [], ◌∷◌, ◌++◌, slice_index, MatchBool, refl, sym, ap, ◌∙◌, subst, arith}
use Rattle.std.specs.List.{Contains}
use Rattle.std.proofs.lemmas.Bool.{cases_lt, cases_eq, cases_Bool, false≢true}
use Rattle.seg_words.specs.declared.gaps.Extent.{Extent}
use Rattle.sma_blocks.specs.Tiles.{Tile, Fill}
use Rattle.sma_blocks.specs.Live.{lives, gaps}
use Rattle.sma_blocks.specs.Index.{here, size_at}
use Rattle.sma_blocks.specs.Chain.{IsChain, AreLinked}
use Rattle.sma_blocks.proofs.TileLemmas.{Fill-le}
use Rattle.sma_blocks.proofs.LiveBlocks.{tile_extent, lives_between}
use Rattle.seg_words.specs.Members.{Contains-cases}
use Rattle.sma_blocks.proofs.FirstFit.{here_other, here_live, here_gap, size_outside}

-- a chain over two parts
pub record Split (ws : List ℕ) (first : ℕ) (ps qs : List Tile) (last : ℕ) : Type 0 where
  pub middle : ℕ
  pub one : AreLinked ws first ps middle
  pub two : AreLinked ws middle qs last

pub link_split : (ws : List ℕ) (f : ℕ) (ps qs : List Tile) (t : ℕ) → AreLinked ws f (ps ++ qs) t → Split ws f ps qs t
link_split ws f [] qs t h = record { middle = f; one = refl; two = h }
link_split ws f (p ∷ ps) qs t h =
    let r = go p.live h (λ g k. link_split ws g ps qs t k) in record { middle = r.0; one = r.1; two = r.2 }
  where
    go : (kind : Bool) → MatchBool kind (AreLinked ws f (ps ++ qs) t) ((f ≡ p.place) × AreLinked ws (slice_index ws (p.place + 1)) (ps ++ qs) t)
        → ((g : ℕ) → AreLinked ws g (ps ++ qs) t → Split ws g ps qs t)
        → (s : ℕ) × (MatchBool kind (AreLinked ws f ps s) ((f ≡ p.place) × AreLinked ws (slice_index ws (p.place + 1)) ps s)) × AreLinked ws s qs t
    go true k on = let r = on f k in (r.middle, r.one, r.two)
    go false k on = let r = on (slice_index ws (p.place + 1)) k.1 in (r.middle, (k.0, r.one), r.two)

pub link_join : (ws : List ℕ) (f : ℕ) (ps : List Tile) (m : ℕ) (qs : List Tile) (t : ℕ) → AreLinked ws f ps m → AreLinked ws m qs t → AreLinked ws f (ps ++ qs) t
link_join ws f [] m qs t h k = subst (λ (x : ℕ). AreLinked ws x qs t) (sym h) k
link_join ws f (p ∷ ps) m qs t h k = go p.live h (λ g j. link_join ws g ps m qs t j k)
  where
    go : (kind : Bool) → MatchBool kind (AreLinked ws f ps m) ((f ≡ p.place) × AreLinked ws (slice_index ws (p.place + 1)) ps m)
        → ((g : ℕ) → AreLinked ws g ps m → AreLinked ws g (ps ++ qs) t)
        → MatchBool kind (AreLinked ws f (ps ++ qs) t) ((f ≡ p.place) × AreLinked ws (slice_index ws (p.place + 1)) (ps ++ qs) t)
    go true j on = on f j
    go false j on = (j.0, on (slice_index ws (p.place + 1)) j.1)

-- the word lies in a gap
abbrev pub IsGapWord : List Tile → ℕ → Type 0
IsGapWord [] i = ⊥
IsGapWord (p ∷ ps) i = ((p.live ≡ false) × (p.place ≤ i) × (i < p.place + p.size)) ⊎ IsGapWord ps i

pub gap_word_inside : (ws : List ℕ) (a : ℕ) (ps : List Tile) (b i : ℕ) → Fill ws a ps b → IsGapWord ps i → (a ≤ i) × (i < b)
gap_word_inside ws a [] b i h g = absurd g
gap_word_inside ws a (p ∷ ps) b i h g =
    let end : a + p.size ≤ b = Fill-le ws (a + p.size) ps b h.1 in
    let place = h.0.place in
    elim g [
      | inl here ↦ let low = here.1 in let high = here.2 in (omega arith, omega arith)
      | inr later ↦ let r = gap_word_inside ws (a + p.size) ps b i h.1 later in (omega (arith, r.0), r.1)
    ]

-- a word of a gap lies in no live block
pub gap_word_free : (ws : List ℕ) (a : ℕ) (ps : List Tile) (b i : ℕ) (e : Extent) → Fill ws a ps b → IsGapWord ps i → Contains (lives ps) e → (i < e.place) ⊎ (e.place + e.size ≤ i)
gap_word_free ws a [] b i e h g c = absurd g
gap_word_free ws a (p ∷ ps) b i e h g c = go p.live refl g c (λ w d. gap_word_free ws (a + p.size) ps b i e h.1 w d)
  where
    go : (kind : Bool) → p.live ≡ kind → ((p.live ≡ false) × (p.place ≤ i) × (i < p.place + p.size)) ⊎ IsGapWord ps i → Contains (cond kind (tile_extent p ∷ lives ps) (lives ps)) e → (IsGapWord ps i → Contains (lives ps) e → (i < e.place) ⊎ (e.place + e.size ≤ i)) → (i < e.place) ⊎ (e.place + e.size ≤ i)
    go true is w d rest = elim w [
      | inl here ↦ absurd (false≢true (sym here.0 ∙ is))
      | inr later ↦ elim (Contains-cases (tile_extent p) (lives ps) e d) [
        | inl same ↦
            let place : p.place ≡ e.place = ap (λ (x : Extent). x.place) same in
            let size : p.size ≡ e.size = ap (λ (x : Extent). x.size) same in
            let r = gap_word_inside ws (a + p.size) ps b i h.1 later in
            inr (omega (arith, h.0.place, r.0))
        | inr other ↦ rest later other
      ]
    ]
    go false is w d rest = elim w [
      | inl here ↦
          let r = lives_between ws (a + p.size) ps b e h.1 d in
          let high = here.2 in
          inl (omega (arith, h.0.place, r.0))
      | inr later ↦ rest later d
    ]

-- the chain stays where the words of the gaps stay
pub link_same : (old new : List ℕ) (a : ℕ) (ps : List Tile) (b f t : ℕ) → Fill old a ps b → ((i : ℕ) → IsGapWord ps i → slice_index new i ≡ slice_index old i) → AreLinked old f ps t → AreLinked new f ps t
link_same old new a [] b f t h same k = k
link_same old new a (p ∷ ps) b f t h same k =
    go p.live refl k (λ g j. link_same old new (a + p.size) ps b g t h.1 (λ i w. same i (inr w)) j)
  where
    go : (kind : Bool) → p.live ≡ kind → MatchBool kind (AreLinked old f ps t) ((f ≡ p.place) × AreLinked old (slice_index old (p.place + 1)) ps t) → ((g : ℕ) → AreLinked old g ps t → AreLinked new g ps t) → MatchBool kind (AreLinked new f ps t) ((f ≡ p.place) × AreLinked new (slice_index new (p.place + 1)) ps t)
    go true is j rest = rest f j
    go false is j rest =
        let wide = h.0.enough in
        let word : slice_index new (p.place + 1) ≡ slice_index old (p.place + 1) = same (p.place + 1) (inl (is, omega arith, omega arith)) in
        (j.0, subst (λ (x : ℕ). AreLinked new x ps t) (sym word) (rest (slice_index old (p.place + 1)) j.1))

pub link_between : (old new : List ℕ) (a : ℕ) (ps : List Tile) (b f t : ℕ) → Fill old a ps b → ((i : ℕ) → a ≤ i → i < b → slice_index new i ≡ slice_index old i) → AreLinked old f ps t → AreLinked new f ps t
link_between old new a ps b f t h same k =
    link_same old new a ps b f t h (λ i g. let r = gap_word_inside old a ps b i h g in same i r.0 r.1) k

-- no gap is among the tiles
none_tail : (ws : List ℕ) (a : ℕ) (p : Tile) (ps : List Tile) (b : ℕ) → Fill ws a (p ∷ ps) b → ((q : ℕ) → size_at (p ∷ ps) q ≡ 0) → (p.live ≡ true) × ((q : ℕ) → size_at ps q ≡ 0)
none_tail ws a p ps b h none =
    let wide = h.0.enough in
    let live : p.live ≡ true = elim (cases_Bool p.live) [
      | inl is ↦ is
      | inr gap ↦ absurd (omega (arith, here_gap p p.place refl gap, none p.place))
    ] in
    (live, λ q. omega (arith, none q))

pub link_none : (ws : List ℕ) (a : ℕ) (ps : List Tile) (b f t : ℕ) → Fill ws a ps b → ((q : ℕ) → size_at ps q ≡ 0) → AreLinked ws f ps t → f ≡ t
link_none ws a [] b f t h none k = k
link_none ws a (p ∷ ps) b f t h none k =
    let rest = none_tail ws a p ps b h none in
    link_none ws (a + p.size) ps b f t h.1 rest.1 (subst (λ (kind : Bool). MatchBool kind (AreLinked ws f ps t) ((f ≡ p.place) × AreLinked ws (slice_index ws (p.place + 1)) ps t)) rest.0 k)

pub none_link : (ws new : List ℕ) (a : ℕ) (ps : List Tile) (b v : ℕ) → Fill ws a ps b → ((q : ℕ) → size_at ps q ≡ 0) → AreLinked new v ps v
none_link ws new a [] b v h none = refl
none_link ws new a (p ∷ ps) b v h none =
    let rest = none_tail ws a p ps b h none in
    subst (λ (kind : Bool). MatchBool kind (AreLinked new v ps v) ((v ≡ p.place) × AreLinked new (slice_index new (p.place + 1)) ps v)) (sym rest.0) (none_link ws new (a + p.size) ps b v h.1 rest.1)

-- the last gap among the tiles begins there
pub record IsLastGap (ps : List Tile) (g : ℕ) : Type 0 where
  pub some : size_at ps g ≢ 0
  pub last : (q : ℕ) → g < q → size_at ps q ≡ 0

last_rest : (ws : List ℕ) (a : ℕ) (p : Tile) (ps : List Tile) (b g : ℕ) → Fill ws a (p ∷ ps) b → IsLastGap (p ∷ ps) g → p.place ≢ g → IsLastGap ps g
last_rest ws a p ps b g h l other = record {
  some = λ e. l.some (omega (arith, here_other p g other));
  last = λ q past. omega (arith, l.last q past);
}

-- behind the last gap is none
behind_last : (ws : List ℕ) (a : ℕ) (p : Tile) (ps : List Tile) (b g : ℕ) → Fill ws a (p ∷ ps) b → IsLastGap (p ∷ ps) g → p.place ≡ g → (q : ℕ) → size_at ps q ≡ 0
behind_last ws a p ps b g h l same q = elim (cases_lt g q) [
  | inl past ↦ omega (arith, l.last q past)
  | inr low ↦ size_outside ws (a + p.size) ps b q h.1 (inl (omega (arith, h.0.place, h.0.enough)))
]

-- its link is what the chain ends in
pub last_link : (ws : List ℕ) (a : ℕ) (ps : List Tile) (b f t g : ℕ) → Fill ws a ps b → IsLastGap ps g → AreLinked ws f ps t → slice_index ws (g + 1) ≡ t
last_link ws a [] b f t g h l k = absurd (l.some refl)
last_link ws a (p ∷ ps) b f t g h l k = go p.live refl k (λ x m j. last_link ws (a + p.size) ps b x t g h.1 m j)
  where
    go : (kind : Bool) → p.live ≡ kind → MatchBool kind (AreLinked ws f ps t) ((f ≡ p.place) × AreLinked ws (slice_index ws (p.place + 1)) ps t) → ((x : ℕ) → IsLastGap ps g → AreLinked ws x ps t → slice_index ws (g + 1) ≡ t) → slice_index ws (g + 1) ≡ t
    go true is j rest =
        rest f (record { some = λ e. l.some (omega (arith, here_live p g is)); last = λ q past. omega (arith, l.last q past) }) j
    go false is j rest = elim (cases_eq p.place g) [
      | inr other ↦ rest (slice_index ws (p.place + 1)) (last_rest ws a p ps b g h l other) j.1
      | inl same ↦
          let all : slice_index ws (p.place + 1) ≡ t = link_none ws (a + p.size) ps b (slice_index ws (p.place + 1)) t h.1 (behind_last ws a p ps b g h l same) j.1 in
          ap (λ (x : ℕ). slice_index ws (x + 1)) (sym same) ∙ all
    ]

-- the chain after its last link was set
pub link_set : (ws new : List ℕ) (a : ℕ) (ps : List Tile) (b f t g v : ℕ) → Fill ws a ps b → IsLastGap ps g → slice_index new (g + 1) ≡ v → ((i : ℕ) → i ≢ g + 1 → slice_index new i ≡ slice_index ws i) → AreLinked ws f ps t → AreLinked new f ps v
link_set ws new a [] b f t g v h l set same k = absurd (l.some refl)
link_set ws new a (p ∷ ps) b f t g v h l set same k = go p.live refl k (λ x m j. link_set ws new (a + p.size) ps b x t g v h.1 m set same j)
  where
    go : (kind : Bool) → p.live ≡ kind → MatchBool kind (AreLinked ws f ps t) ((f ≡ p.place) × AreLinked ws (slice_index ws (p.place + 1)) ps t) → ((x : ℕ) → IsLastGap ps g → AreLinked ws x ps t → AreLinked new x ps v) → MatchBool kind (AreLinked new f ps v) ((f ≡ p.place) × AreLinked new (slice_index new (p.place + 1)) ps v)
    go true is j rest =
        rest f (record { some = λ e. l.some (omega (arith, here_live p g is)); last = λ q past. omega (arith, l.last q past) }) j
    go false is j rest = elim (cases_eq p.place g) [
      | inr other ↦
          let word : slice_index new (p.place + 1) ≡ slice_index ws (p.place + 1) = same (p.place + 1) (λ e. other (omega arith)) in
          (j.0, subst (λ (x : ℕ). AreLinked new x ps v) (sym word) (rest (slice_index ws (p.place + 1)) (last_rest ws a p ps b g h l other) j.1))
      | inl same_place ↦
          let word : slice_index new (p.place + 1) ≡ v = ap (λ (x : ℕ). slice_index new (x + 1)) same_place ∙ set in
          (j.0, subst (λ (x : ℕ). AreLinked new x ps v) (sym word) (none_link ws new (a + p.size) ps b v h.1 (behind_last ws a p ps b g h l same_place)))
    ]

-- each link is a place before the end, or what the chain ends in
pub link_small : (ws : List ℕ) (a : ℕ) (ps : List Tile) (b f t c : ℕ) → Fill ws a ps b → AreLinked ws f ps t → b ≤ c → t ≤ c → f ≤ c
link_small ws a [] b f t c h k end tail = omega (arith, k)
link_small ws a (p ∷ ps) b f t c h k end tail = go p.live k (λ j. link_small ws (a + p.size) ps b f t c h.1 j end tail)
  where
    go : (kind : Bool) → MatchBool kind (AreLinked ws f ps t) ((f ≡ p.place) × AreLinked ws (slice_index ws (p.place + 1)) ps t) → (AreLinked ws f ps t → f ≤ c) → f ≤ c
    go true j rest = rest j
    go false j rest = let low : a + p.size ≤ b = Fill-le ws (a + p.size) ps b h.1 in omega (arith, h.0.place, j.0)

-- the chain as the gaps' places tell it
pub chain_of : (ws : List ℕ) (a : ℕ) (ps : List Tile) (b f : ℕ) → Fill ws a ps b → AreLinked ws f ps 0 → IsChain ws f (gaps ps)
chain_of ws a [] b f h k = k
chain_of ws a (p ∷ ps) b f h k = go p.live refl k (λ x j. chain_of ws (a + p.size) ps b x h.1 j)
  where
    go : (kind : Bool) → p.live ≡ kind → MatchBool kind (AreLinked ws f ps 0) ((f ≡ p.place) × AreLinked ws (slice_index ws (p.place + 1)) ps 0) → ((x : ℕ) → AreLinked ws x ps 0 → IsChain ws x (gaps ps)) → IsChain ws f (cond kind (gaps ps) (tile_extent p ∷ gaps ps))
    go true is j rest = rest f j
    go false is j rest =
        let one : cond {A = ℕ} p.live 0 1 ≡ 1 = ap (λ (v : Bool). cond {A = ℕ} v 0 1) is in
        let word : slice_index ws p.place ≡ p.size + 1 = ap (slice_index ws) h.0.place ∙ h.0.word ∙ ap (λ (n : ℕ). p.size + n) one in
        (j.0, word, rest (slice_index ws (p.place + 1)) j.1)
