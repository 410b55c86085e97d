-- What begins at each place, along the tiles that fill the words.
use Rattle.std.proofs.Common.{◌≡◌, ◌≢◌, inl, inr, ℕ, zero, suc, ◌+◌, ◌-◌, ◌<◌, ◌≤◌, ◌==◌, ◌&&◌, Bool}
use Rattle.std.proofs.Common.{true, false, cond, List, [], ◌∷◌, ◌++◌, length, map, filter, refl, sym}
use Rattle.std.proofs.Common.{ap, ◌∙◌, subst, arith, append-nil}
use Rattle.std.specs.Prelude.{Contains, sum_by}
use Rattle.std.specs.List.{count_by, flat_map, range_with_len}
use Rattle.std.proofs.lemmas.Bool.{cases_Bool, eq-eqb, eqb-true, ne_eqb}
use Rattle.std.proofs.lemmas.List.Elements.{Contains-append_left, Contains-append_right}
use Rattle.seg_words.specs.Members.{Contains-filter}
use Rattle.std.proofs.lemmas.List.Elements.{filter-append}
use Rattle.std.proofs.lemmas.List.Sums.{length-filter, sum_by-append, sum_by-cons}
use Rattle.seg_words.specs.declared.gaps.Extent.{Extent}
use Rattle.seg_words.specs.Members.{Contains-first, any_from, count-cons, counted_some}
use Rattle.seg_words.specs.Members.{none_counted}
use Rattle.sma_blocks.specs.Tiles.{Tile, Fill}
use Rattle.sma_blocks.specs.Live.{gaps, lives}
use Rattle.sma_blocks.proofs.TileLemmas.{Fill-le}
use Rattle.sma_blocks.proofs.LiveBlocks.{tile_extent}
use Rattle.apcu_model.specs.Cache.{Row, extent_of}
use Rattle.entry_slots.specs.Lists.{is_at, begins_at, has_place}
use Rattle.seg_report.specs.PartWalks.{AreTiled}
use Rattle.seg_report.specs.Parts.{Part, OfRow, OfRemoved, OfGap, size_of, parts_at, parts_between, part_for}

-- ---- tiles

-- no block of later tiles begins before them
none_before : (ws : List ℕ) (a : ℕ) (ps : List Tile) (b w : ℕ) (test : Extent → Bool) → Fill ws a ps b
    → w < a → count_by (λ e. begins_at w e && test e) (lives ps) ≡ 0
none_before ws a [] b w test h low = refl
none_before ws a (p ∷ ps) b w test h low =
    let other : (p.place == w) ≡ false = ne_eqb p.place w (λ e. omega (arith, e, h.0.place)) in
    go p.live (rw other refl) (none_before ws (a + p.size) ps b w test h.1 (omega arith))
  where
    go : (live : Bool) → (begins_at w (tile_extent p) && test (tile_extent p)) ≡ false
        → count_by (λ e. begins_at w e && test e) (lives ps) ≡ 0
        → count_by (λ e. begins_at w e && test e) (cond live (tile_extent p ∷ lives ps) (lives ps)) ≡ 0
    go true f r =
        let one : cond {A = ℕ} (begins_at w (tile_extent p) && test (tile_extent p)) 1 0 ≡ 0 =
        ap (λ (k : Bool). cond {A = ℕ} k 1 0) f in
        omega (arith, one, r, count-cons (λ e. begins_at w e && test e) (tile_extent p) (lives ps))
    go false f r = r

-- nor does a gap
no_gap_before : (ws : List ℕ) (a : ℕ) (ps : List Tile) (b w : ℕ) → Fill ws a ps b
    → w < a → filter (begins_at w) (gaps ps) ≡ []
no_gap_before ws a [] b w h low = refl
no_gap_before ws a (p ∷ ps) b w h low =
    let other : (p.place == w) ≡ false = ne_eqb p.place w (λ e. omega (arith, e, h.0.place)) in
    go p.live other (no_gap_before ws (a + p.size) ps b w h.1 (omega arith))
  where
    go : (live : Bool) → (p.place == w) ≡ false → filter (begins_at w) (gaps ps) ≡ []
        → filter (begins_at w) (cond live (gaps ps) (tile_extent p ∷ gaps ps)) ≡ []
    go true f r = r
    go false f r = rw f r

-- at another place than its own a tile is passed over
lives_past : (p : Tile) (ps : List Tile) (w : ℕ) (test : Extent → Bool) → p.place ≢ w
    → count_by (λ e. begins_at w e && test e) (lives (p ∷ ps))
    ≡ count_by (λ e. begins_at w e && test e) (lives ps)
lives_past p ps w test other = go p.live
  where
    miss : (begins_at w (tile_extent p) && test (tile_extent p)) ≡ false
    miss = let f : (p.place == w) ≡ false = ne_eqb p.place w other in rw f refl

    go : (live : Bool)
        → count_by (λ e. begins_at w e && test e) (cond live (tile_extent p ∷ lives ps) (lives ps))
        ≡ count_by (λ e. begins_at w e && test e) (lives ps)
    go true =
        let one : cond {A = ℕ} (begins_at w (tile_extent p) && test (tile_extent p)) 1 0 ≡ 0 =
        ap (λ (k : Bool). cond {A = ℕ} k 1 0) miss in
        omega (arith, one, count-cons (λ e. begins_at w e && test e) (tile_extent p) (lives ps))
    go false = refl

gaps_past : (p : Tile) (ps : List Tile) (w : ℕ) → p.place ≢ w
    → filter (begins_at w) (gaps (p ∷ ps)) ≡ filter (begins_at w) (gaps ps)
gaps_past p ps w other = go p.live (ne_eqb p.place w other)
  where
    go : (live : Bool) → (p.place == w) ≡ false
        → filter (begins_at w) (cond live (gaps ps) (tile_extent p ∷ gaps ps))
        ≡ filter (begins_at w) (gaps ps)
    go true f = refl
    go false f = rw f refl

-- behind the first tile
pub tiled_behind : (ws : List ℕ) (rows removed : List Row) (runs : List Extent) (a b : ℕ) (p : Tile)
    (ps : List Tile) → Fill ws a (p ∷ ps) b → AreTiled rows removed runs a b (p ∷ ps)
    → AreTiled rows removed runs (a + p.size) b ps
tiled_behind ws rows removed runs a b p ps h t = record {
  blocks = λ w low high test.
      t.blocks w (omega (arith, low)) high test
      ∙ lives_past p ps w test (λ e. omega (arith, e, low, h.0.place, h.0.enough));
  runs_are = λ w low high.
      t.runs_are w (omega (arith, low)) high
      ∙ gaps_past p ps w (λ e. omega (arith, e, low, h.0.place, h.0.enough));
}

-- ---- lists of rows

none_left : {X : Type 0} (p : X → Bool) (xs : List X) → count_by p xs ≡ 0 → filter p xs ≡ []
none_left {X = X} p xs none = empty (filter p xs) (length-filter p xs ∙ none)
  where
    empty : (ys : List X) → length ys ≡ 0 → ys ≡ []
    empty [] e = refl
    empty (y ∷ ys) e = absurd (omega (arith, e))

count-map : (test : Extent → Bool) (rows : List Row)
    → count_by test (map extent_of rows) ≡ count_by (λ row. test (extent_of row)) rows
count-map test [] = refl
count-map test (r ∷ rs) =
    omega (
      arith,
      count-map test rs,
      count-cons test (extent_of r) (map extent_of rs),
      count-cons (λ row. test (extent_of row)) r rs,
    )

count_agree : {X : Type 0} (p q : X → Bool) → ((x : X) → p x ≡ q x) → (xs : List X)
    → count_by p xs ≡ count_by q xs
count_agree p q same [] = refl
count_agree p q same (x ∷ xs) =
    let one : cond {A = ℕ} (p x) 1 0 ≡ cond {A = ℕ} (q x) 1 0 =
    ap (λ (k : Bool). cond {A = ℕ} k 1 0) (same x) in
    omega (arith, one, count_agree p q same xs, count-cons p x xs, count-cons q x xs)

and_true : (b : Bool) → (b && true) ≡ b
and_true true = refl
and_true false = refl

-- this many rows begin at the place
rows_at : (w : ℕ) (rows removed : List Row)
    → count_by (λ e. begins_at w e && true) (map extent_of (rows ++ removed))
    ≡ length (filter (is_at w) rows ++ filter (is_at w) removed)
rows_at w rows removed =
    count-map (λ e. begins_at w e && true) (rows ++ removed)
    ∙ count_agree (λ (row : Row). begins_at w (extent_of row) && true) (is_at w)
    (λ row. and_true (is_at w row)) (rows ++ removed)
    ∙ sym (length-filter (is_at w) (rows ++ removed))
    ∙ ap length (filter-append (is_at w) rows removed)

no_rows : (xs ys : List Row) → length (xs ++ ys) ≡ 0 → (xs ≡ []) × (ys ≡ [])
no_rows [] [] e = (refl, refl)
no_rows [] (y ∷ ys) e = absurd (omega (arith, e))
no_rows (x ∷ xs) ys e = absurd (omega (arith, e))

-- nothing begins at a place where no block and no run does
nothing_at : (rows removed : List Row) (runs : List Extent) (w : ℕ)
    → count_by (λ e. begins_at w e && true) (map extent_of (rows ++ removed)) ≡ 0
    → filter (begins_at w) runs ≡ [] → parts_at rows removed runs w ≡ []
nothing_at rows removed runs w none free =
    let both = no_rows (filter (is_at w) rows) (filter (is_at w) removed)
    (sym (rows_at w rows removed) ∙ none) in
    rw (both.0, both.1, free) refl

-- inside a tile nothing begins
inside_none : (ws : List ℕ) (rows removed : List Row) (runs : List Extent) (a b : ℕ) (p : Tile)
    (ps : List Tile) → Fill ws a (p ∷ ps) b → AreTiled rows removed runs a b (p ∷ ps) → (w : ℕ)
    → a + 1 ≤ w → w < a + p.size → parts_at rows removed runs w ≡ []
inside_none ws rows removed runs a b p ps h t w low high =
    let end : a + p.size ≤ b = Fill-le ws (a + p.size) ps b h.1 in
    let other : p.place ≢ w = λ e. omega (arith, e, low, h.0.place) in
    nothing_at rows removed runs w
    (t.blocks w (omega (arith, low)) (omega (arith, high, end)) (λ e. true)
    ∙ lives_past p ps w (λ e. true) other ∙ none_before ws (a + p.size) ps b w (λ e. true) h.1 high)
    (t.runs_are w (omega (arith, low)) (omega (arith, high, end)) ∙ gaps_past p ps w other
    ∙ no_gap_before ws (a + p.size) ps b w h.1 high)

-- ---- what begins at a tile

-- the one row whose block is the tile
pub record IsRowHere (rows removed : List Row) (runs : List Extent) (a : ℕ) (p : Tile)
    : Type 0 where
  pub row : Row
  pub there : Contains (rows ++ removed) row
  pub place : row.place ≡ a
  pub size : row.size ≡ p.size
  pub parts : parts_at rows removed runs a ≡ part_for (has_place a removed) row ∷ []

-- one row of two lists begins there
record IsOneOf (a : ℕ) (rows removed : List Row) : Type 0 where
  pub row : Row
  pub there : Contains (rows ++ removed) row
  pub place : is_at a row ≡ true
  pub parts : map OfRow (filter (is_at a) rows) ++ map OfRemoved (filter (is_at a) removed)
      ≡ part_for (has_place a removed) row ∷ []

one_row : (a : ℕ) (rows removed : List Row)
    → length (filter (is_at a) rows ++ filter (is_at a) removed) ≡ 1 → IsOneOf a rows removed
one_row a rows removed one = go (filter (is_at a) rows) (filter (is_at a) removed) refl refl one
  where
    member : (rs : List Row) (r : Row) (rest : List Row) → filter (is_at a) rs ≡ r ∷ rest
        → Contains rs r × (is_at a r ≡ true)
    member rs r rest is =
        Contains-filter (is_at a) rs r (subst (λ l. Contains l r) (sym is) (Contains-first r rest))

    go : (xs ys : List Row) → filter (is_at a) rows ≡ xs → filter (is_at a) removed ≡ ys
        → length (xs ++ ys) ≡ 1 → IsOneOf a rows removed
    go [] [] e f n = absurd (omega (arith, n))
    go [] (y ∷ []) e f n =
        let m = member removed y [] f in
        let gone : has_place a removed ≡ true = any_from (is_at a) removed y m.0 m.1 in
        record {
          row = y;
          there = Contains-append_right rows removed y m.0;
          place = m.1;
          parts = rw (e, f, gone) refl;
        }
    go [] (y ∷ z ∷ ys) e f n = absurd (omega (arith, n))
    go (x ∷ []) [] e f n =
        let m = member rows x [] e in
        let none : count_by (is_at a) removed ≤ 0 =
        omega (arith, length-filter (is_at a) removed, ap length f) in
        let left : has_place a removed ≡ false = none_counted (is_at a) removed none in
        record {
          row = x;
          there = Contains-append_left rows removed x m.0;
          place = m.1;
          parts = rw (e, f, left) refl;
        }
    go (x ∷ []) (y ∷ ys) e f n = absurd (omega (arith, n))
    go (x ∷ z ∷ xs) ys e f n = absurd (omega (arith, n))

-- how many blocks of a live tile begin at its place and pass a test
count_here : (ws : List ℕ) (a : ℕ) (p : Tile) (ps : List Tile) (b : ℕ) (test : Extent → Bool)
    → Fill ws a (p ∷ ps) b → p.live ≡ true
    → count_by (λ e. begins_at a e && test e) (lives (p ∷ ps)) ≡ cond (test (tile_extent p)) 1 0
count_here ws a p ps b test h live =
    let here : (p.place == a) ≡ true = eq-eqb p.place a h.0.place in
    let rest = none_before ws (a + p.size) ps b a test h.1 (omega (arith, h.0.enough)) in
    let one : cond {A = ℕ} (begins_at a (tile_extent p) && test (tile_extent p)) 1 0
    ≡ cond (test (tile_extent p)) 1 0 = rw here refl in
    ap (λ (k : Bool). count_by (λ e. begins_at a e && test e)
    (cond k (tile_extent p ∷ lives ps) (lives ps))) live
    ∙ omega (arith, one, rest, count-cons (λ e. begins_at a e && test e) (tile_extent p) (lives ps))

some_counted : (n : ℕ) (b : Bool) → n ≡ cond {A = ℕ} b 1 0 → 1 ≤ n → b ≡ true
some_counted n true e h = refl
some_counted n false e h = absurd (omega (arith, e, h))

pub row_here : (ws : List ℕ) (rows removed : List Row) (runs : List Extent) (a b : ℕ) (p : Tile)
    (ps : List Tile) → Fill ws a (p ∷ ps) b → AreTiled rows removed runs a b (p ∷ ps)
    → p.live ≡ true → IsRowHere rows removed runs a p
row_here ws rows removed runs a b p ps h t live =
    let end : a + p.size ≤ b = Fill-le ws (a + p.size) ps b h.1 in
    let within : a < b = omega (arith, end, h.0.enough) in
    let all = rows ++ removed in
    let o = one_row a rows removed (sym (rows_at a rows removed)
    ∙ t.blocks a (omega arith) within (λ e. true) ∙ count_here ws a p ps b (λ e. true) h live) in
    let test : Extent → Bool = λ e. e.size == o.row.size in
    let count = t.blocks a (omega arith) within test ∙ count_here ws a p ps b test h live in
    let passes : (is_at a o.row && (o.row.size == o.row.size)) ≡ true =
    let same = eq-eqb o.row.size o.row.size refl in rw (o.place, same) refl in
    let some = counted_some (λ (row : Row). is_at a row && (row.size == o.row.size)) all o.row o.there
    passes in
    let many = count-map (λ e. begins_at a e && test e) all in
    let size = some_counted (count_by (λ e. begins_at a e && test e) (map extent_of all))
    (test (tile_extent p)) count (omega (arith, some, many)) in
    let free : filter (begins_at a) runs ≡ [] =
    t.runs_are a (omega arith) within
    ∙ ap (λ (k : Bool). filter (begins_at a) (cond k (gaps ps) (tile_extent p ∷ gaps ps))) live
    ∙ no_gap_before ws (a + p.size) ps b a h.1 (omega (arith, h.0.enough)) in
    record {
      row = o.row;
      there = o.there;
      place = eqb-true o.row.place a o.place;
      size = sym (eqb-true p.size o.row.size size);
      parts = joined (map OfRow (filter (is_at a) rows)) (map OfRemoved (filter (is_at a) removed))
          (part_for (has_place a removed) o.row) free o.parts;
    }
  where
    joined : (xs ys : List Part) (x : Part) → filter (begins_at a) runs ≡ [] → xs ++ ys ≡ x ∷ []
        → xs ++ (ys ++ map OfGap (filter (begins_at a) runs)) ≡ x ∷ []
    joined xs ys x free is =
        ap (λ l. xs ++ (ys ++ map OfGap l)) free ∙ ap (λ l. xs ++ l) (append-nil ys) ∙ is

pub gap_here : (ws : List ℕ) (rows removed : List Row) (runs : List Extent) (a b : ℕ) (p : Tile)
    (ps : List Tile) → Fill ws a (p ∷ ps) b → AreTiled rows removed runs a b (p ∷ ps)
    → p.live ≡ false
    → parts_at rows removed runs a ≡ OfGap (record { place = a; size = p.size }) ∷ []
gap_here ws rows removed runs a b p ps h t gap =
    let end : a + p.size ≤ b = Fill-le ws (a + p.size) ps b h.1 in
    let within : a < b = omega (arith, end, h.0.enough) in
    let none : count_by (λ e. begins_at a e && true) (map extent_of (rows ++ removed)) ≡ 0 =
    t.blocks a (omega arith) within (λ e. true)
    ∙ ap (λ (k : Bool). count_by (λ e. begins_at a e && true)
    (cond k (tile_extent p ∷ lives ps) (lives ps))) gap
    ∙ none_before ws (a + p.size) ps b a (λ e. true) h.1 (omega (arith, h.0.enough)) in
    let both = no_rows (filter (is_at a) rows) (filter (is_at a) removed)
    (sym (rows_at a rows removed) ∙ none) in
    let here : (p.place == a) ≡ true = eq-eqb p.place a h.0.place in
    let rest = no_gap_before ws (a + p.size) ps b a h.1 (omega (arith, h.0.enough)) in
    let first : filter (begins_at a) (tile_extent p ∷ gaps ps) ≡ tile_extent p ∷ [] =
    rw here (ap (λ l. tile_extent p ∷ l) rest) in
    let runs_here : filter (begins_at a) runs ≡ record { place = a; size = p.size } ∷ [] =
    t.runs_are a (omega arith) within
    ∙ ap (λ (k : Bool). filter (begins_at a) (cond k (gaps ps) (tile_extent p ∷ gaps ps))) gap
    ∙ first ∙ ap (λ (n : ℕ). record { place = n; size = p.size } ∷ []) h.0.place in
    rw (both.0, both.1, runs_here) refl

-- ---- along the places

flat_skip : (f : ℕ → List Part) (a k m : ℕ) → ((w : ℕ) → a ≤ w → w < a + k → f w ≡ [])
    → flat_map f (range_with_len a (k + m)) ≡ flat_map f (range_with_len (a + k) m)
flat_skip f a zero m none =
    let e : zero + m ≡ m = omega arith in
    let s : a ≡ a + zero = omega arith in
    ap (λ n. flat_map f (range_with_len a n)) e ∙ ap (λ x. flat_map f (range_with_len x m)) s
flat_skip f a (suc k) m none =
    let e : suc k + m ≡ suc (k + m) = omega arith in
    let s : (a + 1) + k ≡ a + suc k = omega arith in
    let first : f a ≡ [] = none a (omega arith) (omega arith) in
    ap (λ n. flat_map f (range_with_len a n)) e
    ∙ ap (λ l. l ++ flat_map f (range_with_len (a + 1) (k + m))) first
    ∙ flat_skip f (a + 1) k m (λ w low high. none w (omega (arith, low)) (omega (arith, high)))
    ∙ ap (λ x. flat_map f (range_with_len x m)) s

-- what begins at a tile, and then what begins behind it
pub parts_step : (ws : List ℕ) (rows removed : List Row) (runs : List Extent) (a b : ℕ) (p : Tile)
    (ps : List Tile) → Fill ws a (p ∷ ps) b → AreTiled rows removed runs a b (p ∷ ps)
    → parts_between rows removed runs a b
    ≡ parts_at rows removed runs a ++ parts_between rows removed runs (a + p.size) b
parts_step ws rows removed runs a b p ps h t =
    let end : a + p.size ≤ b = Fill-le ws (a + p.size) ps b h.1 in
    let f = parts_at rows removed runs in
    let m = b - (a + p.size) in
    let many : b - a ≡ suc ((p.size - 1) + m) = omega (arith, end, h.0.enough) in
    let past : (a + 1) + (p.size - 1) ≡ a + p.size = omega (arith, h.0.enough) in
    ap (λ n. flat_map f (range_with_len a n)) many
    ∙ ap (λ l. f a ++ l) (flat_skip f (a + 1) (p.size - 1) m
    (λ w low high. inside_none ws rows removed runs a b p ps h t w low (omega (arith, high, past)))
    ∙ ap (λ x. flat_map f (range_with_len x m)) past)

pub parts_end : (rows removed : List Row) (runs : List Extent) (a b : ℕ) → b ≤ a
    → parts_between rows removed runs a b ≡ []
parts_end rows removed runs a b over =
    let none : b - a ≡ 0 = omega (arith, over) in
    ap (λ n. flat_map (parts_at rows removed runs) (range_with_len a n)) none

-- all words are told
pub sizes_sum : (ws : List ℕ) (rows removed : List Row) (runs : List Extent) (a b : ℕ)
    (ps : List Tile) → Fill ws a ps b → AreTiled rows removed runs a b ps
    → sum_by size_of (parts_between rows removed runs a b) ≡ b - a
sizes_sum ws rows removed runs a b [] h t =
    let over : b ≤ a = omega (arith, h) in
    ap (sum_by size_of) (parts_end rows removed runs a b over) ∙ omega (arith, h)
sizes_sum ws rows removed runs a b (p ∷ ps) h t =
    let end : a + p.size ≤ b = Fill-le ws (a + p.size) ps b h.1 in
    let behind = parts_between rows removed runs (a + p.size) b in
    let rest = sizes_sum ws rows removed runs (a + p.size) b ps h.1
    (tiled_behind ws rows removed runs a b p ps h t) in
    let first : sum_by size_of (parts_at rows removed runs a) ≡ p.size =
    elim (cases_Bool p.live) [
      | inl live ↦
          let r = row_here ws rows removed runs a b p ps h t live in
          ap (sum_by size_of) r.parts
          ∙ sum_by-cons size_of (part_for (has_place a removed) r.row) []
          ∙ omega (arith, of_row (has_place a removed) r.row, r.size)
      | inr gap ↦
          ap (sum_by size_of) (gap_here ws rows removed runs a b p ps h t gap)
          ∙ sum_by-cons size_of (OfGap (record { place = a; size = p.size })) [] ∙ omega arith
    ] in
    ap (sum_by size_of) (parts_step ws rows removed runs a b p ps h t)
    ∙ sum_by-append size_of (parts_at rows removed runs a) behind
    ∙ omega (arith, first, rest, end)
  where
    of_row : (gone : Bool) (row : Row) → size_of (part_for gone row) ≡ row.size
    of_row true row = refl
    of_row false row = refl
