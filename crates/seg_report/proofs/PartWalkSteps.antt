-- One step of the walk over blocks and gaps.
use Rattle.std.proofs.Common.{◌≡◌, inl, inr, ℕ, ◌+◌, ◌<◌, ◌≤◌, ◌==◌, Bool, true, false, cond, List}
use Rattle.std.proofs.Common.{[], ◌∷◌, ◌++◌, length, Option, Some, None, refl, sym, ap, ◌∙◌, subst}
use Rattle.std.proofs.Common.{arith, append_assoc}
use Rattle.std.specs.Prelude.{codes, option_map}
use Rattle.std.specs.List.{flat_map}
use Rattle.std.proofs.lemmas.Bool.{cases_Bool, eq-eqb, ne_eqb}
use Rattle.seg_words.specs.declared.gaps.Extent.{Extent}
use Rattle.seg_words.specs.Members.{any_from}
use Rattle.sma_blocks.specs.Live.{gaps}
use Rattle.sma_blocks.specs.Tiles.{tiles, Fill}
use Rattle.sma_blocks.specs.Walk.{IsEdge}
use Rattle.sma_blocks.proofs.LiveBlocks.{tile_extent}
use Rattle.apcu_model.specs.Cache.{Row}
use Rattle.entry_slots.specs.Entries.{Entries}
use Rattle.entry_slots.specs.Lists.{has_place, is_at}
use Rattle.seg_report.specs.Lines.{extent_text, key_end, part_line, row_line, row_word}
use Rattle.seg_report.specs.Parts.{Part, OfGap, gaps_in, part_for, parts_at, parts_between}
use Rattle.seg_report.specs.PartWalks.{AreTiled, IsAtPart, WalksOn, first_of, lines_from, pair_of, size_if_at}
use Rattle.seg_report.proofs.GapsFromEdge.{gap_ahead, tile_here, IsTile}
use Rattle.seg_report.proofs.TileParts.{IsRowHere, gap_here, parts_step, row_here, tiled_behind}

-- the line that was written is that of the row
pub line_is : (old new : List ℕ) (b gone : Bool) (at size number : ℕ) (key : List ℕ) (row : Row)
    → new ≡ old ++ (row_word b ++ (extent_text at size ++ (codes " " ++ key_end number key)))
    → b ≡ gone → row.place ≡ at → size ≡ row.size → number ≡ row.number → key ≡ row.key
    → new ≡ old ++ row_line gone row
line_is old new b gone at size number key row text b_is at_is size_is number_is key_is =
    text
    ∙ ap (λ x. old ++ (row_word x ++ (extent_text at size ++ (codes " " ++ key_end number key)))) b_is
    ∙ ap (λ x. old ++ (row_word gone ++ (extent_text x size ++ (codes " " ++ key_end number key))))
    (sym at_is)
    ∙ ap (λ x. old ++ (row_word gone
    ++ (extent_text row.place x ++ (codes " " ++ key_end number key)))) size_is
    ∙ ap (λ x. old ++ (row_word gone
    ++ (extent_text row.place row.size ++ (codes " " ++ key_end x key)))) number_is
    ∙ ap (λ x. old ++ (row_word gone
    ++ (extent_text row.place row.size ++ (codes " " ++ key_end row.number x)))) key_is

module _ (ws : List ℕ) (s : Entries) (from at : ℕ) (gap : Option (ℕ × ℕ)) (h : IsAtPart ws s from at gap) (low : at < length ws) where
  abbrev pub t : IsTile ws from at
  t = tile_here ws from at h.edge low

  filled : Fill ws at (t.tile ∷ tiles ws (at + t.tile.size)) (length ws)
  filled = subst (λ ps. Fill ws at ps (length ws)) t.is h.edge.after

  abbrev pub runs : List Extent
  runs = gaps_in s.conf s.rows s.removed

  tiled_here : AreTiled s.rows s.removed runs at (length ws) (t.tile ∷ tiles ws (at + t.tile.size))
  tiled_here = subst (λ ps. AreTiled s.rows s.removed runs at (length ws) ps) t.is h.tiled

  behind : AreTiled s.rows s.removed runs (at + t.tile.size) (length ws) (tiles ws (at + t.tile.size))
  behind = tiled_behind ws s.rows s.removed runs at (length ws) t.tile (tiles ws (at + t.tile.size))
      filled tiled_here

  -- a part is printed, and then those after it
  told : (part : Part) (old new : List ℕ) → parts_at s.rows s.removed runs at ≡ part ∷ []
      → new ≡ old ++ part_line part
      → new ++ lines_from ws s (at + t.tile.size) ≡ old ++ lines_from ws s at
  told part old new one is =
      let rest = lines_from ws s (at + t.tile.size) in
      let step : lines_from ws s at ≡ part_line part ++ rest =
      ap (flat_map part_line) (parts_step ws s.rows s.removed runs at (length ws) t.tile
      (tiles ws (at + t.tile.size)) filled tiled_here
      ∙ ap (λ l. l ++ parts_between s.rows s.removed runs (at + t.tile.size) (length ws)) one) in
      ap (λ l. l ++ rest) is ∙ append_assoc old (part_line part) rest
      ∙ ap (λ l. old ++ l) (sym step)

  gaps_at : gaps (tiles ws at) ≡ gaps (t.tile ∷ tiles ws (at + t.tile.size))
  gaps_at = ap gaps t.is

  gaps_gap : t.tile.live ≡ false
      → gaps (tiles ws at) ≡ tile_extent t.tile ∷ gaps (tiles ws (at + t.tile.size))
  gaps_gap gap_is =
      gaps_at
      ∙ ap (λ (k : Bool). cond k (gaps (tiles ws (at + t.tile.size)))
      (tile_extent t.tile ∷ gaps (tiles ws (at + t.tile.size)))) gap_is

  gaps_live : t.tile.live ≡ true → gaps (tiles ws at) ≡ gaps (tiles ws (at + t.tile.size))
  gaps_live live =
      gaps_at
      ∙ ap (λ (k : Bool). cond k (gaps (tiles ws (at + t.tile.size)))
      (tile_extent t.tile ∷ gaps (tiles ws (at + t.tile.size)))) live

  -- at a gap the next gap is this one
  size_gap : t.tile.live ≡ false → size_if_at at gap ≡ t.tile.size
  size_gap gap_is =
      let same : (t.tile.place == at) ≡ true = eq-eqb t.tile.place at t.place in
      let is : gap ≡ Some (t.tile.place, t.tile.size) =
      h.gap_is ∙ ap (λ l. option_map pair_of (first_of l)) (gaps_gap gap_is) in
      ap (size_if_at at) is ∙ rw same refl

  -- at a block the next gap is further on
  size_live : t.tile.live ≡ true → size_if_at at gap ≡ 0
  size_live live = go gap (h.gap_is ∙ ap (λ l. option_map pair_of (first_of l)) (gaps_live live))
    where
      go : (o : Option (ℕ × ℕ))
          → o ≡ option_map pair_of (first_of (gaps (tiles ws (at + t.tile.size))))
          → size_if_at at o ≡ 0
      go None e = refl
      go (Some r) e =
          let next = gap_ahead ws from (at + t.tile.size) r.0 r.1 t.edge e in
          let other : (r.0 == at) ≡ false =
          ne_eqb r.0 at (λ q. omega (arith, q, next.up, t.some)) in
          rw other refl

  record IsFree (free : ℕ) : Type 0 where
    pub live : t.tile.live ≡ false
    pub size : t.tile.size ≡ free

  is_free : (free : ℕ) → free ≡ size_if_at at gap → 0 < free → IsFree free
  is_free free is some = elim (cases_Bool t.tile.live) [
    | inl live ↦ absurd (omega (arith, is, some, size_live live))
    | inr f ↦ record { live = f; size = sym (is ∙ size_gap f) }
  ]

  is_live : (free : ℕ) → free ≡ size_if_at at gap → free ≡ 0 → t.tile.live ≡ true
  is_live free is none = elim (cases_Bool t.tile.live) [
    | inl live ↦ live
    | inr f ↦ absurd (omega (arith, is, none, size_gap f, t.some))
  ]

  -- over a gap
  pub over_gap : (free : ℕ) (old new : List ℕ) (next : Option (ℕ × ℕ)) → free ≡ size_if_at at gap
      → 0 < free → new ≡ old ++ (codes "free " ++ (extent_text at free ++ codes "\n"))
      → next ≡ option_map pair_of (first_of (gaps (tiles ws (at + free))))
      → WalksOn ws s from at old new free next
  over_gap free old new next is some text then =
      let f = is_free free is some in
      let one = gap_here ws s.rows s.removed runs at (length ws) t.tile (tiles ws (at + t.tile.size))
      filled tiled_here f.live in
      subst (λ n. next ≡ option_map pair_of (first_of (gaps (tiles ws (at + n))))
      → new ≡ old ++ (codes "free " ++ (extent_text at n ++ codes "\n"))
      → WalksOn ws s from at old new n next) f.size (λ last written. record {
        next = record { edge = t.edge; tiled = behind; gap_is = last };
        some = t.some;
        end = t.end;
        text = told (OfGap (record { place = at; size = t.tile.size })) old new one written;
        grown = record { added = codes "free " ++ (extent_text at t.tile.size ++ codes "\n"); is = written };
      }) then text

  -- the bounds of the gap at the place
  pub gap_bound : (free : ℕ) → free ≡ size_if_at at gap → 0 < free → at + free ≤ length ws
  gap_bound free is some = omega (arith, (is_free free is some).size, t.end)

  pub gap_edge : (free : ℕ) → free ≡ size_if_at at gap → 0 < free → IsEdge ws from (at + free)
  gap_edge free is some = subst (λ n. IsEdge ws from (at + n)) (is_free free is some).size t.edge

  -- the row at the place
  pub row_at : (free : ℕ) → free ≡ size_if_at at gap → free ≡ 0
      → IsRowHere s.rows s.removed runs at t.tile
  row_at free is none =
      row_here ws s.rows s.removed runs at (length ws) t.tile (tiles ws (at + t.tile.size)) filled
      tiled_here (is_live free is none)

  pub row_listed : (free : ℕ) → free ≡ size_if_at at gap → free ≡ 0
      → has_place at (s.rows ++ s.removed) ≡ true
  row_listed free is none =
      let r = row_at free is none in
      any_from (is_at at) (s.rows ++ s.removed) r.row r.there (eq-eqb r.row.place at r.place)

  line_for : (gone : Bool) (row : Row) → part_line (part_for gone row) ≡ row_line gone row
  line_for true row = refl
  line_for false row = refl

  -- over a row
  pub over_row : (free : ℕ) (is : free ≡ size_if_at at gap) (none : free ≡ 0) (old new : List ℕ)
      (size : ℕ) → size ≡ (row_at free is none).row.size
      → new ≡ old ++ row_line (has_place at s.removed) (row_at free is none).row
      → WalksOn ws s from at old new size gap
  over_row free is none old new size size_is text =
      let r = row_at free is none in
      let all : t.tile.size ≡ size = sym (size_is ∙ r.size) in
      subst (λ n. WalksOn ws s from at old new n gap) all (record {
        next = record {
          edge = t.edge;
          tiled = behind;
          gap_is = h.gap_is
              ∙ ap (λ l. option_map pair_of (first_of l)) (gaps_live (is_live free is none));
        };
        some = t.some;
        end = t.end;
        text = told (part_for (has_place at s.removed) r.row) old new r.parts
            (text ∙ ap (λ l. old ++ l) (sym (line_for (has_place at s.removed) r.row)));
        grown = record { added = row_line (has_place at s.removed) r.row; is = text };
      })
