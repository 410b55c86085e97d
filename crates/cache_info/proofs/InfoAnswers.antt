-- What is returned, from what was read.
use Rattle.std.proofs.Common.{◌≡◌, ◌∙◌, ℕ, true, false, List, [], ◌∷◌, ◌++◌, map, refl, sym, ap, append-nil}
use Rattle.std.proofs.Common.{Option, Some, None, Bool, not, ◌&&◌, inl, inr, subst}
use Rattle.std.proofs.lemmas.Bool.{eq-eqb, cases_Bool}
use Rattle.std.proofs.lemmas.List.{map-append}
use Rattle.std.proofs.lemmas.List.Elements.{Contains-append_left}
use Rattle.std.specs.Prelude.{find, option_map, Contains}
use Rattle.seg_words.specs.declared.gaps.Extent.{Extent}
use Rattle.seg_words.specs.Gaps.{free_runs}
use Rattle.seg_words.specs.Members.{Contains-first, Contains-later, any_from}
use Rattle.seg_words.specs.Windows.{Aside}
use Rattle.sma_blocks.specs.Live.{free_runs_in, live_blocks}
use Rattle.apcu_model.specs.Conf.{piece_of}
use Rattle.apcu_model.specs.declared.conf.Conf.{Conf}
use Rattle.apcu_model.specs.declared.row_info.Counts.{Counts}
use Rattle.apcu_model.specs.declared.row_info.ListedRow.{ListedRow}
use Rattle.apcu_model.specs.Cache.{Row, Cache, counts_of, extent_of, has_key}
use Rattle.apcu_model.specs.Expiry.{live_row, is_hard_expired}
use Rattle.apcu_model.specs.Infos.{info_array, info_counts, info_rows, row_words, listed_of, gaps_of}
use Rattle.apcu_model.specs.Infos.{cache_info_of, sma_info_of, info_words, info_gaps, gap_words_of}
use Rattle.apcu_model.specs.SlotOrder.{in_slot_order}
use Rattle.entry_slots.specs.declared.slots.EntrySlots.{EntrySlots}
use Rattle.entry_slots.specs.Lists.{is_at, has_place}
use Rattle.entry_slots.specs.Entries.{Entries, entries_of, blocks_of, listed}
use Rattle.entry_slots.specs.Standing.{Stands}
use Rattle.cache_core.specs.declared.scalar.Scalar.{Scalar}
use Rattle.cache_core.specs.Looking.{scalar_of}
use Rattle.cache_info.proofs.GapRuns.{runs_alike}

counts_alike : (c : Cache) (conf : Conf) (counts : Counts) (w : ℕ) → conf ≡ c.conf
    → counts ≡ counts_of c → w ≡ row_words c
    → info_counts conf counts w ≡ info_counts c.conf (counts_of c) (row_words c)
counts_alike c conf counts w shape many words =
    ap (λ f. info_counts f counts w) shape ∙ ap (λ n. info_counts c.conf n w) many
    ∙ ap (info_counts c.conf (counts_of c)) words

pub limited_told : (c : Cache) (conf : Conf) (counts : Counts) (w : ℕ) → conf ≡ c.conf
    → counts ≡ counts_of c → w ≡ row_words c
    → info_array (info_counts conf counts w) 1 ≡ cache_info_of true c
limited_told c conf counts w shape many words =
    ap (λ l. info_array l 1) (counts_alike c conf counts w shape many words)

pub whole_told : (c : Cache) (conf : Conf) (counts : Counts) (w : ℕ) (rows removed : List ListedRow)
    → conf ≡ c.conf → counts ≡ counts_of c
    → w ≡ row_words c
    → rows ≡ map listed_of (in_slot_order c.conf c.rows) → removed ≡ map listed_of c.removed
    → info_array (info_counts conf counts w ++ info_rows rows removed) 1 ≡ cache_info_of false c
whole_told c conf counts w rows removed shape many words are gone =
    ap (λ l. info_array (l ++ info_rows rows removed) 1)
    (counts_alike c conf counts w shape many words)
    ∙ ap (λ l. info_array (info_counts c.conf (counts_of c) (row_words c) ++ info_rows l removed) 1)
    are
    ∙ ap (λ l. info_array (info_counts c.conf (counts_of c) (row_words c)
    ++ info_rows (map listed_of (in_slot_order c.conf c.rows)) l) 1) gone

-- ---- the gaps

pub gaps_are : (e : EntrySlots) (words : List ℕ) (aside : Aside) (c : Cache) (s : Entries)
    → Stands e words aside s → s ≡ entries_of c
    → free_runs_in e.sma.bounds words ≡ gaps_of c
gaps_are e words aside c s stand whole =
    let live = live_blocks words e.sma.bounds.from in
    let slots : s.conf.slots ≡ c.conf.slots = ap (λ (x : Entries). x.conf.slots) whole in
    let all : s.conf.words ≡ c.conf.words = ap (λ (x : Entries). x.conf.words) whole in
    let blocks : blocks_of s ≡ map extent_of (c.rows ++ c.removed) =
    ap blocks_of whole
    ∙ ap (λ l. map extent_of c.rows ++ l) (append-nil (map extent_of c.removed))
    ∙ sym (map-append extent_of c.rows c.removed) in
    let piece : piece_of s.conf ≡ piece_of c.conf = ap (λ (x : Entries). piece_of x.conf) whole in
    ap (λ n. free_runs n e.sma.bounds.to e.sma.bounds.piece live) (stand.from ∙ slots)
    ∙ ap (λ n. free_runs c.conf.slots n e.sma.bounds.piece live) (stand.to ∙ all)
    ∙ ap (λ n. free_runs c.conf.slots c.conf.words n live) (stand.piece ∙ piece)
    ∙ runs_alike c.conf.slots c.conf.words (piece_of c.conf) live (blocks_of s) stand.blocks
    ∙ ap (free_runs c.conf.slots c.conf.words (piece_of c.conf)) blocks

pub words_told : (c : Cache) (conf : Conf) (free : ℕ) → conf ≡ c.conf → free ≡ gap_words_of c
    → info_array (info_words conf free) 1 ≡ sma_info_of true c
words_told c conf free shape some =
    ap (λ n. info_array (info_words n free) 1) shape
    ∙ ap (λ n. info_array (info_words c.conf n) 1) some

pub gaps_told : (c : Cache) (conf : Conf) (free : ℕ) (gaps : List Extent) → conf ≡ c.conf
    → free ≡ gap_words_of c → gaps ≡ gaps_of c
    → info_array (info_words conf free ++ info_gaps conf gaps) 1 ≡ sma_info_of false c
gaps_told c conf free gaps shape some are =
    ap (λ n. info_array (info_words n free ++ info_gaps n gaps) 1) shape
    ∙ ap (λ n. info_array (info_words c.conf n ++ info_gaps c.conf gaps) 1) some
    ∙ ap (λ l. info_array (info_words c.conf (gap_words_of c) ++ info_gaps c.conf l) 1) are

-- ---- the row of a key

find_there : {X : Type 0} (p : X → Bool) (xs : List X) (x : X) → find p xs ≡ Some x
    → Contains xs x
find_there p [] x is = absurd cc
find_there p (y ∷ ys) x is = elim (cases_Bool (p y)) [
  | inl t ↦
      let found : find p (y ∷ ys) ≡ Some y = rw t refl in
      let same : y ≡ x = cc in
      subst (λ z. Contains (y ∷ ys) z) same (Contains-first y ys)
  | inr f ↦
      let later : find p (y ∷ ys) ≡ find p ys = rw f refl in
      Contains-later y ys x (find_there p ys x (sym later ∙ is))
]

-- the row that a look-up finds, by its place
pub record IsLiveAt (key : List ℕ) (t : ℕ) (c : Cache) (at : ℕ) : Type 0 where
  pub row : Row
  pub live : live_row key t c ≡ Some row
  pub place : row.place ≡ at
  pub there : Contains (c.rows ++ c.removed) row

abbrev pub peeked : Row → ℕ × Option Scalar
peeked row = (row.place, scalar_of row.graph)

pub live_at : (key : List ℕ) (t : ℕ) (c : Cache) (found : ℕ × Option Scalar)
    → Some found ≡ option_map peeked (live_row key t c) → IsLiveAt key t c found.0
live_at key t c found is = go (live_row key t c) refl is
  where
    go : (o : Option Row) → live_row key t c ≡ o → Some found ≡ option_map peeked o
        → IsLiveAt key t c found.0
    go None e some = absurd cc
    go (Some row) e some =
        let same : found ≡ peeked row = cc in
        let there = find_there (λ r. has_key key r && not (is_hard_expired t r)) c.rows row e in
        record {
          row = row;
          live = e;
          place = sym (ap (λ f. f.0) same);
          there = Contains-append_left c.rows c.removed row there;
        }

pub live_listed : (s : Entries) (row : Row) (at : ℕ) → Contains (listed s) row → row.place ≡ at
    → has_place at (listed s) ≡ true
live_listed s row at there place = any_from (is_at at) (listed s) row there (eq-eqb row.place at place)
