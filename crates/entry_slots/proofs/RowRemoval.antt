-- An unlinked row that becomes a removed one.
use Rattle.std.proofs.Common.{◌≡◌, ◌≢◌, inl, inr, ℕ, ◌+◌, Bool, true, false, cond, ◌||◌, List, [], ◌∷◌, ◌++◌, slice_index, slice_set, map, refl, sym, ap, ap₂, ◌∙◌, subst, arith}
use Rattle.std.proofs.lemmas.Bool.{cases_eq, eq-eqb, ne_eqb}
use Rattle.std.proofs.lemmas.List.{length-set, get_or-set_same, get_or-set_other}
use Rattle.std.specs.List.{Contains, count_by}
use Rattle.seg_words.specs.declared.layout.TheConstants.{KEY_LENGTH, IMAGE_LENGTH}
use Rattle.entry_slots.specs.declared.head.TheConstants.{NEXT, MTIME, ATIME, DTIME, HITS}
use Rattle.seg_words.specs.declared.gaps.Extent.{Extent}
use Rattle.seg_words.specs.Windows.{Aside}
use Rattle.sma_blocks.specs.Ready.{ChangesInner}
use Rattle.apcu_model.specs.Cache.{Row, extent_of}
use Rattle.apcu_model.specs.SlotOrder.{is_in_slot}
use Rattle.entry_slots.specs.declared.slots.EntrySlots.{EntrySlots}
use Rattle.entry_slots.specs.Lists.{is_at, has_place, only_at, without_place}
use Rattle.entry_slots.specs.Entries.{Entries, chain_of, removed_at, dated_row, dated_at}
use Rattle.entry_slots.specs.Standing.{IsRowChain, IsEntry, Stands}
use Rattle.entry_slots.specs.Lower.{Laws}
use Rattle.seg_words.specs.Members.{Contains-filter, count-cons}
use Rattle.entry_slots.proofs.RowBlocks.{IsHome, room, home_row, home_removed, home_unlinked}
use Rattle.entry_slots.proofs.Frames.{SameRow, SameBut, entry_kept, entry_dated, chain_kept, rows_apart}
use Rattle.entry_slots.proofs.RowChanges.{map_there}
use Rattle.entry_slots.proofs.StorableWords.{may_date}
use Rattle.entry_slots.proofs.DistinctPlaces.{rows_unlinked, removed_unlinked, count_blocks}
use Rattle.entry_slots.proofs.ChainCuts.{Spot, set_change, set_entry, set_link}
use Rattle.entry_slots.proofs.RowListMoves.{relisted, moved}

-- an unlinked row names no other
pub cleared_stands : Laws → {e : EntrySlots} {ws : List ℕ} {aside : Aside} (s : Entries) (h : Stands e ws aside s) (at v : ℕ) (q : Row) → Contains s.unlinked q → q.place ≡ at → Stands e (slice_set ws (at + NEXT) v) aside s
cleared_stands law {e} {ws} {aside} s h at v q there place =
    let spot : Spot e ws aside (at + NEXT) = inr (q, home_unlinked q h there, ap (λ n. n + NEXT) (sym place)) in
    relisted law s h (slice_set ws (at + NEXT) v) (set_change h (at + NEXT) v spot) (set_entry h (at + NEXT) v spot law)
    (λ slot lt.
    let word : slice_index (slice_set ws (at + NEXT) v) slot ≡ slice_index ws slot = get_or-set_other ws (at + NEXT) slot v 0 (let w = room (home_unlinked q h there) in λ same. omega (arith, w.low, h.from)) in
    subst (λ n. IsRowChain (slice_set ws (at + NEXT) v) n (chain_of s slot)) (sym word)
    (chain_kept ws (slice_set ws (at + NEXT) v) (slice_index ws slot) (chain_of s slot) (λ row c. set_link h (at + NEXT) v spot row (λ same.
    rows_unlinked h row q (Contains-filter (is_in_slot s.conf slot) s.rows row c).0 there (omega arith))) (h.chains slot lt)))
    e.removed s.removed s.unlinked
    (chain_kept ws (slice_set ws (at + NEXT) v) e.removed s.removed (λ row c. set_link h (at + NEXT) v spot row (λ same. removed_unlinked h row q c there (omega arith))) h.removed_chain)
    (λ row c. home_removed row h c) (λ row c. home_unlinked row h c) (λ p. refl)

module _ {e : EntrySlots} {ws : List ℕ} {aside : Aside} (s : Entries) (h : Stands e ws aside s) (at t : ℕ) (q : Row) (there : Contains s.unlinked q) (place : q.place ≡ at) where
  ws' : List ℕ
  ws' = slice_set ws (at + DTIME) t

  own : IsHome e ws aside q
  own = home_unlinked q h there

  other_word : (i : ℕ) → i ≢ at + DTIME → slice_index (slice_set ws (at + DTIME) t) i ≡ slice_index ws i
  other_word i other = get_or-set_other ws (at + DTIME) i t 0 other

  link_other : (row : Row) → IsHome e ws aside row → slice_index (slice_set ws (at + DTIME) t) (row.place + NEXT) ≡ slice_index ws (row.place + NEXT)
  link_other row home = other_word (row.place + NEXT) (λ same. elim (cases_eq row.place q.place) [
    | inl one ↦ omega arith
    | inr two ↦ elim (rows_apart row q home own two) [
      | inl before ↦ (let w = room home in omega (arith, w.enough))
      | inr after ↦ (let w = room own in omega (arith, w.enough))
    ]
  ])

  row_other : (row : Row) → IsHome e ws aside row → row.place ≢ q.place → SameRow ws (slice_set ws (at + DTIME) t) row
  row_other row home other = record {
    count = length-set ws (at + DTIME) t;
    same = λ i low high one. other_word i (λ same. elim (rows_apart row q home own other) [
      | inl before ↦ omega arith
      | inr after ↦ (let w = room own in omega (arith, w.enough))
    ]);
  }

  dated_change : ChangesInner e.sma ws (slice_set ws (at + DTIME) t) aside
  dated_change = record {
    count = length-set ws (at + DTIME) t;
    inner = λ i low. elim (cases_eq i (at + DTIME)) [
      | inl same ↦ (let w = room own in inr (record { block = extent_of q; live = own.live; low = omega arith; high = omega (arith, w.enough) }))
      | inr other ↦ inl (other_word i other)
    ];
    named = λ x named.
        let may = may_date q own at 8 place (omega arith) (omega arith) (omega arith) x named in
        (other_word (x + KEY_LENGTH) (λ same. may.key_length (sym same)), other_word (x + IMAGE_LENGTH) (λ same. may.image_length (sym same)));
  }

  dated_entry : Laws → (row : Row) → IsHome e ws aside row → row.place ≡ at → IsEntry (slice_set ws (at + DTIME) t) (record row { dtime = t })
  dated_entry law row home same =
      let w = room home in
      let but : SameBut ws (slice_set ws (at + DTIME) t) row = record {
        count = length-set ws (at + DTIME) t;
        first = λ k few o. other_word (row.place + k) (omega arith);
        later = λ i low high. other_word i (omega arith);
      } in
      entry_dated law ws (slice_set ws (at + DTIME) t) row row.mtime row.atime t row.hits home.entry but
      (other_word (row.place + MTIME) (omega arith) ∙ home.entry.mtime) (other_word (row.place + ATIME) (omega arith) ∙ home.entry.atime)
      (ap (slice_index (slice_set ws (at + DTIME) t)) (ap (λ n. n + DTIME) same) ∙ get_or-set_same ws (at + DTIME) t 0 (omega (arith, w.high, w.enough)))
      (other_word (row.place + HITS) (omega arith) ∙ home.entry.hits)

  extents_same : (test : Extent → Bool) (rows : List Row) → count_by (λ row. test (extent_of row)) (map (dated_row at t) rows) ≡ count_by (λ row. test (extent_of row)) rows
  extents_same test [] = refl
  extents_same test (row ∷ rows) =
      let same : extent_of (dated_row at t row) ≡ extent_of row = elim (is_at at row) as (λ b. extent_of (cond b (record row { dtime = t }) row) ≡ extent_of row) [ true ↦ refl | false ↦ refl ] in
      let one : cond {A = ℕ} (test (extent_of (dated_row at t row))) 1 0 ≡ cond (test (extent_of row)) 1 0 = ap (λ x. cond {A = ℕ} (test x) 1 0) same in
      let p : Row → Bool = λ r. test (extent_of r) in
      omega (arith, one, count-cons p (dated_row at t row) (map (dated_row at t) rows), count-cons p row rows, extents_same test rows)

  pub dated_stands : Laws → Stands e (slice_set ws (at + DTIME) t) aside (dated_at at t s)
  dated_stands law = record {
    chains = λ slot lt.
        let w = room own in
        let word : slice_index (slice_set ws (at + DTIME) t) slot ≡ slice_index ws slot = other_word slot (λ same. omega (arith, w.low, h.from)) in
        subst (λ n. IsRowChain (slice_set ws (at + DTIME) t) n (chain_of s slot)) (sym word)
        (chain_kept ws (slice_set ws (at + DTIME) t) (slice_index ws slot) (chain_of s slot) (λ row c. link_other row (home_row row h (Contains-filter (is_in_slot s.conf slot) s.rows row c).0)) (h.chains slot lt));
    removed_chain = chain_kept ws (slice_set ws (at + DTIME) t) e.removed s.removed (λ row c. link_other row (home_removed row h c)) h.removed_chain;
    rows = λ row c. entry_kept law ws (slice_set ws (at + DTIME) t) row (h.rows row c) (row_other row (home_row row h c) (λ same. rows_unlinked h row q c there (sym same)));
    removed = λ row c. entry_kept law ws (slice_set ws (at + DTIME) t) row (h.removed row c) (row_other row (home_removed row h c) (λ same. removed_unlinked h row q c there (sym same)));
    unlinked = λ x c.
        let r = map_there (dated_row at t) s.unlinked x c in
        let home = home_unlinked r.0 h r.1 in
        elim (cases_eq r.0.place at) [
          | inl same ↦
              let here : dated_row at t r.0 ≡ record r.0 { dtime = t } = ap (λ (b : Bool). let y : Row = cond b (record r.0 { dtime = t }) r.0 in y) (eq-eqb r.0.place at same) in
              subst (λ y. IsEntry (slice_set ws (at + DTIME) t) y) (sym here ∙ r.2) (dated_entry law r.0 home same)
          | inr other ↦
              let here : dated_row at t r.0 ≡ r.0 = ap (λ (b : Bool). let y : Row = cond b (record r.0 { dtime = t }) r.0 in y) (ne_eqb r.0.place at other) in
              subst (λ y. IsEntry (slice_set ws (at + DTIME) t) y) (sym here ∙ r.2) (entry_kept law ws (slice_set ws (at + DTIME) t) r.0 home.entry (row_other r.0 home (λ same. other (same ∙ place))))
        ];
    taken = h.taken;
    ready = (law.blocks e.sma ws (slice_set ws (at + DTIME) t) aside h.ready dated_change).ready;
    blocks = record { count = λ test. ap (count_by test) (law.blocks e.sma ws (slice_set ws (at + DTIME) t) aside h.ready dated_change).blocks ∙ omega (arith, h.blocks.count test, count_blocks test s, count_blocks test (dated_at at t s), extents_same test s.unlinked) };
    apart = h.apart;
    number = h.number;
    count = h.count;
    limit = h.limit;
    unexpired = h.unexpired;
    usable = h.usable;
    from = h.from;
    to = h.to;
    piece = h.piece;
  }

-- the list after both
dropped_place : (at t : ℕ) (row : Row) → is_at at (dated_row at t row) ≡ is_at at row
dropped_place at t row = elim (is_at at row) as (λ b. is_at at (cond b (record row { dtime = t }) row) ≡ is_at at row) [ true ↦ refl | false ↦ refl ]

pub only_dropped : (at t : ℕ) (rows : List Row) → only_at at (map (dated_row at t) rows) ≡ map {A = Row} (λ row. record row { dtime = t }) (only_at at rows)
only_dropped at t [] = refl
only_dropped at t (row ∷ rows) = go (is_at at row) refl (only_dropped at t rows)
  where
    go : (b : Bool) → is_at at row ≡ b → only_at at (map (dated_row at t) rows) ≡ map {A = Row} (λ r. record r { dtime = t }) (only_at at rows)
        → only_at at (dated_row at t row ∷ map (dated_row at t) rows) ≡ map {A = Row} (λ r. record r { dtime = t }) (only_at at (row ∷ rows))
    go true y rest =
        let one : dated_row at t row ≡ record row { dtime = t } = ap (λ (b : Bool). let z : Row = cond b (record row { dtime = t }) row in z) y in
        rw (dropped_place at t row ∙ y, y) (ap (λ (b : List Row). let z : Row = record row { dtime = t } in z ∷ b) rest)
    go false y rest = rw (dropped_place at t row ∙ y, y) rest

pub without_dropped : (at t : ℕ) (rows : List Row) → without_place at (map (dated_row at t) rows) ≡ without_place at rows
without_dropped at t [] = refl
without_dropped at t (row ∷ rows) = go (is_at at row) refl (without_dropped at t rows)
  where
    go : (b : Bool) → is_at at row ≡ b → without_place at (map (dated_row at t) rows) ≡ without_place at rows → without_place at (dated_row at t row ∷ map (dated_row at t) rows) ≡ without_place at (row ∷ rows)
    go true y rest = rw (dropped_place at t row ∙ y, y) rest
    go false y rest =
        let one : dated_row at t row ≡ row = ap (λ (b : Bool). let z : Row = cond b (record row { dtime = t }) row in z) y in
        rw (dropped_place at t row ∙ y, y) (ap (λ (b : List Row). row ∷ b) rest)

pub moved_dated : (at t : ℕ) (s : Entries) → moved at (dated_at at t s) ≡ removed_at at t s
moved_dated at t s =
    ap₂ (λ (a b : List Row). let x : Entries = record s { removed = s.removed ++ a; unlinked = b } in x) (only_dropped at t s.unlinked) (without_dropped at t s.unlinked)

pub dated_there : (at t : ℕ) (rows : List Row) → has_place at rows ≡ true → has_place at (map (dated_row at t) rows) ≡ true
dated_there at t rows h = same rows ∙ h
  where
    same : (rows : List Row) → has_place at (map (dated_row at t) rows) ≡ has_place at rows
    same [] = refl
    same (row ∷ rows) = ap₂ (λ (a b : Bool). a || b) (dropped_place at t row) (same rows)
