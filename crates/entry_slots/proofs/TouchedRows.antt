-- An entry that was used.
use Rattle.std.proofs.Common.{◌≡◌, ◌≢◌, ℕ, ◌+◌, ◌≤◌, ◌&&◌, true, false, cond, List, length, slice_index, slice_set, refl, sym, ap, ◌∙◌, subst, arith}
use Rattle.std.proofs.lemmas.Bool.{eqb-true, eq-eqb, ne_eqb}
use Rattle.std.proofs.lemmas.List.{length-set, get_or-set_same, get_or-set_other}
use Rattle.std.specs.Prelude.{nat_lt}
use Rattle.seg_words.specs.declared.layout.TheConstants.{HEAD_WORDS}
use Rattle.entry_slots.specs.declared.head.TheConstants.{TTL, MTIME, ATIME, DTIME, HITS}
use Rattle.seg_words.specs.Windows.{Aside}
use Rattle.apcu_model.specs.Cache.{Row, risen}
use Rattle.apcu_model.specs.Sequential.{touched}
use Rattle.entry_slots.specs.declared.slots.EntrySlots.{EntrySlots}
use Rattle.entry_slots.specs.Lists.{is_at, has_place}
use Rattle.entry_slots.specs.Entries.{Entries, touched_row, touched_in}
use Rattle.entry_slots.specs.Standing.{IsEntry, Stands}
use Rattle.entry_slots.proofs.PresentRows.{HasRowAt}
use Rattle.entry_slots.specs.Lower.{Laws}
use Rattle.seg_words.specs.Members.{any_there}
use Rattle.entry_slots.proofs.RowBlocks.{IsHome, room, home_row}
use Rattle.entry_slots.proofs.WordChanges.{OnlyIn, only_none, only_set}
use Rattle.entry_slots.proofs.Frames.{SameBut, entry_dated}
use Rattle.entry_slots.proofs.RowChanges.{Keeps, rewritten}
use Rattle.entry_slots.proofs.UnexpiredRows.{touched_unexpired}
use Rattle.entry_slots.proofs.DistinctPlaces.{rows_removed, rows_unlinked}

pub row_at : {e : EntrySlots} {ws : List ℕ} {aside : Aside} {at : ℕ} → HasRowAt e ws aside at → (row : Row) × IsHome e ws aside row × (row.place ≡ at)
row_at {at = at} h =
    let r = any_there (is_at at) h.entries.rows h.there in
    (r.0, home_row r.0 h.stand r.1, eqb-true r.0.place at r.2)

pub touched_keeps : (at t : ℕ) → Keeps (touched_row at t)
touched_keeps at t = record {
  key = λ row. elim (is_at at row) as (λ v. (cond v (touched t row) row).key ≡ row.key) [ true ↦ refl | false ↦ refl ];
  place = λ row. elim (is_at at row) as (λ v. (cond v (touched t row) row).place ≡ row.place) [ true ↦ refl | false ↦ refl ];
  size = λ row. elim (is_at at row) as (λ v. (cond v (touched t row) row).size ≡ row.size) [ true ↦ refl | false ↦ refl ];
}

-- the words after a touch
abbrev pub touched_words : List ℕ → ℕ → ℕ → ℕ → List ℕ
touched_words ws at hits t = slice_set (slice_set ws (at + HITS) hits) (at + ATIME) t

touch_entry : Laws → (ws : List ℕ) (row : Row) (at t : ℕ) → IsEntry ws row → row.place ≡ at → at + HEAD_WORDS ≤ length ws → IsEntry (touched_words ws at (risen row.hits) t) (touched t row)
touch_entry law ws row at t h e inside =
    let once : List ℕ = slice_set ws (at + HITS) (risen row.hits) in
    let ws' : List ℕ = touched_words ws at (risen row.hits) t in
    let long : length once ≡ length ws = length-set ws (at + HITS) (risen row.hits) in
    let other : (i : ℕ) → i ≢ at + HITS → i ≢ at + ATIME → slice_index ws' i ≡ slice_index ws i =
    λ i p q. get_or-set_other once (at + ATIME) i t 0 q ∙ get_or-set_other ws (at + HITS) i (risen row.hits) 0 p in
    let but : SameBut ws ws' row = record {
      count = length-set once (at + ATIME) t ∙ long;
      first = λ k few o. other (row.place + k) (omega arith) (omega arith);
      later = λ i low high. other i (omega arith) (omega arith);
    } in
    let nine : row.place + HITS ≡ at + HITS = omega arith in
    let seven : row.place + ATIME ≡ at + ATIME = omega arith in
    entry_dated law ws ws' row row.mtime t row.dtime (risen row.hits) h but
    (other (row.place + MTIME) (omega arith) (omega arith) ∙ h.mtime)
    (ap (slice_index ws') seven ∙ get_or-set_same once (at + ATIME) t 0 (omega (arith, long)))
    (other (row.place + DTIME) (omega arith) (omega arith) ∙ h.dtime)
    (ap (slice_index ws') nine ∙ (get_or-set_other once (at + ATIME) (at + HITS) t 0 (omega arith) ∙ get_or-set_same ws (at + HITS) (risen row.hits) 0 (omega arith)))

pub touch_stands : Laws → {e : EntrySlots} {ws : List ℕ} {aside : Aside} (s : Entries) (at hits t : ℕ) → Stands e ws aside s → has_place at s.rows ≡ true → hits ≡ risen (slice_index ws (at + HITS)) → ((now : ℕ) → now ≤ e.soonest → (nat_lt 0 s.conf.ttl && nat_lt (t + s.conf.ttl) now) ≡ false) → Stands e (touched_words ws at hits t) aside (touched_in at t s)
touch_stands law {e} {ws} {aside} s at hits t h there eh unpassed =
    let r = any_there (is_at at) s.rows there in
    let own : Row = r.0 in
    let place : own.place ≡ at = eqb-true own.place at r.2 in
    let home = home_row own h r.1 in
    let w = room home in
    let only : OnlyIn ws (touched_words ws at hits t) (own.place + TTL) (own.place + own.size) =
    only_set ws (slice_set ws (at + HITS) hits) (own.place + TTL) (own.place + own.size) (at + ATIME) t (only_set ws ws (own.place + TTL) (own.place + own.size) (at + HITS) hits (only_none ws (own.place + TTL) (own.place + own.size)) (omega arith) (omega (arith, w.enough))) (omega arith) (omega (arith, w.enough)) in
    rewritten h (touched_words ws at hits t) own r.1 only law (touched_row at t) (touched_keeps at t)
    (λ row other. let no : is_at at row ≡ false = ne_eqb row.place at (λ q. other (q ∙ sym place)) in rw no refl)
    (λ row c same.
    let here : is_at at row ≡ true = eq-eqb row.place at (same ∙ place) in
    let words : hits ≡ risen row.hits = eh ∙ ap risen (ap (λ n. slice_index ws (n + HITS)) (sym (same ∙ place)) ∙ (h.rows row c).hits) in
    let entry : IsEntry (touched_words ws at (risen row.hits) t) (touched t row) = touch_entry law ws row at t (h.rows row c) (same ∙ place) (omega (arith, w.high, w.enough)) in
    rw here (subst (λ n. IsEntry (touched_words ws at n t) (touched t row)) (sym words) entry))
    (λ row c. rows_removed h own row r.1 c)
    (λ row c. rows_unlinked h own row r.1 c)
    (touched_unexpired s.conf e.soonest at t s.rows h.unexpired unpassed)
