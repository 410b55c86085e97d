-- The head of one row changes, and its value may.
use Rattle.std.proofs.Common.{◌≡◌, ◌≢◌, inl, inr, ℕ, ◌+◌, eqb, List, [], ◌∷◌, ◌++◌, slice_index, map, refl, sym, ap, ap₂, ◌∙◌, subst, arith}
use Rattle.std.proofs.lemmas.List.{length-map}
use Rattle.std.proofs.lemmas.Bool.{cases_eq, cases_lt, cases_Bool}
use Rattle.std.specs.List.{Contains, filter, count_by}
use Rattle.entry_slots.specs.declared.head.TheConstants.{NEXT, TTL}
use Rattle.seg_words.specs.declared.gaps.Extent.{Extent}
use Rattle.seg_words.specs.Windows.{Aside}
use Rattle.sma_blocks.specs.Ready.{ChangesInner}
use Rattle.apcu_model.specs.Cache.{Row, extent_of}
use Rattle.apcu_model.specs.SlotOrder.{is_in_slot, slot_of}
use Rattle.entry_slots.specs.declared.slots.EntrySlots.{EntrySlots}
use Rattle.entry_slots.specs.Entries.{Entries, chain_of}
use Rattle.entry_slots.specs.Standing.{IsRowChain, IsEntry, AreUnexpired, Stands}
use Rattle.entry_slots.specs.Lower.{Laws}
use Rattle.seg_words.specs.Members.{Contains-cases, Contains-first, Contains-later, none_in_nil, Contains-filter}
use Rattle.entry_slots.proofs.RowBlocks.{IsHome, room, home_row, home_removed, home_unlinked}
use Rattle.entry_slots.proofs.WordChanges.{OnlyIn, named_same}
use Rattle.entry_slots.proofs.Frames.{SameRow, entry_kept, chain_kept, rows_apart}

-- key, place and size stay
pub record Keeps (f : Row → Row) : Type 0 where
  pub key : (row : Row) → (f row).key ≡ row.key
  pub place : (row : Row) → (f row).place ≡ row.place
  pub size : (row : Row) → (f row).size ≡ row.size

pub map_there : (f : Row → Row) (rows : List Row) (x : Row) → Contains (map f rows) x → (row : Row) × Contains rows row × (f row ≡ x)
map_there f [] x c = absurd (none_in_nil x c)
map_there f (row ∷ rows) x c = elim (Contains-cases (f row) (map f rows) x c) [
  | inl here ↦ (row, Contains-first row rows, here)
  | inr later ↦ let r = map_there f rows x later in (r.0, Contains-later row rows r.0 r.1, r.2)
]

chain_map : (ws : List ℕ) (f : Row → Row) → Keeps f → (first : ℕ) (rows : List Row) → IsRowChain ws first rows → IsRowChain ws first (map f rows)
chain_map ws f keeps first [] h = h
chain_map ws f keeps first (row ∷ rows) h =
    (h.0 ∙ sym (keeps.place row), subst (λ p. IsRowChain ws (slice_index ws (p + NEXT)) (map f rows)) (sym (keeps.place row)) (chain_map ws f keeps (slice_index ws (row.place + NEXT)) rows h.1))

slot_map : (s : Entries) (slot : ℕ) (f : Row → Row) → Keeps f → (rows : List Row) → filter (is_in_slot s.conf slot) (map f rows) ≡ map f (filter (is_in_slot s.conf slot) rows)
slot_map s slot f keeps [] = refl
slot_map s slot f keeps (row ∷ rows) =
    let same : is_in_slot s.conf slot (f row) ≡ is_in_slot s.conf slot row = ap (λ k. eqb (slot_of s.conf k) slot) (keeps.key row) in
    elim (cases_Bool (is_in_slot s.conf slot row)) [
      | inl t ↦ rw (same, t) (ap (λ rs. f row ∷ rs) (slot_map s slot f keeps rows))
      | inr n ↦ rw (same, n) (slot_map s slot f keeps rows)
    ]

extents_map : (f : Row → Row) → Keeps f → (rows : List Row) → map extent_of (map f rows) ≡ map extent_of rows
extents_map f keeps [] = refl
extents_map f keeps (row ∷ rows) =
    let same : extent_of (f row) ≡ extent_of row = ap₂ (λ p n. let x : Extent = record { place = p; size = n } in x) (keeps.place row) (keeps.size row) in
    ap₂ (λ (x : Extent) (xs : List Extent). x ∷ xs) same (extents_map f keeps rows)

-- only words from word 4 on of the block of `own` changed
module _ {e : EntrySlots} {ws : List ℕ} {aside : Aside} {s : Entries} (h : Stands e ws aside s) (ws' : List ℕ) (own : Row) (there : Contains s.rows own) (only : OnlyIn ws ws' (own.place + TTL) (own.place + own.size)) where
  home_own : IsHome e ws aside own
  home_own = home_row own h there

  others_kept : (q : Row) → IsHome e ws aside q → q.place ≢ own.place → SameRow ws ws' q
  others_kept q hq other = record {
    count = only.count;
    same = λ i low high one. elim (rows_apart q own hq home_own other) [
      | inl before ↦ only.same i (inl (omega arith))
      | inr after ↦ only.same i (inr (omega arith))
    ];
  }

  links_kept : (q : Row) → IsHome e ws aside q → slice_index ws' (q.place + NEXT) ≡ slice_index ws (q.place + NEXT)
  links_kept q hq = elim (cases_eq q.place own.place) [
    | inl same ↦ only.same (q.place + NEXT) (inl (omega arith))
    | inr other ↦ elim (rows_apart q own hq home_own other) [
      | inl before ↦ (let w = room hq in only.same (q.place + NEXT) (inl (omega (arith, w.enough))))
      | inr after ↦ only.same (q.place + NEXT) (inr (omega arith))
    ]
  ]

  rewriting : ChangesInner e.sma ws ws' aside
  rewriting = record {
    count = only.count;
    inner = λ i low. elim (cases_lt i (own.place + TTL)) [
      | inl before ↦ inl (only.same i (inl before))
      | inr from ↦ elim (cases_lt i (own.place + own.size)) [
        | inl within ↦ inr (record { block = extent_of own; live = home_own.live; low = omega arith; high = within })
        | inr past ↦ inl (only.same i (inr past))
      ]
    ];
    named = λ x named. let both = named_same e.sma ws aside (extent_of own) home_own.ready home_own.live ws' only x named in both;
  }

  rewritten_chain : (first : ℕ) (rows : List Row) → ((row : Row) → Contains rows row → IsHome e ws aside row) → IsRowChain ws first rows → IsRowChain ws' first rows
  rewritten_chain first rows homes chain = chain_kept ws ws' first rows (λ row c. links_kept row (homes row c)) chain

  -- the entries after the change, where f says what became of each row
  pub rewritten : Laws → (f : Row → Row) → Keeps f → ((row : Row) → row.place ≢ own.place → f row ≡ row) → ((row : Row) → Contains s.rows row → row.place ≡ own.place → IsEntry ws' (f row))
      → ((row : Row) → Contains s.removed row → row.place ≢ own.place) → ((row : Row) → Contains s.unlinked row → row.place ≢ own.place) → AreUnexpired s.conf e.soonest (map f s.rows)
      → Stands e ws' aside (record s { rows = map f s.rows })
  rewritten law f keeps stays entry removed unlinked unexpired =
      let home : (row : Row) → Contains s.rows row → IsHome e ws aside row = λ row c. home_row row h c in
      record {
        chains = λ slot lt.
            let chain : IsRowChain ws (slice_index ws slot) (chain_of s slot) = h.chains slot lt in
            let kept : IsRowChain ws' (slice_index ws slot) (chain_of s slot) = rewritten_chain (slice_index ws slot) (chain_of s slot) (λ row c. home row (Contains-filter (is_in_slot s.conf slot) s.rows row c).0) chain in
            let word : slice_index ws' slot ≡ slice_index ws slot = only.same slot (inl (let w = room home_own in omega (arith, w.low, h.from, lt))) in
            subst (λ rs. IsRowChain ws' (slice_index ws' slot) rs) (sym (slot_map s slot f keeps s.rows)) (subst (λ a. IsRowChain ws' a (map f (chain_of s slot))) (sym word) (chain_map ws' f keeps (slice_index ws slot) (chain_of s slot) kept));
        removed_chain = rewritten_chain e.removed s.removed (λ row c. home_removed row h c) h.removed_chain;
        rows = λ x c.
            let r = map_there f s.rows x c in
            elim (cases_eq r.0.place own.place) [
              | inl same ↦ subst (λ y. IsEntry ws' y) r.2 (entry r.0 r.1 same)
              | inr other ↦ subst (λ y. IsEntry ws' y) (sym (stays r.0 other) ∙ r.2) (entry_kept law ws ws' r.0 (h.rows r.0 r.1) (others_kept r.0 (home r.0 r.1) other))
            ];
        removed = λ row c. entry_kept law ws ws' row (h.removed row c) (others_kept row (home_removed row h c) (removed row c));
        unlinked = λ row c. entry_kept law ws ws' row (h.unlinked row c) (others_kept row (home_unlinked row h c) (unlinked row c));
        taken = h.taken;
        ready = (law.blocks e.sma ws ws' aside h.ready rewriting).ready;
        blocks = record { count = λ test. ap (count_by test) (law.blocks e.sma ws ws' aside h.ready rewriting).blocks ∙ (h.blocks.count test ∙ ap (λ es. count_by test (es ++ (map extent_of s.removed ++ (map extent_of s.unlinked ++ s.taken)))) (sym (extents_map f keeps s.rows))) };
        apart = law.rows.changed f s.rows keeps.key ∙ h.apart;
        number = h.number;
        count = h.count ∙ sym (length-map s.rows f);
        limit = h.limit;
        unexpired = unexpired;
        usable = h.usable;
        from = h.from;
        to = h.to;
        piece = h.piece;
      }
