-- Chains cut at one word and joined again.
use Rattle.std.proofs.Common.{◌≡◌, ◌≢◌, ◌⊎◌, inl, inr, ℕ, ◌+◌, ◌<◌, ◌≤◌, Bool, true, cond, List, [], ◌∷◌, ◌++◌, length, slice_index, slice_set, refl, sym, ap, ◌∙◌, subst, arith}
use Rattle.std.proofs.lemmas.Bool.{cases_Bool, cases_eq}
use Rattle.std.proofs.lemmas.List.{length-set, get_or-set_other}
use Rattle.std.proofs.lemmas.List.Elements.{Contains-append_left, Contains-append_right}
use Rattle.std.specs.List.{Contains, filter, count_by}
use Rattle.seg_words.specs.declared.layout.TheConstants.{KEY_LENGTH, IMAGE_LENGTH}
use Rattle.apcu_model.specs.declared.conf.TheConstants.{MOST_USABLE_WORDS}
use Rattle.entry_slots.specs.declared.head.TheConstants.{NEXT}
use Rattle.seg_words.specs.Windows.{Aside, is_named}
use Rattle.seg_words.specs.Blocks.{IsTold, MayStore}
use Rattle.apcu_model.specs.Conf.{room_of}
use Rattle.sma_blocks.specs.Ready.{ChangesInner}
use Rattle.apcu_model.specs.Cache.{Row, extent_of}
use Rattle.apcu_model.specs.SlotOrder.{is_in_slot}
use Rattle.entry_slots.specs.declared.slots.EntrySlots.{EntrySlots}
use Rattle.entry_slots.specs.Lists.{is_at}
use Rattle.entry_slots.specs.Entries.{Entries, chain_of}
use Rattle.entry_slots.specs.Standing.{IsRowChain, Stands, IsEntry}
use Rattle.entry_slots.specs.Links.{link_after}
use Rattle.entry_slots.specs.Lower.{Laws}
use Rattle.seg_words.specs.Members.{Contains-cases, Contains-first, Contains-later, none_in_nil, count-cons, counted_some}
use Rattle.entry_slots.proofs.Blocks.{told_slot}
use Rattle.entry_slots.proofs.RowBlocks.{IsHome, room, told_at}
use Rattle.entry_slots.proofs.Chains.{AreHome}
use Rattle.entry_slots.proofs.Frames.{SameRow, entry_kept, rows_apart}
use Rattle.entry_slots.proofs.StorableWords.{may_date, may_slot}
use Rattle.entry_slots.proofs.DistinctPlaces.{once, at_itself}

-- ---- places that are there once

abbrev pub AreDistinct : List Row → Type 0
AreDistinct [] = Unit {0}
AreDistinct (row ∷ rows) = ((q : Row) → Contains rows q → q.place ≢ row.place) × AreDistinct rows

pub distinct_counted : (rows : List Row) → ((x : ℕ) → count_by (is_at x) rows ≤ 1) → AreDistinct rows
distinct_counted [] h = tt
distinct_counted (row ∷ rows) h = (
  (λ q c same.
      let one : cond {A = ℕ} (is_at row.place row) 1 0 ≡ 1 = ap (λ (b : Bool). cond {A = ℕ} b 1 0) (at_itself row row.place refl) in
      omega (arith, h row.place, count-cons (is_at row.place) row rows, counted_some (is_at row.place) rows q c (at_itself q row.place same))),
  distinct_counted rows (λ x. omega (arith, h x, count-cons (is_at x) row rows)),
)

pub count-filter : (t p : Row → Bool) (rows : List Row) → count_by t (filter p rows) ≤ count_by t rows
count-filter t p [] = omega arith
count-filter t p (row ∷ rows) = elim (cases_Bool (p row)) [
  | inl y ↦ rw y (omega (arith, count-cons t row (filter p rows), count-cons t row rows, count-filter t p rows))
  | inr n ↦ rw n (omega (arith, count-cons t row rows, count-filter t p rows))
]

pub rows_once : {e : EntrySlots} {ws : List ℕ} {aside : Aside} {s : Entries} → Stands e ws aside s → (x : ℕ) → count_by (is_at x) s.rows ≤ 1
rows_once h x = omega (arith, once h x)

pub chain_distinct : {e : EntrySlots} {ws : List ℕ} {aside : Aside} {s : Entries} → Stands e ws aside s → (slot : ℕ) → AreDistinct (chain_of s slot)
chain_distinct {s = s} h slot = distinct_counted (chain_of s slot) (λ x. omega (arith, count-filter (is_at x) (is_in_slot s.conf slot) s.rows, rows_once h x))

pub distinct_front : (xs ys : List Row) → AreDistinct (xs ++ ys) → AreDistinct xs
distinct_front [] ys h = tt
distinct_front (x ∷ xs) ys h = ((λ q c. h.0 q (Contains-append_left xs ys q c)), distinct_front xs ys h.1)

pub distinct_both : (xs ys : List Row) (p q : Row) → AreDistinct (xs ++ ys) → Contains xs p → Contains ys q → q.place ≢ p.place
distinct_both [] ys p q h cp cq = absurd (none_in_nil p cp)
distinct_both (x ∷ xs) ys p q h cp cq = elim (Contains-cases x xs p cp) [
  | inl here ↦ (λ e. h.0 q (Contains-append_right xs ys q cq) (e ∙ ap (λ (r : Row). r.place) (sym here)))
  | inr later ↦ distinct_both xs ys p q h.1 later cq
]

-- ---- the words that hold a chain together

-- a slot word, or word 1 of a row's block
abbrev pub Spot : EntrySlots → List ℕ → Aside → ℕ → Type 0
Spot e ws aside m = (m < e.sma.bounds.from) ⊎ ((q : Row) × IsHome e ws aside q × (m ≡ q.place + NEXT))

pub spot_after : {e : EntrySlots} {ws : List ℕ} {aside : Aside} (first : ℕ) (front : List Row) → Spot e ws aside first → AreHome e ws aside front → Spot e ws aside (link_after first front)
spot_after first [] spot homes = spot
spot_after first (row ∷ rows) spot homes = spot_after (row.place + NEXT) rows (inr (row, homes row (Contains-first row rows), refl)) (λ q c. homes q (Contains-later row rows q c))

-- it is read, and may be stored
pub record IsLinkWord (ws windows : List ℕ) (m : ℕ) : Type 0 where
  pub inside : m < length ws
  pub short : length ws ≤ MOST_USABLE_WORDS
  pub told : IsTold windows m
  pub may : MayStore ws windows m

pub spot_word : {e : EntrySlots} {ws : List ℕ} {aside : Aside} {s : Entries} (m : ℕ) → Stands e ws aside s → Spot e ws aside m → IsLinkWord ws aside.windows m
spot_word {e} {ws} {aside} {s} m h (inl low) = record {
  inside = omega (arith, h.from, h.to, h.ready.end, room_of h.usable);
  short = omega (arith, h.to, h.ready.end, h.usable.words_most);
  told = told_slot e.sma ws aside m h.ready low;
  may = may_slot e.sma ws aside m h.ready low;
}
spot_word {e} {ws} {aside} {s} m h (inr q) =
    let w = room q.1 in
    record {
      inside = omega (arith, w.high, w.enough, q.2);
      short = w.short;
      told = subst (λ (n : ℕ). IsTold aside.windows n) (sym q.2) (told_at q.1 q.0.place 1 refl (omega arith) (omega arith));
      may = subst (λ (n : ℕ). MayStore ws aside.windows n) (sym q.2) (may_date q.0 q.1 q.0.place 1 refl (omega arith) (omega arith) (omega arith));
    }

-- such a word of a chain after at least one row is that of one of them
link_in : (first m : ℕ) (row : Row) (rows : List Row) → m ≡ link_after first (row ∷ rows) → (q : Row) × Contains (row ∷ rows) q × (m ≡ q.place + NEXT)
link_in first m row [] e = (row, Contains-first row [], e)
link_in first m row (next ∷ rows) e = let r = link_in (row.place + NEXT) m next rows e in (r.0, Contains-later row (next ∷ rows) r.0 r.1, r.2)

-- The front of a chain is kept, and another back joined to it.
pub relink : (ws ws' : List ℕ) (first m : ℕ) (front back back' : List Row) → m ≡ link_after first front → IsRowChain ws (slice_index ws first) (front ++ back) → IsRowChain ws' (slice_index ws' m) back'
    → (first ≢ m → slice_index ws' first ≡ slice_index ws first)
    → ((q : Row) → Contains front q → q.place + NEXT ≢ m → slice_index ws' (q.place + NEXT) ≡ slice_index ws (q.place + NEXT))
    → ((q : Row) → Contains front q → q.place + NEXT ≢ first) → AreDistinct front
    → IsRowChain ws' (slice_index ws' first) (front ++ back')
relink ws ws' first m [] back back' e chain rest same kept other distinct = subst (λ (n : ℕ). IsRowChain ws' (slice_index ws' n) back') e rest
relink ws ws' first m (row ∷ rows) back back' e chain rest same kept other distinct =
    let l = link_in first m row rows e in
    let apart : first ≢ m = λ q. other l.0 l.1 (sym l.2 ∙ sym q) in (
      same apart ∙ chain.0,
      relink ws ws' (row.place + NEXT) m rows back back' e chain.1 rest (λ o. kept row (Contains-first row rows) o) (λ q c o. kept q (Contains-later row rows q c) o) (λ q c o. distinct.0 q c (omega arith)) distinct.1,
    )

-- what a chain's words at its front lead to
pub chain_rest : (ws : List ℕ) (first : ℕ) (front back : List Row) → IsRowChain ws (slice_index ws first) (front ++ back) → IsRowChain ws (slice_index ws (link_after first front)) back
chain_rest ws first [] back h = h
chain_rest ws first (row ∷ rows) back h = chain_rest ws (row.place + NEXT) rows back h.1

-- ---- one such word stored

module _ {e : EntrySlots} {ws : List ℕ} {aside : Aside} {s : Entries} (h : Stands e ws aside s) (m v : ℕ) (spot : Spot e ws aside m) where
  pub set_change : ChangesInner e.sma ws (slice_set ws m v) aside
  set_change = record {
    count = length-set ws m v;
    inner = λ i low. elim (cases_eq i m) [
      | inl same ↦ elim spot [
        | inl slot ↦ absurd (omega arith)
        | inr q ↦ (let w = room q.1 in inr (record { block = extent_of q.0; live = q.1.live; low = omega (arith, q.2); high = omega (arith, q.2, w.enough) }))
      ]
      | inr other ↦ inl (get_or-set_other ws m i v 0 other)
    ];
    named = λ x named. let both = set_named x named in (get_or-set_other ws m (x + KEY_LENGTH) v 0 both.0, get_or-set_other ws m (x + IMAGE_LENGTH) v 0 both.1);
  } where
    set_named : (x : ℕ) → is_named aside.windows x ≡ true → (x + KEY_LENGTH ≢ m) × (x + IMAGE_LENGTH ≢ m)
    set_named x named =
        let may = (spot_word m h spot).may x named in
        ((λ q. may.key_length (sym q)), (λ q. may.image_length (sym q)))

  pub set_row : (row : Row) → IsHome e ws aside row → SameRow ws (slice_set ws m v) row
  set_row row home = record {
    count = length-set ws m v;
    same = λ i low high one. get_or-set_other ws m i v 0 (λ same. elim spot [
      | inl slot ↦ (let w = room home in omega (arith, w.low))
      | inr q ↦ elim (cases_eq row.place q.0.place) [
        | inl at ↦ one (omega (arith, q.2))
        | inr other ↦ elim (rows_apart row q.0 home q.1 other) [
          | inl before ↦ omega (arith, q.2)
          | inr after ↦ (let w = room q.1 in omega (arith, q.2, w.enough))
        ]
      ]
    ]);
  }

  pub set_entry : Laws → (row : Row) → IsHome e ws aside row → IsEntry (slice_set ws m v) row
  set_entry law row home = entry_kept law ws (slice_set ws m v) row home.entry (set_row row home)

  pub set_link : (row : Row) → row.place + NEXT ≢ m → slice_index (slice_set ws m v) (row.place + NEXT) ≡ slice_index ws (row.place + NEXT)
  set_link row other = get_or-set_other ws m (row.place + NEXT) v 0 other
