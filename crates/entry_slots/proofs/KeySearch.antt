-- How far a walk along a chain has come.
use Rattle.std.proofs.Common.{◌≡◌, ◌≢◌, inl, inr, ℕ, ◌+◌, ◌<◌, ◌≤◌, Bool, true, false, List, [], ◌∷◌, ◌++◌, length, slice_index, Option, Some, None, refl, sym, ap, ◌∙◌, subst, arith, length-append}
use Rattle.std.proofs.lemmas.Bool.{or_from, or_parts, cases_Bool, eq-eqb}
use Rattle.std.specs.List.{list_any, find, filter, Contains}
use Rattle.std.specs.Option.{option_map, option_or}
use Rattle.std.proofs.lemmas.List.{append_assoc, append-nil}
use Rattle.std.proofs.lemmas.List.Folds.{find-append, list_any-append}
use Rattle.std.proofs.lemmas.List.Elements.{Contains-append_left, Contains-append_right}
use Rattle.entry_slots.specs.declared.head.TheConstants.{NEXT}
use Rattle.seg_words.specs.Windows.{Aside}
use Rattle.apcu_model.specs.Cache.{Row, has_key}
use Rattle.apcu_model.specs.SlotOrder.{is_in_slot, slot_of}
use Rattle.entry_slots.specs.declared.slots.EntrySlots.{EntrySlots}
use Rattle.entry_slots.specs.Lists.{is_at, has_place, first_place}
use Rattle.entry_slots.proofs.PresentRows.{HasEntryAt}
use Rattle.entry_slots.specs.Entries.{Entries, chain_of, listed}
use Rattle.entry_slots.specs.Standing.{IsRowChain, Stands}
use Rattle.seg_words.specs.Members.{Contains-first, Contains-filter, any_from}
use Rattle.entry_slots.proofs.RowBlocks.{room}
use Rattle.entry_slots.proofs.Chains.{chain_first, home_chain}
use Rattle.entry_slots.proofs.KeyWords.{key_of}

-- this many rows of the chain were passed, none with the key, and `at` begins the rest
pub record Walk (ws key : List ℕ) (chain : List Row) (at passed : ℕ) : Type 0 where
  pub front : List Row
  pub back : List Row
  pub split : chain ≡ front ++ back
  pub many : length front ≡ passed
  pub none : list_any (has_key key) front ≡ false
  pub rest : IsRowChain ws at back

pub walk_start : {e : EntrySlots} {ws : List ℕ} {aside : Aside} (key : List ℕ) (s : Entries) (slot at : ℕ) → Stands e ws aside s → slot < e.sma.bounds.from → at ≡ first_place (chain_of s slot) → Walk ws key (chain_of s slot) at 0
walk_start {ws = ws} key s slot at h lt first =
    let chain = h.chains slot (omega (arith, h.from)) in
    record {
      front = [];
      back = chain_of s slot;
      split = refl;
      many = refl;
      none = refl;
      rest = subst (λ a. IsRowChain ws a (chain_of s slot)) (chain_first ws (slice_index ws slot) (chain_of s slot) chain ∙ sym first) chain;
    }

-- the row at which the walk stands
pub record Here (ws key : List ℕ) (chain : List Row) (at passed : ℕ) : Type 0 where
  pub front : List Row
  pub row : Row
  pub back : List Row
  pub split : chain ≡ front ++ row ∷ back
  pub many : length front ≡ passed
  pub none : list_any (has_key key) front ≡ false
  pub place : at ≡ row.place
  pub rest : IsRowChain ws (slice_index ws (row.place + NEXT)) back

pub walk_here : {ws key : List ℕ} {chain : List Row} {at passed : ℕ} → Walk ws key chain at passed → at ≢ 0 → Here ws key chain at passed
walk_here {ws} {key} {chain} {at} {passed} h some = go h.back h.split h.rest
  where
    go : (back : List Row) → chain ≡ h.front ++ back → IsRowChain ws at back → Here ws key chain at passed
    go [] split rest = absurd (some rest)
    go (row ∷ back) split rest = record { front = h.front; row = row; back = back; split = split; many = h.many; none = h.none; place = rest.0; rest = rest.1 }

pub walk_end : {ws key : List ℕ} {chain : List Row} {at passed : ℕ} → Walk ws key chain at passed → at ≡ 0 → ((row : Row) → Contains chain row → row.place ≢ 0) → list_any (has_key key) chain ≡ false
walk_end {ws} {key} {chain} {at} {passed} h none places = go h.back h.split h.rest
  where
    go : (back : List Row) → chain ≡ h.front ++ back → IsRowChain ws at back → list_any (has_key key) chain ≡ false
    go [] split rest = ap (list_any (has_key key)) (split ∙ append-nil h.front) ∙ h.none
    go (row ∷ back) split rest = absurd (places row (subst (λ c. Contains c row) (sym split) (Contains-append_right h.front (row ∷ back) row (Contains-first row back))) (sym rest.0 ∙ none))

-- as many rows were passed as the chain has
pub walk_whole : {ws key : List ℕ} {chain : List Row} {at passed : ℕ} → Walk ws key chain at passed → length chain ≤ passed → list_any (has_key key) chain ≡ false
walk_whole {ws} {key} {chain} {at} {passed} h all = go h.back h.split
  where
    go : (back : List Row) → chain ≡ h.front ++ back → list_any (has_key key) chain ≡ false
    go [] split = ap (list_any (has_key key)) (split ∙ append-nil h.front) ∙ h.none
    go (row ∷ back) split = absurd (omega (arith, ap (length {A = Row}) split, length-append h.front (row ∷ back), h.many))

pub walk_next : {ws key : List ℕ} {chain : List Row} {at passed : ℕ} (next : ℕ) (h : Here ws key chain at passed) → false ≡ has_key key h.row → next ≡ slice_index ws (at + NEXT) → Walk ws key chain next (passed + 1)
walk_next {ws} {key} {chain} {at} {passed} next h other e = record {
  front = h.front ++ h.row ∷ [];
  back = h.back;
  split = h.split ∙ sym (append_assoc h.front (h.row ∷ []) h.back);
  many = omega (arith, length-append h.front (h.row ∷ []), h.many);
  none = list_any-append (has_key key) h.front (h.row ∷ []) ∙ or_from (list_any (has_key key) h.front) (list_any (has_key key) (h.row ∷ [])) h.none (or_from (has_key key h.row) false (sym other) refl);
  rest = subst (λ a. IsRowChain ws a h.back) (ap (λ n. slice_index ws (n + NEXT)) (sym h.place) ∙ sym e) h.rest;
}

-- the row where the walk stands is in the chain
pub here_in : {ws key : List ℕ} {chain : List Row} {at passed : ℕ} (h : Here ws key chain at passed) → Contains chain h.row
here_in h = subst (λ c. Contains c h.row) (sym h.split) (Contains-append_right h.front (h.row ∷ h.back) h.row (Contains-first h.row h.back))

find_nowhere : (p : Row → Bool) (rows : List Row) → list_any p rows ≡ false → find p rows ≡ None
find_nowhere p [] h = refl
find_nowhere p (row ∷ rows) h =
    let parts = or_parts (p row) (list_any p rows) h in
    rw parts.0 (find_nowhere p rows parts.1)

-- a row of the key stands in the key's chain
in_key_slot : (s : Entries) (key : List ℕ) (row : Row) → has_key key row ≡ true → is_in_slot s.conf (slot_of s.conf key) row ≡ true
in_key_slot s key row t =
    eq-eqb (slot_of s.conf row.key) (slot_of s.conf key) (ap (slot_of s.conf) (key_of row key t))

find_filter : (p q : Row → Bool) (rows : List Row) → ((row : Row) → p row ≡ true → q row ≡ true) → find p rows ≡ find p (filter q rows)
find_filter p q [] h = refl
find_filter p q (row ∷ rows) h = elim (cases_Bool (p row)) [
  | inl t ↦ rw (h row t, t) refl
  | inr f ↦ rw f (elim (cases_Bool (q row)) [
    | inl t ↦ rw (t, f) (find_filter p q rows h)
    | inr g ↦ rw g (find_filter p q rows h)
  ])
]

pub find_chain : (s : Entries) (key : List ℕ) (slot : ℕ) → slot ≡ slot_of s.conf key → find (has_key key) s.rows ≡ find (has_key key) (chain_of s slot)
find_chain s key slot e =
    find_filter (has_key key) (is_in_slot s.conf slot) s.rows (λ row t. subst (λ n. is_in_slot s.conf n row ≡ true) (sym e) (in_key_slot s key row t))

pub find_none : (s : Entries) (key : List ℕ) (slot : ℕ) → slot ≡ slot_of s.conf key → list_any (has_key key) (chain_of s slot) ≡ false → None ≡ option_map (λ (row : Row). row.place) (find (has_key key) s.rows)
find_none s key slot e none = ap (option_map (λ (row : Row). row.place)) (sym (find_chain s key slot e ∙ find_nowhere (has_key key) (chain_of s slot) none))

pub find_here : {ws : List ℕ} (s : Entries) (key : List ℕ) (slot at passed : ℕ) → slot ≡ slot_of s.conf key → (h : Here ws key (chain_of s slot) at passed) → true ≡ has_key key h.row → Some at ≡ option_map (λ (row : Row). row.place) (find (has_key key) s.rows)
find_here {ws} s key slot at passed e h t =
    let first : find (has_key key) (h.row ∷ h.back) ≡ Some h.row = rw (sym t) refl in
    let found : find (has_key key) s.rows ≡ Some h.row =
    find_chain s key slot e ∙ (ap (find (has_key key)) h.split ∙ (find-append (has_key key) h.front (h.row ∷ h.back)
    ∙ (ap (λ (o : Option Row). option_or o (find (has_key key) (h.row ∷ h.back))) (find_nowhere (has_key key) h.front h.none) ∙ first))) in
    ap Some h.place ∙ ap (option_map (λ (row : Row). row.place)) (sym found)

-- nothing has changed
pub stands_along : {e : EntrySlots} {ws : List ℕ} {aside : Aside} {s : Entries} (ws' : List ℕ) (aside' : Aside) → Stands e ws aside s → ws' ≡ ws → aside' ≡ aside → Stands e ws' aside' s
stands_along {e = e} {ws = ws} {aside = aside} {s = s} ws' aside' h ew ea =
    subst (λ a. Stands e ws' a s) (sym ea) (subst (λ w. Stands e w aside s) (sym ew) h)

pub here_row : {ws key : List ℕ} (s : Entries) (slot at passed : ℕ) (h : Here ws key (chain_of s slot) at passed) → Contains s.rows h.row
here_row s slot at passed h = (Contains-filter (is_in_slot s.conf slot) s.rows h.row (here_in h)).0

pub here_listed : {ws key : List ℕ} (s : Entries) (slot at passed : ℕ) (h : Here ws key (chain_of s slot) at passed) → Contains (s.rows ++ s.removed) h.row
here_listed s slot at passed h = Contains-append_left s.rows s.removed h.row (here_row s slot at passed h)

pub walk_there : {ws key : List ℕ} (s : Entries) (slot at passed : ℕ) → Walk ws key (chain_of s slot) at passed → at ≢ 0 → has_place at (listed s) ≡ true
walk_there s slot at passed walk some =
    let here = walk_here walk some in
    any_from (is_at at) (listed s) here.row (here_listed s slot at passed here) (eq-eqb here.row.place at (sym here.place))

pub walk_entry : {e : EntrySlots} {ws key : List ℕ} {aside : Aside} (s : Entries) (slot at passed : ℕ) (ws' : List ℕ) (aside' : Aside) → Stands e ws aside s → Walk ws key (chain_of s slot) at passed → at ≢ 0 → ws' ≡ ws → aside' ≡ aside → HasEntryAt e ws' aside' at
walk_entry s slot at passed ws' aside' h walk some ew ea =
    record { entries = s; stand = stands_along ws' aside' h ew ea; there = walk_there s slot at passed walk some }

-- no row stands at 0
pub chain_places : {e : EntrySlots} {ws : List ℕ} {aside : Aside} (s : Entries) (slot : ℕ) → Stands e ws aside s → (row : Row) → Contains (chain_of s slot) row → row.place ≢ 0
chain_places s slot h row c = let w = room (home_chain slot h row c) in (λ q. omega (arith, w.some))
