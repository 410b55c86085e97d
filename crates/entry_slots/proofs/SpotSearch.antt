-- How far the walk to the spot of a key has come.
use Rattle.std.proofs.Common.{◌≡◌, ◌≢◌, ℕ, ◌+◌, ◌<◌, ◌≤◌, Bool, true, false, ◌||◌, List, [], ◌∷◌, ◌++◌, length, slice_index, Some, None, refl, sym, ap, ◌∙◌, subst, arith, length-append}
use Rattle.std.proofs.lemmas.Bool.{or_from, or_parts, or_left, or_right, eq-eqb}
use Rattle.std.proofs.lemmas.List.{append_assoc, append-nil}
use Rattle.std.proofs.lemmas.List.Folds.{list_any-append}
use Rattle.std.proofs.lemmas.List.Elements.{Contains-append_left, Contains-append_right}
use Rattle.std.proofs.lemmas.List.Sums.{length-filter, count_by-le-length}
use Rattle.std.specs.List.{list_any, find, Contains}
use Rattle.entry_slots.specs.declared.head.TheConstants.{NEXT}
use Rattle.seg_words.specs.Windows.{Aside}
use Rattle.apcu_model.specs.Cache.{Row, has_key}
use Rattle.apcu_model.specs.Expiry.{is_expired}
use Rattle.apcu_model.specs.SlotOrder.{is_in_slot, slot_of}
use Rattle.entry_slots.specs.declared.slots.EntrySlots.{EntrySlots}
use Rattle.entry_slots.specs.declared.spots.Spot.{Spot}
use Rattle.entry_slots.specs.Lists.{is_at, has_place, first_place}
use Rattle.entry_slots.specs.Entries.{Entries, chain_of, listed, IsListed, found_place}
use Rattle.entry_slots.specs.Standing.{IsRowChain, Stands}
use Rattle.entry_slots.specs.Links.{link_after, IsLinkTo}
use Rattle.entry_slots.specs.Spots.{IsSpot, IsSpotOf}
use Rattle.seg_words.specs.Members.{Contains-first, Contains-filter, any_from}
use Rattle.entry_slots.proofs.Chains.{chain_first}
use Rattle.entry_slots.proofs.KeySearch.{find_chain, chain_places}
use Rattle.entry_slots.proofs.ChainCuts.{chain_rest}

-- a chain is no longer than all rows
pub chain_short : (s : Entries) (slot count passed : ℕ) → count ≡ length s.rows → count ≤ passed → length (chain_of s slot) ≤ passed
chain_short s slot count passed e le = omega (arith, length-filter (is_in_slot s.conf slot) s.rows, count_by-le-length (is_in_slot s.conf slot) s.rows)

-- This many rows of the chain were passed, none with the key, and `at` begins the rest, which the
-- word `link` names.
pub record Path (ws : List ℕ) (s : Entries) (slot : ℕ) (key : List ℕ) (t at link passed : ℕ) (stale : Bool) : Type 0 where
  pub front : List Row
  pub back : List Row
  pub split : chain_of s slot ≡ front ++ back
  pub many : length front ≡ passed
  pub none : list_any (has_key key) front ≡ false
  pub stale_is : stale ≡ list_any (is_expired s.conf t) front
  pub link_is : link ≡ link_after slot front
  pub rest : IsRowChain ws at back

-- the row at which the walk stands
pub record Step (ws : List ℕ) (s : Entries) (slot : ℕ) (key : List ℕ) (t at link passed : ℕ) (stale : Bool) : Type 0 where
  pub front : List Row
  pub row : Row
  pub back : List Row
  pub split : chain_of s slot ≡ front ++ row ∷ back
  pub many : length front ≡ passed
  pub none : list_any (has_key key) front ≡ false
  pub stale_is : stale ≡ list_any (is_expired s.conf t) front
  pub link_is : link ≡ link_after slot front
  pub place : at ≡ row.place
  pub rest : IsRowChain ws (slice_index ws (row.place + NEXT)) back

pub path_start : {e : EntrySlots} {ws : List ℕ} {aside : Aside} (s : Entries) (slot : ℕ) (key : List ℕ) (t at : ℕ) → Stands e ws aside s → slot < s.conf.slots → at ≡ first_place (chain_of s slot) → Path ws s slot key t at slot 0 false
path_start {ws = ws} s slot key t at h lt first =
    let chain = h.chains slot lt in
    record {
      front = [];
      back = chain_of s slot;
      split = refl;
      many = refl;
      none = refl;
      stale_is = refl;
      link_is = refl;
      rest = subst (λ a. IsRowChain ws a (chain_of s slot)) (chain_first ws (slice_index ws slot) (chain_of s slot) chain ∙ sym first) chain;
    }

pub path_step : {ws : List ℕ} {s : Entries} {slot : ℕ} {key : List ℕ} {t at link passed : ℕ} {stale : Bool} → Path ws s slot key t at link passed stale → at ≢ 0 → Step ws s slot key t at link passed stale
path_step {ws} {s} {slot} {key} {t} {at} {link} {passed} {stale} h some = go h.back h.split h.rest
  where
    go : (back : List Row) → chain_of s slot ≡ h.front ++ back → IsRowChain ws at back → Step ws s slot key t at link passed stale
    go [] split rest = absurd (some rest)
    go (row ∷ back) split rest = record { front = h.front; row = row; back = back; split = split; many = h.many; none = h.none; stale_is = h.stale_is; link_is = h.link_is; place = rest.0; rest = rest.1 }

link_push : (first : ℕ) (front : List Row) (row : Row) → link_after first (front ++ row ∷ []) ≡ row.place + NEXT
link_push first [] row = refl
link_push first (x ∷ front) row = link_push (x.place + NEXT) front row

any_push : (p : Row → Bool) (front : List Row) (row : Row) → list_any p (front ++ row ∷ []) ≡ (list_any p front || p row)
any_push p front row = list_any-append p front (row ∷ []) ∙ ap (λ b. list_any p front || b) (or_none (p row))
  where
    or_none : (b : Bool) → (b || false) ≡ b
    or_none true = refl
    or_none false = refl

pub path_next : {ws : List ℕ} {s : Entries} {slot : ℕ} {key : List ℕ} {t at link passed : ℕ} {stale : Bool} (next : ℕ) (over : Bool) (h : Step ws s slot key t at link passed stale)
    → false ≡ has_key key h.row → over ≡ is_expired s.conf t h.row → next ≡ slice_index ws (at + NEXT) → Path ws s slot key t next (at + NEXT) (passed + 1) (stale || over)
path_next {ws} {s} {slot} {key} {t} {at} {link} {passed} {stale} next over h other is e = record {
  front = h.front ++ h.row ∷ [];
  back = h.back;
  split = h.split ∙ sym (append_assoc h.front (h.row ∷ []) h.back);
  many = omega (arith, length-append h.front (h.row ∷ []), h.many);
  none = any_push (has_key key) h.front h.row ∙ or_from (list_any (has_key key) h.front) (has_key key h.row) h.none (sym other);
  stale_is = ap (λ b. b || over) h.stale_is ∙ (ap (λ b. list_any (is_expired s.conf t) h.front || b) is ∙ sym (any_push (is_expired s.conf t) h.front h.row));
  link_is = ap (λ (n : ℕ). n + 1) h.place ∙ sym (link_push slot h.front h.row);
  rest = subst (λ a. IsRowChain ws a h.back) (ap (λ n. slice_index ws (n + NEXT)) (sym h.place) ∙ sym e) h.rest;
}

-- the row where the walk stands is in the chain
step_in : {ws : List ℕ} {s : Entries} {slot : ℕ} {key : List ℕ} {t at link passed : ℕ} {stale : Bool} (h : Step ws s slot key t at link passed stale) → Contains (chain_of s slot) h.row
step_in {s = s} {slot = slot} h = subst (λ c. Contains c h.row) (sym h.split) (Contains-append_right h.front (h.row ∷ h.back) h.row (Contains-first h.row h.back))

pub step_listed : {ws : List ℕ} {s : Entries} {slot : ℕ} {key : List ℕ} {t at link passed : ℕ} {stale : Bool} (h : Step ws s slot key t at link passed stale) → IsListed s at h.row
step_listed {s = s} {slot = slot} h = record {
  there = Contains-append_left s.rows s.removed h.row (Contains-filter (is_in_slot s.conf slot) s.rows h.row (step_in h)).0;
  place = sym h.place;
}

pub step_row : {ws : List ℕ} {s : Entries} {slot : ℕ} {key : List ℕ} {t at link passed : ℕ} {stale : Bool} (h : Step ws s slot key t at link passed stale) → Contains s.rows h.row
step_row {s = s} {slot = slot} h = (Contains-filter (is_in_slot s.conf slot) s.rows h.row (step_in h)).0

pub step_there : {ws : List ℕ} {s : Entries} {slot : ℕ} {key : List ℕ} {t at link passed : ℕ} {stale : Bool} (h : Step ws s slot key t at link passed stale) → has_place at s.rows ≡ true
step_there {s = s} {at = at} h = any_from (is_at at) s.rows h.row (step_row h) (eq-eqb h.row.place at (sym h.place))

pub listed_there : (s : Entries) (at : ℕ) (row : Row) → IsListed s at row → has_place at (listed s) ≡ true
listed_there s at row l = any_from (is_at at) (listed s) row l.there (eq-eqb row.place at l.place)

find_nowhere : (p : Row → Bool) (rows : List Row) → list_any p rows ≡ false → find p rows ≡ None
find_nowhere p [] h = refl
find_nowhere p (row ∷ rows) h = let parts = or_parts (p row) (list_any p rows) h in rw parts.0 (find_nowhere p rows parts.1)

find_behind : (p : Row → Bool) (front : List Row) (row : Row) (back : List Row) → list_any p front ≡ false → p row ≡ true → find p (front ++ row ∷ back) ≡ Some row
find_behind p [] row back none is = rw is refl
find_behind p (x ∷ front) row back none is = let parts = or_parts (p x) (list_any p front) none in rw parts.0 (find_behind p front row back parts.1 is)

-- the spot at the row of the key
pub spot_here : {ws : List ℕ} {s : Entries} {slot : ℕ} {key : List ℕ} {t at link passed : ℕ} {stale : Bool} (h : Step ws s slot key t at link passed stale)
    → slot < s.conf.slots → slot ≡ slot_of s.conf key → true ≡ has_key key h.row → IsSpotOf s key t (record { slot = slot; link = link; at = at; stale = stale })
spot_here {ws} {s} {slot} {key} {t} {at} {link} {passed} {stale} h lt is key_is = record {
  in_chain = record { front = h.front; back = h.row ∷ h.back; split = h.split; low = lt; link_is = h.link_is; at_is = h.place; stale_is = h.stale_is };
  slot_is = is;
  old_is = h.place ∙ sym (ap found_place (find_chain s key slot is ∙ (ap (find (has_key key)) h.split ∙ find_behind (has_key key) h.front h.row h.back h.none (sym key_is))));
}

-- the spot at the end
pub spot_last : {ws : List ℕ} {s : Entries} {slot : ℕ} {key : List ℕ} {t at link passed last : ℕ} {stale : Bool} (h : Path ws s slot key t at link passed stale)
    → slot < s.conf.slots → slot ≡ slot_of s.conf key → h.back ≡ [] → last ≡ 0 → IsSpotOf s key t (record { slot = slot; link = link; at = last; stale = stale })
spot_last {ws} {s} {slot} {key} {t} {at} {link} {passed} {last} {stale} h lt is none zero' =
    let all : chain_of s slot ≡ h.front = h.split ∙ (ap (λ (l : List Row). h.front ++ l) none ∙ append-nil h.front) in
    record {
      in_chain = record { front = h.front; back = []; split = all ∙ sym (append-nil h.front); low = lt; link_is = h.link_is; at_is = zero'; stale_is = h.stale_is };
      slot_is = is;
      old_is = zero' ∙ sym (ap found_place (find_chain s key slot is ∙ (ap (find (has_key key)) all ∙ find_nowhere (has_key key) h.front h.none)));
    }

-- nothing follows where the walk has come to 0, or has passed as many rows as there are
nothing_at : (ws : List ℕ) (at : ℕ) (front back chain : List Row) → chain ≡ front ++ back → IsRowChain ws at back → at ≡ 0 → ((row : Row) → Contains chain row → row.place ≢ 0) → back ≡ []
nothing_at ws at front [] chain split rest none places = refl
nothing_at ws at front (row ∷ back) chain split rest none places =
    absurd (places row (subst (λ c. Contains c row) (sym split) (Contains-append_right front (row ∷ back) row (Contains-first row back))) (sym rest.0 ∙ none))

nothing_left : (front back chain : List Row) (passed : ℕ) → chain ≡ front ++ back → passed ≤ length front → length chain ≤ passed → back ≡ []
nothing_left front [] chain passed split many all = refl
nothing_left front (row ∷ back) chain passed split many all = absurd (omega (arith, ap (length {A = Row}) split, length-append front (row ∷ back)))

pub path_end : {e : EntrySlots} {ws ws' : List ℕ} {aside : Aside} {s : Entries} {slot : ℕ} {key : List ℕ} {t at link passed : ℕ} {stale : Bool} → Stands e ws' aside s → (h : Path ws s slot key t at link passed stale) → at ≡ 0 → h.back ≡ []
path_end {ws = ws} {s = s} {slot = slot} {at = at} stand h none = nothing_at ws at h.front h.back (chain_of s slot) h.split h.rest none (chain_places s slot stand)

pub path_whole : {ws : List ℕ} {s : Entries} {slot : ℕ} {key : List ℕ} {t at link passed : ℕ} {stale : Bool} → (h : Path ws s slot key t at link passed stale) → length (chain_of s slot) ≤ passed → h.back ≡ []
path_whole {s = s} {slot = slot} {passed = passed} h all = nothing_left h.front h.back (chain_of s slot) passed h.split (omega (arith, h.many)) all

-- ---- the rest of the chain

-- the walk continues from a spot: at least this many rows were passed, none of them expired
pub record Rest (ws : List ℕ) (s : Entries) (slot t at passed : ℕ) : Type 0 where
  pub front : List Row
  pub back : List Row
  pub split : chain_of s slot ≡ front ++ back
  pub many : passed ≤ length front
  pub none : list_any (is_expired s.conf t) front ≡ false
  pub rest : IsRowChain ws at back

pub record RestAt (ws : List ℕ) (s : Entries) (slot t at passed : ℕ) : Type 0 where
  pub front : List Row
  pub row : Row
  pub back : List Row
  pub split : chain_of s slot ≡ front ++ row ∷ back
  pub many : passed ≤ length front
  pub none : list_any (is_expired s.conf t) front ≡ false
  pub place : at ≡ row.place
  pub rest : IsRowChain ws (slice_index ws (row.place + NEXT)) back

-- the word of a spot names its row
pub spot_link : {e : EntrySlots} {ws : List ℕ} {aside : Aside} {s : Entries} {t : ℕ} (spot : Spot) → Stands e ws aside s → IsSpot s t spot → IsLinkTo ws spot.slot (chain_of s spot.slot) spot.at spot.link
spot_link {e} {ws} {aside} {s} {t} spot h p =
    let chain : IsRowChain ws (slice_index ws spot.slot) (p.front ++ p.back) = subst (λ (l : List Row). IsRowChain ws (slice_index ws spot.slot) l) p.split (h.chains spot.slot p.low) in
    let rest : IsRowChain ws (slice_index ws (link_after spot.slot p.front)) p.back = chain_rest ws spot.slot p.front p.back chain in
    let first : slice_index ws (link_after spot.slot p.front) ≡ spot.at = chain_first ws (slice_index ws (link_after spot.slot p.front)) p.back rest ∙ sym p.at_is in
    record {
      front = p.front;
      back = p.back;
      split = p.split;
      follows = p.link_is;
      word = ap (λ (n : ℕ). slice_index ws n) p.link_is ∙ first;
      rest = subst (λ (n : ℕ). IsRowChain ws n p.back) first rest;
    }

-- the row of a spot is in the chain
pub spot_there : {s : Entries} {t : ℕ} (spot : Spot) → IsSpot s t spot → spot.at ≢ 0 → has_place spot.at (chain_of s spot.slot) ≡ true
spot_there {s} {t} spot p some = go p.back p.split p.at_is
  where
    go : (back : List Row) → chain_of s spot.slot ≡ p.front ++ back → spot.at ≡ first_place back → has_place spot.at (chain_of s spot.slot) ≡ true
    go [] split at = absurd (some at)
    go (row ∷ back) split at =
        any_from (is_at spot.at) (chain_of s spot.slot) row (subst (λ c. Contains c row) (sym split) (Contains-append_right p.front (row ∷ back) row (Contains-first row back))) (eq-eqb row.place spot.at (sym at))

pub rest_start : {e : EntrySlots} {ws : List ℕ} {aside : Aside} {s : Entries} {t : ℕ} (spot : Spot) → Stands e ws aside s → IsSpot s t spot → spot.stale ≡ false → Rest ws s spot.slot t spot.at 0
unfolding spot_link
rest_start {s = s} {t = t} spot h p fresh =
    let link = spot_link spot h p in
    record { front = p.front; back = p.back; split = p.split; many = omega arith; none = sym p.stale_is ∙ fresh; rest = link.rest }

-- a walk begins at the first row
pub rest_first : {e : EntrySlots} {ws : List ℕ} {aside : Aside} (s : Entries) (slot t at : ℕ) → Stands e ws aside s → slot < s.conf.slots → at ≡ first_place (chain_of s slot) → Rest ws s slot t at 0
rest_first {ws = ws} s slot t at h lt first =
    let chain = h.chains slot lt in
    record {
      front = [];
      back = chain_of s slot;
      split = refl;
      many = omega arith;
      none = refl;
      rest = subst (λ a. IsRowChain ws a (chain_of s slot)) (chain_first ws (slice_index ws slot) (chain_of s slot) chain ∙ sym first) chain;
    }

pub rest_at : {ws : List ℕ} {s : Entries} {slot t at passed : ℕ} → Rest ws s slot t at passed → at ≢ 0 → RestAt ws s slot t at passed
rest_at {ws} {s} {slot} {t} {at} {passed} h some = go h.back h.split h.rest
  where
    go : (back : List Row) → chain_of s slot ≡ h.front ++ back → IsRowChain ws at back → RestAt ws s slot t at passed
    go [] split rest = absurd (some rest)
    go (row ∷ back) split rest = record { front = h.front; row = row; back = back; split = split; many = h.many; none = h.none; place = rest.0; rest = rest.1 }

pub rest_next : {ws : List ℕ} {s : Entries} {slot t at passed : ℕ} (next : ℕ) (h : RestAt ws s slot t at passed) → false ≡ is_expired s.conf t h.row → next ≡ slice_index ws (at + NEXT) → Rest ws s slot t next (passed + 1)
rest_next {ws} {s} {slot} {t} {at} {passed} next h fresh e = record {
  front = h.front ++ h.row ∷ [];
  back = h.back;
  split = h.split ∙ sym (append_assoc h.front (h.row ∷ []) h.back);
  many = omega (arith, length-append h.front (h.row ∷ []), h.many);
  none = any_push (is_expired s.conf t) h.front h.row ∙ or_from (list_any (is_expired s.conf t) h.front) (is_expired s.conf t h.row) h.none (sym fresh);
  rest = subst (λ a. IsRowChain ws a h.back) (ap (λ n. slice_index ws (n + NEXT)) (sym h.place) ∙ sym e) h.rest;
}

pub rest_listed : {ws : List ℕ} {s : Entries} {slot t at passed : ℕ} (h : RestAt ws s slot t at passed) → IsListed s at h.row
rest_listed {s = s} {slot = slot} h = record {
  there = Contains-append_left s.rows s.removed h.row (Contains-filter (is_in_slot s.conf slot) s.rows h.row
      (subst (λ c. Contains c h.row) (sym h.split) (Contains-append_right h.front (h.row ∷ h.back) h.row (Contains-first h.row h.back)))).0;
  place = sym h.place;
}

-- an expired row was met
pub rest_expired : {ws : List ℕ} {s : Entries} {slot t at passed : ℕ} (h : RestAt ws s slot t at passed) → true ≡ is_expired s.conf t h.row → true ≡ list_any (is_expired s.conf t) (chain_of s slot)
rest_expired {s = s} {slot = slot} {t = t} h is =
    sym (ap (list_any (is_expired s.conf t)) h.split ∙ (list_any-append (is_expired s.conf t) h.front (h.row ∷ h.back)
    ∙ or_right (list_any (is_expired s.conf t) h.front) (list_any (is_expired s.conf t) (h.row ∷ h.back)) (or_left (is_expired s.conf t h.row) (list_any (is_expired s.conf t) h.back) (sym is))))

-- one was met on the way to the spot
pub spot_stale : {s : Entries} {t : ℕ} (spot : Spot) → IsSpot s t spot → spot.stale ≡ true → true ≡ list_any (is_expired s.conf t) (chain_of s spot.slot)
spot_stale {s} {t} spot p stale =
    sym (ap (list_any (is_expired s.conf t)) p.split ∙ (list_any-append (is_expired s.conf t) p.front p.back
    ∙ or_left (list_any (is_expired s.conf t) p.front) (list_any (is_expired s.conf t) p.back) (sym p.stale_is ∙ stale)))

rest_none : {ws : List ℕ} {s : Entries} {slot t at passed : ℕ} (h : Rest ws s slot t at passed) → h.back ≡ [] → false ≡ list_any (is_expired s.conf t) (chain_of s slot)
rest_none {s = s} {slot = slot} {t = t} h none =
    sym (ap (list_any (is_expired s.conf t)) (h.split ∙ (ap (λ (l : List Row). h.front ++ l) none ∙ append-nil h.front)) ∙ h.none)

pub rest_end : {e : EntrySlots} {ws ws' : List ℕ} {aside : Aside} {s : Entries} {slot t at passed : ℕ} → Stands e ws' aside s → Rest ws s slot t at passed → at ≡ 0 → false ≡ list_any (is_expired s.conf t) (chain_of s slot)
rest_end {ws = ws} {s = s} {slot = slot} {at = at} stand h none = rest_none h (nothing_at ws at h.front h.back (chain_of s slot) h.split h.rest none (chain_places s slot stand))

pub rest_whole : {ws : List ℕ} {s : Entries} {slot t at passed : ℕ} → Rest ws s slot t at passed → length (chain_of s slot) ≤ passed → false ≡ list_any (is_expired s.conf t) (chain_of s slot)
rest_whole {s = s} {slot = slot} {passed = passed} h all = rest_none h (nothing_left h.front h.back (chain_of s slot) passed h.split h.many all)
