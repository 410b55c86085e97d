-- The list of removed rows.
use Rattle.std.proofs.Common.{◌≡◌, ◌≢◌, ◌⊎◌, inl, inr, ℕ, ◌+◌, ◌<◌, ◌≤◌, ◌^◌, false, List, [], ◌∷◌, ◌++◌, length, slice_index, slice_set, refl, sym, ap, ◌∙◌, subst, arith, length-append}
use Rattle.std.proofs.lemmas.Bool.{ne_eqb, or_from}
use Rattle.std.proofs.lemmas.List.{append_assoc, append-nil, get_or-set_same, get_or-set_other}
use Rattle.std.proofs.lemmas.List.Folds.{list_any-append}
use Rattle.std.proofs.lemmas.List.Elements.{Contains-append_left, Contains-append_right}
use Rattle.std.specs.List.{Contains}
use Rattle.entry_slots.specs.declared.head.TheConstants.{NEXT}
use Rattle.seg_words.specs.Windows.{Aside}
use Rattle.apcu_model.specs.Cache.{Row}
use Rattle.apcu_model.specs.SlotOrder.{is_in_slot}
use Rattle.entry_slots.specs.declared.slots.EntrySlots.{EntrySlots}
use Rattle.entry_slots.specs.Lists.{is_at, has_place}
use Rattle.entry_slots.specs.Entries.{Entries, chain_of}
use Rattle.entry_slots.specs.Standing.{IsRowChain, Stands}
use Rattle.entry_slots.specs.Links.{link_after, IsRemovedLink}
use Rattle.seg_words.specs.Members.{Contains-first, Contains-later, Contains-filter}
use Rattle.entry_slots.proofs.RowBlocks.{room, home_removed}
use Rattle.entry_slots.proofs.Chains.{AreHome}
use Rattle.entry_slots.proofs.Frames.{chain_kept}
use Rattle.entry_slots.proofs.DistinctPlaces.{once, rows_removed}
use Rattle.entry_slots.proofs.ChainCuts.{AreDistinct, distinct_counted, distinct_front, Spot, spot_word, relink, set_link}

pub removed_distinct : {e : EntrySlots} {ws : List ℕ} {aside : Aside} {s : Entries} → Stands e ws aside s → AreDistinct s.removed
removed_distinct {s = s} h = distinct_counted s.removed (λ x. omega (arith, once h x))

pub homes_removed : {e : EntrySlots} {ws : List ℕ} {aside : Aside} {s : Entries} → Stands e ws aside s → AreHome e ws aside s.removed
homes_removed h row c = home_removed row h c

-- ---- the walk

abbrev pub Follows : List Row → ℕ → Type 0
Follows front link = ((front ≡ []) × (link ≡ 0)) ⊎ ((first : Row) × (rows : List Row) × (front ≡ first ∷ rows) × (link ≡ link_after (first.place + NEXT) rows))

-- this many removed rows were passed, none at the target; `named` begins the rest, and `link` names
-- it
pub record Path (ws : List ℕ) (removed : List Row) (target link named passed : ℕ) : Type 0 where
  pub front : List Row
  pub back : List Row
  pub split : removed ≡ front ++ back
  pub many : length front ≡ passed
  pub none : has_place target front ≡ false
  pub follows : Follows front link
  pub rest : IsRowChain ws named back

pub path_start : {e : EntrySlots} {ws : List ℕ} {aside : Aside} (s : Entries) (target : ℕ) → Stands e ws aside s → Path ws s.removed target 0 e.removed 0
path_start s target h = record { front = []; back = s.removed; split = refl; many = refl; none = refl; follows = inl (refl, refl); rest = h.removed_chain }

pub path_found : {ws : List ℕ} {removed : List Row} {target link named passed : ℕ} → Path ws removed target link named passed → named ≡ target → IsRemovedLink ws removed target link
path_found {ws} {removed} {target} {link} {named} {passed} h e = record { front = h.front; back = h.back; split = h.split; follows = h.follows; rest = subst (λ n. IsRowChain ws n h.back) e h.rest }

-- the list ends here
pub path_end : {e : EntrySlots} {ws : List ℕ} {aside : Aside} {removed : List Row} {target link named passed : ℕ} → Path ws removed target link named passed → named ≡ 0 → AreHome e ws aside removed → has_place target removed ≡ false
path_end {e} {ws} {aside} {removed} {target} {link} {named} {passed} h none homes = go h.back h.split h.rest
  where
    go : (back : List Row) → removed ≡ h.front ++ back → IsRowChain ws named back → has_place target removed ≡ false
    go [] split rest = ap (has_place target) (split ∙ append-nil h.front) ∙ h.none
    go (row ∷ back) split rest = let w = room (homes row (subst (λ rs. Contains rs row) (sym split) (Contains-append_right h.front (row ∷ back) row (Contains-first row back)))) in absurd (omega (arith, w.some, rest.0, none))

-- the removed row that the walk stands at
pub record Stop (ws : List ℕ) (removed : List Row) (target named passed : ℕ) (front : List Row) : Type 0 where
  pub row : Row
  pub back : List Row
  pub split : removed ≡ front ++ row ∷ back
  pub place : named ≡ row.place
  pub rest : IsRowChain ws (slice_index ws (row.place + NEXT)) back

pub path_stop : {ws : List ℕ} {removed : List Row} {target link named passed : ℕ} (h : Path ws removed target link named passed) → named ≢ 0 → Stop ws removed target named passed h.front
path_stop {ws} {removed} {target} {link} {named} {passed} h some = go h.back h.split h.rest
  where
    go : (back : List Row) → removed ≡ h.front ++ back → IsRowChain ws named back → Stop ws removed target named passed h.front
    go [] split rest = absurd (some rest)
    go (row ∷ back) split rest = record { row = row; back = back; split = split; place = rest.0; rest = rest.1 }

pub stop_in : {ws : List ℕ} {removed : List Row} {target named passed : ℕ} {front : List Row} (h : Stop ws removed target named passed front) → Contains removed h.row
stop_in {front = front} h = subst (λ rs. Contains rs h.row) (sym h.split) (Contains-append_right front (h.row ∷ h.back) h.row (Contains-first h.row h.back))

link_push : (first : ℕ) (front : List Row) (row : Row) → link_after first (front ++ row ∷ []) ≡ row.place + NEXT
link_push first [] row = refl
link_push first (x ∷ front) row = link_push (x.place + NEXT) front row

follows_next : (front : List Row) (link : ℕ) (row : Row) → Follows front link → Follows (front ++ row ∷ []) (row.place + NEXT)
follows_next [] link row f = inr (row, [], refl, refl)
follows_next (x ∷ front) link row f = inr (x, front ++ row ∷ [], refl, sym (link_push (x.place + NEXT) front row))

pub path_next : {ws : List ℕ} {removed : List Row} {target link named passed : ℕ} (h : Path ws removed target link named passed) → named ≢ target → named ≢ 0 → (next : ℕ) → next ≡ slice_index ws (named + NEXT) → Path ws removed target (named + NEXT) next (passed + 1)
path_next {ws} {removed} {target} {link} {named} {passed} h other some next en =
    let stop = path_stop h some in
    let at : is_at target stop.row ≡ false = ne_eqb stop.row.place target (λ q. other (stop.place ∙ q)) in
    let word : named + NEXT ≡ stop.row.place + NEXT = ap (λ n. n + NEXT) stop.place in
    record {
      front = h.front ++ stop.row ∷ [];
      back = stop.back;
      split = stop.split ∙ sym (append_assoc h.front (stop.row ∷ []) stop.back);
      many = omega (arith, length-append h.front (stop.row ∷ []), h.many);
      none = list_any-append (is_at target) h.front (stop.row ∷ []) ∙ or_from (has_place target h.front) (has_place target (stop.row ∷ [])) h.none (or_from (is_at target stop.row) false at refl);
      follows = subst (λ n. Follows (h.front ++ stop.row ∷ []) n) (sym word) (follows_next h.front link stop.row h.follows);
      rest = subst (λ n. IsRowChain ws n stop.back) (ap (λ n. slice_index ws n) (sym word) ∙ sym en) stop.rest;
    }

-- as far as that no walk comes
pub path_short : {ws : List ℕ} {removed : List Row} {target link named passed : ℕ} → Path ws removed target link named passed → passed ≤ length removed
path_short h = omega (arith, ap (length {A = Row}) h.split, length-append h.front h.back, h.many)

-- ---- one link of it stored

-- what the list is after its link names other rows
module _ {e : EntrySlots} {ws : List ℕ} {aside : Aside} (s : Entries) (h : Stands e ws aside s) (target link : ℕ) (L : IsRemovedLink ws s.removed target link) where
  pub in_front : (q : Row) → Contains L.front q → Contains s.removed q
  in_front q c = subst (λ rs. Contains rs q) (sym L.split) (Contains-append_left L.front L.back q c)

  pub in_back : (q : Row) → Contains L.back q → Contains s.removed q
  in_back q c = subst (λ rs. Contains rs q) (sym L.split) (Contains-append_right L.front L.back q c)

  pub link_spot : link ≢ 0 → (q : Row) × Contains L.front q × (link ≡ q.place + NEXT)
  link_spot some = elim L.follows [
    | inl none ↦ absurd (some none.1)
    | inr more ↦ (let r = last (more.0.place + NEXT) link more.0 more.1 refl more.3 in (r.0, subst (λ rs. Contains rs r.0) (sym more.2) r.1, r.2))
  ]
    where
      last : (first m : ℕ) (row : Row) (rows : List Row) → first ≡ row.place + NEXT → m ≡ link_after first rows → (q : Row) × Contains (row ∷ rows) q × (m ≡ q.place + NEXT)
      last first m row [] ef e = (row, Contains-first row [], e ∙ ef)
      last first m row (next ∷ rows) ef e = let r = last (next.place + NEXT) m next rows refl e in (r.0, Contains-later row (next ∷ rows) r.0 r.1, r.2)

  pub link_home : link ≢ 0 → Spot e ws aside link
  link_home some = let q = link_spot some in inr (q.0, home_removed q.0 h (in_front q.0 q.1), q.2)

  -- the list with another back, by a word
  pub removed_by_word : link ≢ 0 → (v : ℕ) (back' : List Row) → IsRowChain (slice_set ws link v) v back' → IsRowChain (slice_set ws link v) e.removed (L.front ++ back')
  removed_by_word some v back' chain = elim L.follows [
    | inl none ↦ absurd (some none.1)
    | inr more ↦
        (let first : Row = more.0 in
        let rows : List Row = more.1 in
        let ws' : List ℕ = slice_set ws link v in
        let w = spot_word link h (link_home some) in
        let whole : s.removed ≡ first ∷ (rows ++ L.back) = L.split ∙ ap (λ rs. rs ++ L.back) more.2 in
        let old : IsRowChain ws e.removed (first ∷ (rows ++ L.back)) = subst (λ rs. IsRowChain ws e.removed rs) whole h.removed_chain in
        let distinct : AreDistinct (first ∷ (rows ++ L.back)) = subst AreDistinct whole (removed_distinct h) in
        let word : slice_index ws' link ≡ v = get_or-set_same ws link v 0 w.inside in
        let tail : IsRowChain ws' (slice_index ws' (first.place + NEXT)) (rows ++ back') =
        relink ws ws' (first.place + NEXT) link rows L.back back' more.3 old.1 (subst (λ n. IsRowChain ws' n back') (sym word) chain)
        (λ o. get_or-set_other ws link (first.place + NEXT) v 0 o)
        (λ q c o. set_link h link v (link_home some) q o)
        (λ q c same. distinct.0 q (Contains-append_left rows L.back q c) (omega arith))
        (distinct_front rows L.back distinct.1) in
        subst (λ rs. IsRowChain ws' e.removed (rs ++ back')) (sym more.2) (old.0, tail))
  ]

  -- by what begins it
  pub removed_by_head : link ≡ 0 → L.front ≡ []
  removed_by_head none = elim L.follows [
    | inl empty ↦ empty.0
    | inr more ↦ (let r = last (more.0.place + NEXT) link more.1 (inl (omega arith)) more.3 in absurd (omega (arith, r)))
  ]
    where
      last : (first m : ℕ) (rows : List Row) → (1 ≤ first) ⊎ (1 ≤ first) → m ≡ link_after first rows → 1 ≤ m
      last first m [] (inl p) e = omega (arith, e)
      last first m [] (inr p) e = omega (arith, e)
      last first m (row ∷ rows) p e = last (row.place + NEXT) m rows (inl (omega arith)) e

  -- the other chains
  pub chains_kept : link ≢ 0 → (v slot : ℕ) → slot < e.sma.bounds.from → IsRowChain (slice_set ws link v) (slice_index (slice_set ws link v) slot) (chain_of s slot)
  chains_kept some v slot lt =
      let q = link_spot some in
      let place : Contains s.removed q.0 = in_front q.0 q.1 in
      let word : slice_index (slice_set ws link v) slot ≡ slice_index ws slot = get_or-set_other ws link slot v 0 (let w = room (home_removed q.0 h place) in λ same. omega (arith, w.low, q.2)) in
      subst (λ n. IsRowChain (slice_set ws link v) n (chain_of s slot)) (sym word)
      (chain_kept ws (slice_set ws link v) (slice_index ws slot) (chain_of s slot) (λ row c. set_link h link v (link_home some) row (λ same.
      rows_removed h row q.0 (Contains-filter (is_in_slot s.conf slot) s.rows row c).0 place (omega (arith, q.2)))) (h.chains slot (omega (arith, h.from))))

-- what a removed row names is a place, or 0
pub stop_small : {e : EntrySlots} {ws : List ℕ} {aside : Aside} {removed : List Row} {target named passed : ℕ} {front : List Row} (h : Stop ws removed target named passed front) → AreHome e ws aside removed → slice_index ws (named + NEXT) < 2 ^ 32
stop_small {e} {ws} {aside} {removed} {target} {named} {passed} {front} h homes =
    let word : slice_index ws (named + NEXT) ≡ slice_index ws (h.row.place + NEXT) = ap (λ n. slice_index ws (n + NEXT)) h.place in
    omega (arith, word, go h.back h.split h.rest)
  where
    go : (back : List Row) → removed ≡ front ++ h.row ∷ back → IsRowChain ws (slice_index ws (h.row.place + NEXT)) back → slice_index ws (h.row.place + NEXT) < 2 ^ 32
    go [] split rest = omega (arith, rest)
    go (row ∷ back) split rest = let w = room (homes row (subst (λ rs. Contains rs row) (sym split) (Contains-append_right front (h.row ∷ row ∷ back) row (Contains-later h.row (row ∷ back) row (Contains-first row back))))) in omega (arith, rest.0, w.high, w.short, w.enough)
