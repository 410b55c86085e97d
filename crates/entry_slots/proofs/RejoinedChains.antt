-- What a chain and the others are after one of its words is stored.
use Rattle.std.proofs.Common.{◌≡◌, ◌≢◌, ◌⊎◌, inl, inr, ℕ, ◌+◌, ◌<◌, ◌≤◌, Bool, true, false, List, [], ◌∷◌, ◌++◌, slice_index, slice_set, refl, sym, ◌∙◌, subst, arith}
use Rattle.std.proofs.lemmas.Bool.{cases_Bool, eqb-true, ne_eqb}
use Rattle.std.proofs.lemmas.List.{get_or-set_same, get_or-set_other}
use Rattle.std.proofs.lemmas.List.Elements.{Contains-append_left, Contains-append_right}
use Rattle.std.specs.List.{Contains, filter, count_by}
use Rattle.entry_slots.specs.declared.head.TheConstants.{NEXT}
use Rattle.seg_words.specs.Windows.{Aside}
use Rattle.apcu_model.specs.Cache.{Row}
use Rattle.apcu_model.specs.SlotOrder.{is_in_slot, slot_of}
use Rattle.entry_slots.specs.declared.slots.EntrySlots.{EntrySlots}
use Rattle.entry_slots.specs.Lists.{is_at}
use Rattle.entry_slots.specs.Entries.{Entries, chain_of}
use Rattle.entry_slots.specs.Standing.{IsRowChain, Stands}
use Rattle.entry_slots.specs.Links.{link_after}
use Rattle.seg_words.specs.Members.{Contains-first, Contains-later, count-cons, counted_some, Contains-filter}
use Rattle.entry_slots.proofs.RowBlocks.{IsHome, room, home_removed}
use Rattle.entry_slots.proofs.Chains.{home_chain}
use Rattle.entry_slots.proofs.Frames.{chain_kept}
use Rattle.entry_slots.proofs.DistinctPlaces.{at_itself, rows_removed}
use Rattle.entry_slots.proofs.ChainCuts.{AreDistinct, chain_distinct, distinct_front, distinct_both, rows_once, Spot, spot_after, spot_word, relink, set_link}

-- two tests that never hold together
disjoint_count : (t p q : Row → Bool) → ((row : Row) → p row ≡ true → q row ≡ false) → (rows : List Row) → count_by t (filter p rows) + count_by t (filter q rows) ≤ count_by t rows
disjoint_count t p q h [] = omega arith
disjoint_count t p q h (row ∷ rows) = elim (cases_Bool (p row)) [
  | inl y ↦ rw (y, h row y) (omega (arith, count-cons t row (filter p rows), count-cons t row rows, disjoint_count t p q h rows))
  | inr n ↦ rw n (elim (cases_Bool (q row)) [
    | inl y ↦ rw y (omega (arith, count-cons t row (filter q rows), count-cons t row rows, disjoint_count t p q h rows))
    | inr k ↦ rw k (omega (arith, count-cons t row rows, disjoint_count t p q h rows))
  ])
]

-- rows of two chains have two places
pub slots_apart : {e : EntrySlots} {ws : List ℕ} {aside : Aside} {s : Entries} → Stands e ws aside s → (one two : ℕ) → one ≢ two → (p q : Row) → Contains (chain_of s one) p → Contains (chain_of s two) q → q.place ≢ p.place
slots_apart {s = s} h one two other p q cp cq same =
    let never : (row : Row) → is_in_slot s.conf one row ≡ true → is_in_slot s.conf two row ≡ false = λ row y.
    ne_eqb (slot_of s.conf row.key) two (λ k. other (sym (eqb-true (slot_of s.conf row.key) one y) ∙ k)) in
    omega (
      arith,
      rows_once h p.place,
      disjoint_count (is_at p.place) (is_in_slot s.conf one) (is_in_slot s.conf two) never s.rows,
      counted_some (is_at p.place) (chain_of s one) p cp (at_itself p p.place refl),
      counted_some (is_at p.place) (chain_of s two) q cq (at_itself q p.place same),
    )

after_cases : (first m : ℕ) (front : List Row) → m ≡ link_after first front → (m ≡ first) ⊎ ((q : Row) × Contains front q × (m ≡ q.place + NEXT))
after_cases first m [] e = inl e
after_cases first m (row ∷ rows) e = elim (after_cases (row.place + NEXT) m rows e) [
  | inl here ↦ inr (row, Contains-first row rows, here)
  | inr q ↦ inr (q.0, Contains-later row rows q.0 q.1, q.2)
]

module _ {e : EntrySlots} {ws : List ℕ} {aside : Aside} {s : Entries} (h : Stands e ws aside s) (slot : ℕ) (lt : slot < e.sma.bounds.from) (m v : ℕ) (front back : List Row) (split : chain_of s slot ≡ front ++ back) (follows : m ≡ link_after slot front) where
  pub in_front : (q : Row) → Contains front q → Contains (chain_of s slot) q
  in_front q c = subst (λ rs. Contains rs q) (sym split) (Contains-append_left front back q c)

  pub in_back : (q : Row) → Contains back q → Contains (chain_of s slot) q
  in_back q c = subst (λ rs. Contains rs q) (sym split) (Contains-append_right front back q c)

  pub cut_spot : Spot e ws aside m
  cut_spot = subst (λ n. Spot e ws aside n) (sym follows) (spot_after slot front (inl lt) (λ q c. home_chain slot h q (in_front q c)))

  -- the word of a row that is none of the front's
  pub not_word : (row : Row) → IsHome e ws aside row → ((q : Row) → Contains front q → q.place ≢ row.place) → row.place + NEXT ≢ m
  not_word row home other = elim (after_cases slot m front follows) [
    | inl here ↦ (let w = room home in (λ q. omega (arith, w.low)))
    | inr q ↦ (λ same. other q.0 q.1 (omega (arith, q.2)))
  ]

  pub back_other : (row : Row) → Contains back row → row.place + NEXT ≢ m
  back_other row c =
      let distinct : AreDistinct (front ++ back) = subst AreDistinct split (chain_distinct h slot) in
      not_word row (home_chain slot h row (in_back row c)) (λ q cq same. distinct_both front back q row distinct cq c (sym same))

  -- the chain with another back
  pub rejoined : (back' : List Row) → IsRowChain ws v back' → ((row : Row) → Contains back' row → row.place + NEXT ≢ m) → IsRowChain (slice_set ws m v) (slice_index (slice_set ws m v) slot) (front ++ back')
  rejoined back' chain other =
      let w = spot_word m h cut_spot in
      let distinct : AreDistinct (front ++ back) = subst AreDistinct split (chain_distinct h slot) in
      let kept : IsRowChain (slice_set ws m v) v back' = chain_kept ws (slice_set ws m v) v back' (λ row c. set_link h m v cut_spot row (other row c)) chain in
      let word : slice_index (slice_set ws m v) m ≡ v = get_or-set_same ws m v 0 w.inside in
      relink ws (slice_set ws m v) slot m front back back' follows (subst (λ rs. IsRowChain ws (slice_index ws slot) rs) split (h.chains slot (omega (arith, h.from))))
      (subst (λ n. IsRowChain (slice_set ws m v) n back') (sym word) kept)
      (λ o. get_or-set_other ws m slot v 0 o)
      (λ q c o. set_link h m v cut_spot q o)
      (λ q c o. let w = room (home_chain slot h q (in_front q c)) in omega (arith, w.low))
      (distinct_front front back distinct)

  -- the other chains
  pub other_chain : (two : ℕ) → two < e.sma.bounds.from → two ≢ slot → IsRowChain (slice_set ws m v) (slice_index (slice_set ws m v) two) (chain_of s two)
  other_chain two low other =
      let word : slice_index (slice_set ws m v) two ≡ slice_index ws two = get_or-set_other ws m two v 0 (elim (after_cases slot m front follows) [
        | inl here ↦ (λ q. other (q ∙ here))
        | inr q ↦ (let w = room (home_chain slot h q.0 (in_front q.0 q.1)) in (λ same. omega (arith, w.low, q.2)))
      ]) in
      subst (λ n. IsRowChain (slice_set ws m v) n (chain_of s two)) (sym word)
      (chain_kept ws (slice_set ws m v) (slice_index ws two) (chain_of s two) (λ row c. set_link h m v cut_spot row (not_word row (home_chain two h row c) (λ q cq. slots_apart h two slot other row q c (in_front q cq)))) (h.chains two (omega (arith, h.from))))

  -- and the removed rows
  pub removed_kept : IsRowChain (slice_set ws m v) e.removed s.removed
  removed_kept =
      chain_kept ws (slice_set ws m v) e.removed s.removed (λ row c. set_link h m v cut_spot row (not_word row (home_removed row h c) (λ q cq same.
      rows_removed h q row (Contains-filter (is_in_slot s.conf slot) s.rows q (in_front q cq)).0 c (sym same)))) h.removed_chain
