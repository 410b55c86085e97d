-- Linking a new entry, from what the caller knows.
use Rattle.std.proofs.Common.{◌≡◌, ◌≢◌, ◌⊎◌, inl, inr, ℕ, ◌+◌, ◌%◌, ◌<◌, ◌≤◌, ◌^◌, Bool, true, false, cond, eqb, List, [], ◌∷◌, ◌++◌, length, slice_index, slice_set, Some, None, refl, sym, ap, ◌∙◌, subst, arith, length-append}
use Rattle.std.proofs.lemmas.Bool.{cases_Bool, eq-eqb, or_from, ne_eqb}
use Rattle.std.proofs.lemmas.List.Elements.{Contains-append_right}
use Rattle.std.proofs.lemmas.List.{length-map, append-nil}
use Rattle.std.specs.List.{Contains, find, list_any}
use Rattle.seg_words.specs.declared.layout.TheConstants.{HEAD_WORDS}
use Rattle.apcu_model.specs.declared.conf.TheConstants.{MOST_USABLE_WORDS}
use Rattle.entry_slots.specs.declared.head.TheConstants.{NEXT}
use Rattle.seg_words.specs.declared.gaps.Extent.{Extent}
use Rattle.seg_words.specs.Windows.{Aside}
use Rattle.php_graph.specs.declared.kind.Kind.{Kind}
use Rattle.php_graph.specs.Graph.{IsGraph}
use Rattle.php_graph.specs.ByteStrings.{AreBytes}
use Rattle.seg_words.specs.Layout.{words_in}
use Rattle.php_graph.specs.Size.{image_length, block_size}
use Rattle.value_image.specs.PackedBytes.{words_of}
use Rattle.value_image.specs.Rows.{written, MayWrite}
use Rattle.value_image.specs.Image.{image_of}
use Rattle.apcu_model.specs.Cache.{Row, has_key, risen}
use Rattle.apcu_model.specs.Change.{with_row}
use Rattle.apcu_model.specs.Expiry.{is_expired}
use Rattle.apcu_model.specs.SlotOrder.{is_in_slot, slot_of}
use Rattle.entry_slots.specs.declared.slots.EntrySlots.{EntrySlots}
use Rattle.entry_slots.specs.declared.writing.NewHead.{NewHead}
use Rattle.entry_slots.specs.Lists.{is_at, has_place}
use Rattle.entry_slots.specs.Entries.{Entries, chain_of, stored_row, linked, found_place}
use Rattle.entry_slots.specs.Standing.{IsRowChain, IsEntry, Stands}
use Rattle.entry_slots.specs.Links.{link_after, IsLinkTo, IsTarget}
use Rattle.entry_slots.specs.EntryWords.{head_words, entry_words}
use Rattle.entry_slots.specs.Lower.{Laws}
use Rattle.entry_slots.proofs.Runs.{words_long}
use Rattle.seg_words.specs.Members.{Contains-cases, Contains-first, Contains-later, any_from, Contains-kept, none_in_nil}
use Rattle.entry_slots.proofs.Blocks.{live_bounds, live_word}
use Rattle.entry_slots.proofs.RowBlocks.{room, home_row}
use Rattle.entry_slots.proofs.Chains.{home_chain}
use Rattle.entry_slots.proofs.WordChanges.{OnlyIn}
use Rattle.entry_slots.proofs.ChainCuts.{AreDistinct, chain_distinct, chain_rest}
use Rattle.entry_slots.proofs.NewEntryBlock.{written_only, written_entry, taken_live, taken_may, taken_stands, link_kept, rows_not}
use Rattle.entry_slots.proofs.NewRows.{key_is, own_slot_last, own_slot_over}
use Rattle.entry_slots.proofs.LinkedEntries.{linked_stands}

find_cases : (p : Row → Bool) (rows : List Row) → ((find p rows ≡ None) × (list_any p rows ≡ false)) ⊎ ((row : Row) × (find p rows ≡ Some row) × Contains rows row × (p row ≡ true))
find_cases p [] = inl (refl, refl)
find_cases p (row ∷ rows) = elim (cases_Bool (p row)) [
  | inl y ↦ inr (row, rw y refl, Contains-first row rows, y)
  | inr n ↦ elim (find_cases p rows) [
    | inl none ↦ inl (rw n none.0, or_from (p row) (list_any p rows) n none.1)
    | inr some ↦ inr (some.0, rw n some.1, Contains-later row rows some.0 some.2, some.3)
  ]
]

-- what is replaced: nothing, or the key's row
unfoldable pub Old : Entries → List ℕ → ℕ → Type 0
Old s key replaced = ((replaced ≡ 0) × (list_any (has_key key) s.rows ≡ false)) ⊎ ((row : Row) × (replaced ≡ row.place) × Contains s.rows row × (has_key key row ≡ true))

pub old_row : (s : Entries) (key : List ℕ) (replaced : ℕ) → replaced ≡ found_place (find (has_key key) s.rows) → Old s key replaced
unfolding Old
old_row s key replaced e = elim (find_cases (has_key key) s.rows) [
  | inl none ↦ inl (e ∙ ap found_place none.0, none.1)
  | inr some ↦ inr (some.0, e ∙ ap found_place some.1, some.2, some.3)
]

pub old_target : (s : Entries) (key : List ℕ) (slot replaced : ℕ) → slot ≡ slot_of s.conf key → Old s key replaced → IsTarget s slot replaced
unfolding Old
old_target s key slot replaced e (inl none) = inl none.0
old_target s key slot replaced e (inr old) =
    let in' : is_in_slot s.conf slot old.0 ≡ true = eq-eqb (slot_of s.conf old.0.key) slot (ap (slot_of s.conf) (key_is key old.0 old.3) ∙ sym e) in
    inr (any_from (is_at replaced) (chain_of s slot) old.0 (Contains-kept (is_in_slot s.conf slot) s.rows old.0 old.2 in') (eq-eqb old.0.place replaced (sym old.1)))

pub old_place : {e : EntrySlots} {ws : List ℕ} {aside : Aside} (s : Entries) (key : List ℕ) (replaced : ℕ) → Stands e ws aside s → Old s key replaced → (replaced ≡ 0) ⊎ (has_place replaced s.rows ≡ true)
unfolding Old
old_place s key replaced h (inl none) = inl none.0
old_place s key replaced h (inr old) = inr (any_from (is_at replaced) s.rows old.0 old.2 (eq-eqb old.0.place replaced (sym old.1)))

distinct_same : (rows : List Row) (p q : Row) → AreDistinct rows → Contains rows p → Contains rows q → p.place ≡ q.place → p ≡ q
distinct_same [] p q h cp cq e = absurd (none_in_nil p cp)
distinct_same (row ∷ rows) p q h cp cq e = elim (Contains-cases row rows p cp) [
  | inl here ↦ elim (Contains-cases row rows q cq) [
    | inl too ↦ sym here ∙ too
    | inr later ↦ absurd (h.0 q later (sym e ∙ ap (λ (r : Row). r.place) (sym here)))
  ]
  | inr later ↦ elim (Contains-cases row rows q cq) [
    | inl here ↦ absurd (h.0 p later (e ∙ ap (λ (r : Row). r.place) (sym here)))
    | inr too ↦ distinct_same rows p q h.1 later too e
  ]
]

only_wider : (ws ws' : List ℕ) (low high more : ℕ) → OnlyIn ws ws' low high → high ≤ more → OnlyIn ws ws' low more
only_wider ws ws' low high more h le = record { count = h.count; same = λ i out. h.same i (elim out [ inl l ↦ inl l | inr r ↦ inr (omega arith) ]) }

block_enough : (n : ℕ) → n ≤ n + n % 2
block_enough n = omega arith

-- the block that was taken
module _ {e : EntrySlots} {ws : List ℕ} {aside : Aside} (s : Entries) (h : Stands e ws aside s) (at : ℕ) (key : List ℕ) (g : List Kind) (taken : Contains s.taken (record { place = at; size = block_size (length key) g })) where
  block : Extent
  block = record { place = at; size = block_size (length key) g }

  pub taken_room : (at + (HEAD_WORDS + words_in (length key) + image_length g) ≤ length ws) × (length ws ≤ MOST_USABLE_WORDS) × (HEAD_WORDS + words_in (length key) + image_length g ≤ block_size (length key) g)
  taken_room =
      let bounds = live_bounds e.sma ws aside (record { place = at; size = block_size (length key) g }) h.ready (taken_live (record { place = at; size = block_size (length key) g }) h taken) in
      let enough = block_enough (HEAD_WORDS + words_in (length key) + image_length g) in
      (omega (arith, bounds.1, enough), omega (arith, h.to, h.usable.words_most, h.ready.end), enough)

  pub taken_write : MayWrite ws aside.windows (at + NEXT) (11 + words_in (length key) + image_length g)
  taken_write = let r = taken_room in record {
    inside = omega (arith, r.0);
    apart = λ i low high. taken_may (record { place = at; size = block_size (length key) g }) h taken i (omega arith) (omega (arith, r.2));
  }

  entry_long : Laws → (new_head : NewHead) → length (entry_words key g new_head) ≡ 11 + words_in (length key) + image_length g
  entry_long law new_head = omega (arith, length-append (head_words key g new_head) (words_of key ++ image_of g), length-append (words_of key) (image_of g), words_long key, law.images.long g)

  entry_only : Laws → (new_head : NewHead) → OnlyIn ws (written ws (at + NEXT) (entry_words key g new_head)) (at + NEXT) (at + block_size (length key) g)
  entry_only law new_head = only_wider ws (written ws (at + NEXT) (entry_words key g new_head)) (at + NEXT) (at + NEXT + length (entry_words key g new_head)) (at + block_size (length key) g) (written_only law ws (at + NEXT) (entry_words key g new_head)) (let r = taken_room in omega (arith, r.2, entry_long law new_head))

  pub entry_stands : Laws → (new_head : NewHead) → Stands e (written ws (at + NEXT) (entry_words key g new_head)) aside s
  entry_stands law new_head = taken_stands h (record { place = at; size = block_size (length key) g }) taken (written ws (at + NEXT) (entry_words key g new_head)) (entry_only law new_head) law

  -- all of it, and the chain's word
  pub link_stands : Laws → (new_head : NewHead) → IsGraph g → AreBytes key → new_head.ttl < 2 ^ 32 → new_head.number ≡ e.next_number → (replaced slot m : ℕ) → replaced ≡ found_place (find (has_key key) s.rows) → slot ≡ slot_of s.conf key → slot < e.sma.bounds.from
      → IsLinkTo ws slot (chain_of s slot) replaced m → (replaced ≢ 0 → new_head.next ≡ slice_index ws (replaced + NEXT)) → (replaced ≡ 0 → new_head.next ≡ 0)
      → (number count : ℕ) → number ≡ risen e.next_number → count ≡ cond (eqb replaced 0) (e.count + 1) e.count
      → ((now : ℕ) → now ≤ e.soonest → is_expired s.conf now (stored_row key g new_head.ttl new_head.now at s.next_number) ≡ false)
      → Stands (record e { next_number = number; count = count }) (slice_set (written ws (at + NEXT) (entry_words key g new_head)) m at) aside (linked at key g new_head.ttl new_head.now s)
  unfolding Old
  link_stands law new_head graph bytes ttl number_is replaced slot m er es lt link over none number count en ec unexpired =
      let b : Extent = record { place = at; size = block_size (length key) g } in
      let ws1 : List ℕ = written ws (at + NEXT) (entry_words key g new_head) in
      let h1 : Stands e ws1 aside s = entry_stands law new_head in
      let r = taken_room in
      let size : slice_index ws at ≡ block_size (length key) g = live_word e.sma ws aside b h.ready (taken_live b h taken) in
      let made = written_entry law ws at key g new_head graph bytes ttl size r.0 in
      let numbered : new_head.number ≡ s.next_number = number_is ∙ h.number in
      let entry : IsEntry ws1 (stored_row key g new_head.ttl new_head.now at s.next_number) = subst (λ n. IsEntry ws1 (stored_row key g new_head.ttl new_head.now at n)) numbered made.0 in
      let new : Row = stored_row key g new_head.ttl new_head.now at s.next_number in
      let risen_is : number ≡ risen s.next_number = en ∙ ap risen h.number in
      elim (old_row s key replaced er) [
        | inl fresh ↦
            let empty : link.back ≡ [] = back_none link.back link.split link.rest fresh.0 in
            let split : chain_of s slot ≡ link.front ++ [] = link.split ∙ ap (λ rs. link.front ++ rs) empty in
            linked_stands s h1 at key g new_head.ttl new_head.now taken entry slot lt (sym es) m link.front [] [] split link.follows (λ q c. c) (made.1 ∙ none fresh.0)
            (own_slot_last s slot new (sym es) fresh.1 ∙ ap (λ rs. rs ++ new ∷ []) (split ∙ append-nil link.front))
            law number count risen_is (ec ∙ (ap (λ (b : Bool). cond {A = ℕ} b (e.count + 1) e.count) (eq-eqb replaced 0 fresh.0) ∙ count_last new fresh.1)) unexpired
        | inr old ↦
            let first = back_some old link.back link.split link.rest in
            let row : Row = first.0 in
            let more : List Row = first.1 in
            let split : chain_of s slot ≡ link.front ++ row ∷ more = link.split ∙ ap (λ rs. link.front ++ rs) first.2 in
            let chain1 : IsRowChain ws1 (slice_index ws1 (link_after slot link.front)) (row ∷ more) = chain_rest ws1 slot link.front (row ∷ more) (subst (λ rs. IsRowChain ws1 (slice_index ws1 slot) rs) split (h1.chains slot (omega (arith, h.from)))) in
            let at_row : row.place ≡ replaced = first.3 in
            let home = home_row old.0 h old.2 in
            let some : replaced ≢ 0 = (let w = room home in λ q. omega (arith, w.some, old.1)) in
            let in_rows : Contains s.rows row = subst (λ z. Contains s.rows z) (sym first.4) old.2 in
            let word : slice_index ws1 (row.place + NEXT) ≡ slice_index ws (row.place + NEXT) = link_kept h b taken ws1 (entry_only law new_head) row (home_row row h in_rows) (rows_not h b taken ws1 (entry_only law new_head) row in_rows) in
            let next : slice_index ws1 (at + NEXT) ≡ slice_index ws1 (row.place + NEXT) = made.1 ∙ (over some ∙ (ap (λ n. slice_index ws (n + NEXT)) (sym at_row) ∙ sym word)) in
            let has : has_key key row ≡ true = ap (has_key key) first.4 ∙ old.3 in
            linked_stands s h1 at key g new_head.ttl new_head.now taken entry slot lt (sym es) m link.front (row ∷ more) more split link.follows (λ q c. Contains-later row more q c) (subst (λ n. IsRowChain ws1 n more) (sym next) chain1.1)
            (own_slot_over law s slot new link.front row more h.apart (any_from (has_key key) s.rows old.0 old.2 old.3) split has)
            law number count risen_is (ec ∙ (ap (λ (b : Bool). cond {A = ℕ} b (e.count + 1) e.count) (ne_eqb replaced 0 some) ∙ count_over new (any_from (has_key key) s.rows old.0 old.2 old.3))) unexpired
      ]
    where
      back_none : (back : List Row) → chain_of s slot ≡ link.front ++ back → IsRowChain ws replaced back → replaced ≡ 0 → back ≡ []
      back_none [] split rest z = refl
      back_none (row ∷ back) split rest z =
          let w = room (home_chain slot h row (subst (λ rs. Contains rs row) (sym split) (Contains-append_right link.front (row ∷ back) row (Contains-first row back)))) in
          absurd (omega (arith, w.some, rest.0, z))

      back_some : (old : (row : Row) × (replaced ≡ row.place) × Contains s.rows row × (has_key key row ≡ true)) → (back : List Row) → chain_of s slot ≡ link.front ++ back → IsRowChain ws replaced back → (row : Row) × (more : List Row) × (back ≡ row ∷ more) × (row.place ≡ replaced) × (row ≡ old.0)
      back_some old [] split rest = let w = room (home_row old.0 h old.2) in absurd (omega (arith, w.some, old.1, rest))
      back_some old (row ∷ back) split rest =
          let c : Contains (chain_of s slot) row = subst (λ rs. Contains rs row) (sym split) (Contains-append_right link.front (row ∷ back) row (Contains-first row back)) in
          let in' : is_in_slot s.conf slot old.0 ≡ true = eq-eqb (slot_of s.conf old.0.key) slot (ap (slot_of s.conf) (key_is key old.0 old.3) ∙ sym es) in
          let d : Contains (chain_of s slot) old.0 = Contains-kept (is_in_slot s.conf slot) s.rows old.0 old.2 in' in
          (row, back, refl, sym rest.0, distinct_same (chain_of s slot) row old.0 (chain_distinct h slot) c d (sym rest.0 ∙ old.1))

      count_last : (new : Row) → list_any (has_key new.key) s.rows ≡ false → e.count + 1 ≡ length (with_row new s.rows)
      count_last new none = rw none (omega (arith, h.count, length-append s.rows (new ∷ [])))

      count_over : (new : Row) → list_any (has_key new.key) s.rows ≡ true → e.count ≡ length (with_row new s.rows)
      count_over new some = rw some (h.count ∙ sym (length-map s.rows (λ row. cond (has_key new.key row) new row)))
