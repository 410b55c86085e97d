-- What is gathered of rows, one row after the other.
use Rattle.std.proofs.Common.{◌≡◌, ◌∙◌, ℕ, ◌+◌, ◌-◌, ◌^◌, ◌≤◌, Bool, List, [], ◌∷◌, ◌++◌, length, drop}
use Rattle.std.proofs.Common.{suc, ◌<◌, ◌&&◌, true, false, mod-lt, map, filter, refl, sym, ap, arith, append-nil, append_assoc, length-append}
use Rattle.std.specs.Prelude.{sum_by, nat_le, nat_lt, if◌then◌else◌}
use Rattle.std.specs.List.{flat_map, range_with_len}
use Rattle.std.proofs.lemmas.Bool.Decides.{nat_tests}
use Rattle.std.proofs.lemmas.List.{map-append}
use Rattle.std.proofs.lemmas.List.Elements.{filter-append}
use Rattle.std.proofs.lemmas.List.Sums.{sum_by-append}
use Rattle.apcu_model.specs.declared.searching.Fields.{Fields}
use Rattle.apcu_model.specs.Cache.{Row}
use Rattle.seg_words.specs.Members.{filter_alike}
use Rattle.php_graph.specs.Numbers.{hash_of}
use Rattle.apcu_model.specs.declared.conf.Conf.{Conf}
use Rattle.apcu_model.specs.Chunks.{item_of}
use Rattle.apcu_model.specs.SlotOrder.{slot_of, is_in_slot, in_slot_order}
use Rattle.entry_slots.specs.Sums.{all_slots}
use Rattle.ttl_expunge.specs.Lists.{row_places}
use Rattle.apcu_iter.specs.declared.summing.Sums.{Sums}
use Rattle.apcu_iter.specs.RowSums.{within, with_rows, no_sums, sums_of_both}
use Rattle.row_search.specs.Choices.{Choice, is_chosen, chosen_items, chosen_places}
use Rattle.apcu_iter.proofs.SlotRows.{flat_last, is_between, between_is, length_ordered}

-- ---- lists

pub items_joined : (choice : Choice) (fields : Fields) (xs ys : List Row)
    → chosen_items choice fields (xs ++ ys) ≡ chosen_items choice fields xs ++ chosen_items choice fields ys
items_joined choice fields xs ys =
    ap (map (item_of fields)) (filter-append (is_chosen choice) xs ys)
    ∙ map-append (item_of fields) (filter (is_chosen choice) xs) (filter (is_chosen choice) ys)

-- their places
pub places_joined : (choice : Choice) (xs ys : List Row)
    → chosen_places choice (xs ++ ys) ≡ chosen_places choice xs ++ chosen_places choice ys
places_joined choice xs ys =
    ap row_places (filter-append (is_chosen choice) xs ys)
    ∙ map-append (λ (row : Row). row.place) (filter (is_chosen choice) xs) (filter (is_chosen choice) ys)

-- one row more of those that are left
pub goes_on : {X : Type 0} (f : List Row → List X)
    → ((xs ys : List Row) → f (xs ++ ys) ≡ f xs ++ f ys)
    → (rows : List Row) (passed : ℕ) (row : Row) (old new : List X)
    → drop passed rows ≡ row ∷ drop (passed + 1) rows → new ≡ old ++ f (row ∷ [])
    → new ++ f (drop (passed + 1) rows) ≡ old ++ f (drop passed rows)
goes_on f joined rows passed row old new left is =
    let rest = drop (passed + 1) rows in
    ap (λ l. l ++ f rest) is ∙ append_assoc old (f (row ∷ [])) (f rest)
    ∙ ap (λ l. old ++ l) (sym (joined (row ∷ []) rest) ∙ sym (ap f left))

-- none is left
pub goes_out : {X : Type 0} (f : List Row → List X) → f [] ≡ [] → (left : List Row)
    (old all : List X) → left ≡ [] → old ++ f left ≡ all → old ≡ all
goes_out f nothing left old all none is =
    sym (append-nil old) ∙ ap (λ l. old ++ l) (sym (ap f none ∙ nothing)) ∙ is

-- ---- sums

within_more : (a b c d : ℕ) → d ≡ b + c → within (within (a + b) + c) ≡ within (a + d)
within_more a b c d e = grind (arith, e)

sums_alike : (count count' hits hits' words words' : ℕ) → count ≡ count' → hits ≡ hits'
    → words ≡ words'
    → ◌≡◌ {A = Sums} (record { count = count; hits = hits; words = words })
    (record { count = count'; hits = hits'; words = words' })
sums_alike count count' hits hits' words words' p q r = cc (p, q, r)

pub sums_joined : (sums : Sums) (xs ys : List Row)
    → with_rows (with_rows sums xs) ys ≡ with_rows sums (xs ++ ys)
sums_joined sums xs ys =
    let hits : Row → ℕ = λ row. row.hits in
    let size : Row → ℕ = λ row. row.size in
    sums_alike (within (within (sums.count + length xs) + length ys)) (within (sums.count + length (xs ++ ys)))
    (within (within (sums.hits + sum_by hits xs) + sum_by hits ys)) (within (sums.hits + sum_by hits (xs ++ ys)))
    (within (within (sums.words + sum_by size xs) + sum_by size ys)) (within (sums.words + sum_by size (xs ++ ys)))
    (within_more sums.count (length xs) (length ys) (length (xs ++ ys)) (length-append xs ys))
    (within_more sums.hits (sum_by hits xs) (sum_by hits ys) (sum_by hits (xs ++ ys)) (sum_by-append hits xs ys))
    (within_more sums.words (sum_by size xs) (sum_by size ys) (sum_by size (xs ++ ys)) (sum_by-append size xs ys))

-- each number is one of 64 bits
pub record AreSmall (sums : Sums) : Type 0 where
  pub count : sums.count ≤ 2 ^ 64 - 1
  pub hits : sums.hits ≤ 2 ^ 64 - 1
  pub words : sums.words ≤ 2 ^ 64 - 1

low : (n : ℕ) → within n ≤ 2 ^ 64 - 1
low n = grind arith

pub small_sums : (sums : Sums) (rows : List Row) → AreSmall (with_rows sums rows)
small_sums sums rows = record {
  count = low (sums.count + length rows);
  hits = low (sums.hits + sum_by (λ (row : Row). row.hits) rows);
  words = low (sums.words + sum_by (λ (row : Row). row.size) rows);
}

pub small_none : AreSmall no_sums
small_none = record { count = omega arith; hits = omega arith; words = omega arith }

same_within : (n : ℕ) → n ≤ 2 ^ 64 - 1 → within (n + 0) ≡ n
same_within n h = grind (arith, h)

pub no_more_sums : (sums : Sums) → AreSmall sums → with_rows sums [] ≡ sums
no_more_sums sums small =
    sums_alike (within (sums.count + 0)) sums.count (within (sums.hits + 0)) sums.hits
    (within (sums.words + 0)) sums.words (same_within sums.count small.count)
    (same_within sums.hits small.hits) (same_within sums.words small.words)

-- one more row, if it is chosen
pub adds_one : (choice : Choice) (row : Row) (old new : Sums) → AreSmall old
    → new ≡ (if is_chosen choice row then with_rows old (row ∷ []) else old)
    → new ≡ with_rows old (filter (is_chosen choice) (row ∷ []))
adds_one choice row old new small is = is ∙ go (is_chosen choice row)
  where
    go : (b : Bool) → (if b then with_rows old (row ∷ []) else old)
        ≡ with_rows old (if b then (row ∷ []) else [])
    go true = refl
    go false = sym (no_more_sums old small)

-- one row more of those that are left
pub adds_on : (choice : Choice) (rows : List Row) (passed : ℕ) (row : Row) (old new : Sums)
    → drop passed rows ≡ row ∷ drop (passed + 1) rows
    → new ≡ with_rows old (filter (is_chosen choice) (row ∷ []))
    → with_rows new (filter (is_chosen choice) (drop (passed + 1) rows))
    ≡ with_rows old (filter (is_chosen choice) (drop passed rows))
adds_on choice rows passed row old new left is =
    let p = is_chosen choice in
    let rest = drop (passed + 1) rows in
    ap (λ (s : Sums). with_rows s (filter p rest)) is
    ∙ sums_joined old (filter p (row ∷ [])) (filter p rest)
    ∙ ap (with_rows old) (sym (filter-append p (row ∷ []) rest) ∙ sym (ap (filter p) left))

-- none is left
pub adds_out : (choice : Choice) (left : List Row) (sums all : Sums) → AreSmall sums → left ≡ []
    → with_rows sums (filter (is_chosen choice) left) ≡ all → sums ≡ all
adds_out choice left sums all small none is =
    sym (no_more_sums sums small)
    ∙ sym (ap (λ l. with_rows sums (filter (is_chosen choice) l)) none) ∙ is

-- ---- all slots

both_within : (a b c : ℕ) → c ≡ a + b → within (within (0 + a) + within (0 + b)) ≡ within (0 + c)
both_within a b c e = grind (arith, e)

pub both_joined : (xs ys : List Row)
    → sums_of_both (with_rows no_sums xs) (with_rows no_sums ys) ≡ with_rows no_sums (xs ++ ys)
both_joined xs ys =
    let hits : Row → ℕ = λ row. row.hits in
    let size : Row → ℕ = λ row. row.size in
    sums_alike (within (within (0 + length xs) + within (0 + length ys))) (within (0 + length (xs ++ ys)))
    (within (within (0 + sum_by hits xs) + within (0 + sum_by hits ys))) (within (0 + sum_by hits (xs ++ ys)))
    (within (within (0 + sum_by size xs) + within (0 + sum_by size ys))) (within (0 + sum_by size (xs ++ ys)))
    (both_within (length xs) (length ys) (length (xs ++ ys)) (length-append xs ys))
    (both_within (sum_by hits xs) (sum_by hits ys) (sum_by hits (xs ++ ys)) (sum_by-append hits xs ys))
    (both_within (sum_by size xs) (sum_by size ys) (sum_by size (xs ++ ys)) (sum_by-append size xs ys))

-- the rows of the slots before one
abbrev pub slots_before : (Row → Bool) → Conf → List Row → ℕ → List Row
slots_before p conf rows n =
    flat_map (λ slot. filter p (filter (is_in_slot conf slot) rows)) (range_with_len 0 n)

pub one_slot_more : (p : Row → Bool) (conf : Conf) (rows : List Row) (n : ℕ) (old new more : Sums)
    → old ≡ with_rows no_sums (slots_before p conf rows n)
    → more ≡ with_rows no_sums (filter p (filter (is_in_slot conf n) rows))
    → new ≡ sums_of_both old more → new ≡ with_rows no_sums (slots_before p conf rows (n + 1))
one_slot_more p conf rows n old new more were here is =
    let f : ℕ → List Row = λ slot. filter p (filter (is_in_slot conf slot) rows) in
    let many : suc n ≡ n + 1 = omega arith in
    is ∙ ap (λ (s : Sums). sums_of_both s more) were
    ∙ ap (λ (s : Sums). sums_of_both (with_rows no_sums (slots_before p conf rows n)) s) here
    ∙ both_joined (slots_before p conf rows n) (f n)
    ∙ ap (with_rows no_sums) (sym (flat_last f n 0 n (omega arith))
    ∙ ap (λ k. flat_map f (range_with_len 0 k)) many)

pub all_slots_sum : (p : Row → Bool) (conf : Conf) (rows : List Row) → 0 < conf.slots
    → with_rows no_sums (slots_before p conf rows conf.slots) ≡ with_rows no_sums (filter p rows)
all_slots_sum p conf rows some =
    let f : ℕ → List Row = λ slot. filter p (filter (is_in_slot conf slot) rows) in
    let hits : Row → ℕ = λ row. row.hits in
    let size : Row → ℕ = λ row. row.size in
    let xs = filter p rows in
    let none : conf.slots - 0 ≡ conf.slots = omega arith in
    let ordered : slots_before p conf rows conf.slots ≡ in_slot_order conf xs =
    ap (λ n. flat_map f (range_with_len 0 n)) (sym none)
    ∙ between_is p conf 0 conf.slots rows (omega arith) (omega arith)
    ∙ ap (in_slot_order conf) (filter_alike (is_between p conf 0 conf.slots) p rows
    (λ row c. in_all (p row) (slot_of conf row.key) conf.slots (mod-lt (hash_of row.key) some))) in
    ap (with_rows no_sums) ordered
    ∙ sums_alike (within (0 + length (in_slot_order conf xs))) (within (0 + length xs))
    (within (0 + sum_by hits (in_slot_order conf xs))) (within (0 + sum_by hits xs))
    (within (0 + sum_by size (in_slot_order conf xs))) (within (0 + sum_by size xs))
    (ap (λ n. within (0 + n)) (length_ordered conf xs some))
    (ap (λ n. within (0 + n)) (all_slots hits conf xs some))
    (ap (λ n. within (0 + n)) (all_slots size conf xs some))
  where
    in_all : (b : Bool) (k n : ℕ) → k < n → (b && nat_le 0 k && nat_lt k n) ≡ b
    in_all b k n low =
        let least : nat_le 0 k ≡ true = grind (arith, nat_tests) in
        let most : nat_lt k n ≡ true = grind (arith, nat_tests, low) in
        rw (least, most) (all b)
      where
        all : (b : Bool) → (b && true && true) ≡ b
        all true = refl
        all false = refl
