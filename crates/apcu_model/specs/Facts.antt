-- Rows that are held, dated, listed by slot and place, or dropped: facts that proofs of the crates
-- above cite.
use Rattle.std.proofs.Common.{◌≡◌, ◌≢◌, ℕ, zero, suc, ◌+◌, ◌<◌, ◌≤◌, ◌%◌, ◌==◌, not, true}
use Rattle.std.proofs.Common.{inl, inr, List, ◌∷◌, [], map, filter, refl, sym, ap, ◌∙◌}
use Rattle.std.proofs.Common.{subst, arith}
use Rattle.std.proofs.lemmas.Bool.{and_parts, cases_Bool, eq-eqb, eqb-true, false≢true, not-true}
use Rattle.std.proofs.lemmas.List.Elements.{Contains-append_left, Contains-append_right}
use Rattle.std.proofs.lemmas.Slice.Eq.{bytes_eq-Decides}
use Rattle.std.specs.List.{Contains, flat_map, list_any, range_with_len}
use Rattle.php_graph.specs.Numbers.{hash_of}
use Rattle.seg_words.specs.Windows.{has}
use Rattle.seg_words.specs.Members.{map_there, flat_there, Contains-cases, Contains-filter}
use Rattle.seg_words.specs.Members.{Contains-kept, any_from, any_has, any_there, filter_all}
use Rattle.seg_words.specs.Members.{none_in_nil}
use Rattle.apcu_model.specs.declared.conf.Conf.{Conf}
use Rattle.apcu_model.specs.Cache.{Row, has_key}
use Rattle.apcu_model.specs.Change.{is_among, is_held, leaving, left_of}
use Rattle.apcu_model.specs.Rows.{are_apart}
use Rattle.apcu_model.specs.SlotOrder.{is_in_slot, in_slot_order, slot_of}

-- a row is held exactly if its place is one of those that are
pub held_is : (held : List ℕ) (row : Row) → is_held held row ≡ has row.place held
held_is held row = any_has row.place held

-- with the moment at which they were dropped
abbrev pub dated : ℕ → List Row → List Row
dated t rows = map {A = Row} (λ row. record row { dtime = t }) rows

-- one that was dropped and kept is held
pub dated_held : (held : List ℕ) (t : ℕ) (rows : List Row) (row : Row)
    → Contains (dated t (filter (is_held held) rows)) row → has row.place held ≡ true
dated_held held t rows row c =
    let some = filter (is_held held) rows in
    let r = map_there {X = Row} {Y = Row} (λ x. record x { dtime = t }) some row c in
    let f = Contains-filter (is_held held) rows r.0 r.1 in
    subst (λ n. has n held ≡ true) (ap (λ (x : Row). x.place) r.2) (sym (held_is held r.0) ∙ f.1)

-- the same rows, by slot and place
pub order_from : (conf : Conf) (rows : List Row) (row : Row)
    → Contains (in_slot_order conf rows) row → Contains rows row
order_from conf rows row c =
    let slots = range_with_len 0 conf.slots in
    let k = flat_there (λ slot. filter (is_in_slot conf slot) rows) slots row c in
    (Contains-filter (is_in_slot conf k.0) rows row k.1).0

flat_from : {X : Type 0} (f : ℕ → List X) (n a k : ℕ) (x : X) → a ≤ k → k < a + n
    → Contains (f k) x → Contains (flat_map f (range_with_len a n)) x
flat_from f zero a k x low high c = absurd (omega (arith, low, high))
flat_from f (suc n) a k x low high c =
    let rest = flat_map f (range_with_len (a + 1) n) in
    elim (cases_Bool (a == k)) [
      | inl t ↦
          let here = subst (λ j. Contains (f j) x) (sym (eqb-true a k t)) c in
          Contains-append_left (f a) rest x here
      | inr other ↦
          let apart : a ≢ k = λ e. false≢true (sym other ∙ eq-eqb a k e) in
          Contains-append_right (f a) rest x
          (flat_from f n (a + 1) k x (omega (arith, low, apart)) (omega (arith, high)) c)
    ]

slot_low : (hash slots : ℕ) → 0 < slots → hash % slots < slots
slot_low hash slots some = omega arith

-- and each of them is listed so
pub order_there : (conf : Conf) (rows : List Row) (row : Row) → 2 ≤ conf.slots
    → Contains rows row → Contains (in_slot_order conf rows) row
order_there conf rows row good c =
    let k = slot_of conf row.key in
    let low = slot_low (hash_of row.key) conf.slots (omega (arith, good)) in
    flat_from (λ slot. filter (is_in_slot conf slot) rows) conf.slots 0 k row (omega arith)
    (omega (arith, low)) (Contains-kept (is_in_slot conf k) rows row c (eq-eqb k k refl))

-- the rows that are dropped, in their order
pub leaving_from : (conf : Conf) (rows : List Row) (row : Row)
    → Contains (leaving conf rows) row → Contains rows row
unfolding leaving
leaving_from = order_from

pub leaving_there : (conf : Conf) (rows : List Row) (row : Row) → 2 ≤ conf.slots
    → Contains rows row → Contains (leaving conf rows) row
unfolding leaving
leaving_there = order_there

-- if none is dropped all are left
pub left_all : (rows : List Row) → left_of [] rows ≡ rows
unfolding is_among
left_all rows = filter_all (λ (row : Row). true) rows (λ row c. refl)

-- a dropped one is among the dropped ones
pub among_there : (gone : List Row) (row : Row) → Contains gone row → is_among gone row ≡ true
unfolding is_among
among_there gone row c =
    any_from (has_key row.key) gone row c ((bytes_eq-Decides row.key row.key).1 refl)

-- and what is among them has the key of one of them
pub among_from : (gone : List Row) (row : Row) → is_among gone row ≡ true
    → (one : Row) × Contains gone one × (one.key ≡ row.key)
unfolding is_among
among_from gone row h =
    let r = any_there (has_key row.key) gone h in
    (r.0, r.1, (bytes_eq-Decides r.0.key row.key).0 r.2)

-- of rows with different keys two with one key are the same
pub one_by_key : (rows : List Row) (p q : Row) → are_apart rows ≡ true → Contains rows p
    → Contains rows q → p.key ≡ q.key → p ≡ q
one_by_key [] p q h cp cq e = absurd (none_in_nil p cp)
one_by_key (row ∷ rows) p q h cp cq e =
    let parts = and_parts (not (list_any (has_key row.key) rows)) (are_apart rows) h in
    let other : (x : Row) → Contains rows x → x.key ≡ row.key → ⊥ =
    λ x c same. false≢true (sym (not-true (list_any (has_key row.key) rows) parts.0)
    ∙ any_from (has_key row.key) rows x c ((bytes_eq-Decides x.key row.key).1 same)) in
    elim (Contains-cases row rows p cp) [
      | inl here ↦ elim (Contains-cases row rows q cq) [
        | inl too ↦ sym here ∙ too
        | inr later ↦ absurd (other q later (sym e ∙ sym (ap (λ (x : Row). x.key) here)))
      ]
      | inr later ↦ elim (Contains-cases row rows q cq) [
        | inl here ↦ absurd (other p later (e ∙ sym (ap (λ (x : Row). x.key) here)))
        | inr too ↦ one_by_key rows p q parts.1 later too e
      ]
    ]
