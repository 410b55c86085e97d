-- Rows of a list: those with a key, those that a look-up finds, and those of a list with a new row.
use Rattle.std.proofs.Common.{◌≡◌, ◌≢◌, ◌==◌, ℕ, zero, suc, ◌+◌, ◌%◌, ◌<◌, ◌≤◌, arith, filter, ◌&&◌, ◌⊎◌, inl, inr, Bool, true, false, not, cond, if◌then◌else◌, List, [], ◌∷◌, ◌++◌, map, Some, refl, ap, sym, ◌∙◌, subst}
use Rattle.std.specs.Prelude.{Contains, find}
use Rattle.std.specs.List.{flat_map, list_any, range_with_len}
use Rattle.std.proofs.lemmas.Bool.{and_parts, cases_Bool, eq-eqb, eqb-true, false≢true, not-true}
use Rattle.std.proofs.lemmas.List.Elements.{Contains-append_cases, Contains-append_left, Contains-append_right}
use Rattle.std.proofs.lemmas.Slice.Eq.{bytes_eq-Decides}
use Rattle.seg_words.specs.Members.{Contains-cases, Contains-first, Contains-later, Contains-kept, any_from, map_there, none_in_nil}
use Rattle.php_graph.specs.Numbers.{hash_of}
use Rattle.apcu_model.specs.declared.conf.Conf.{Conf}
use Rattle.apcu_model.specs.Cache.{Row, Cache, has_key}
use Rattle.apcu_model.specs.Change.{leaving, with_row}
use Rattle.apcu_model.specs.Expiry.{is_hard_expired, live_row}
use Rattle.apcu_model.specs.Rows.{are_apart}
use Rattle.apcu_model.specs.SlotOrder.{is_in_slot, slot_of}

pub key_is : (key : List ℕ) (row : Row) → has_key key row ≡ true → row.key ≡ key
key_is key row h = (bytes_eq-Decides row.key key).0 h

pub is_key : (key : List ℕ) (row : Row) → row.key ≡ key → has_key key row ≡ true
is_key key row h = (bytes_eq-Decides row.key key).1 h

-- no row after the one of the key has it
none_later : (key : List ℕ) (x : Row) (rows : List Row) (row : Row) → are_apart (x ∷ rows) ≡ true → has_key key x ≡ true → Contains rows row → has_key key row ≡ true → ⊥
none_later key x rows row h first there e =
    let parts = and_parts (not (list_any (has_key x.key) rows)) (are_apart rows) h in
    let none : list_any (has_key key) rows ≡ false = subst (λ k. list_any (has_key k) rows ≡ false) (key_is key x first) (not-true (list_any (has_key x.key) rows) parts.0) in
    false≢true (sym none ∙ any_from (has_key key) rows row there e)

-- of rows that are apart, two of one key are one
pub one_of_key : (key : List ℕ) (rows : List Row) → are_apart rows ≡ true → (p q : Row) → Contains rows p → Contains rows q → p.key ≡ key → q.key ≡ key → p ≡ q
one_of_key key [] h p q a b e f = absurd (none_in_nil p a)
one_of_key key (x ∷ rows) h p q a b e f =
    let parts = and_parts (not (list_any (has_key x.key) rows)) (are_apart rows) h in
    elim (Contains-cases x rows p a) [
      | inl first ↦ elim (Contains-cases x rows q b) [
        | inl same ↦ sym first ∙ same
        | inr later ↦ absurd (none_later key x rows q h (is_key key x (ap (λ (r : Row). r.key) first ∙ e)) later (is_key key q f))
      ]
      | inr first ↦ elim (Contains-cases x rows q b) [
        | inl same ↦ absurd (none_later key x rows p h (is_key key x (ap (λ (r : Row). r.key) same ∙ f)) first (is_key key p e))
        | inr later ↦ one_of_key key rows parts.1 p q first later e f
      ]
    ]

-- what is found is there, and passes
pub found_there : (p : Row → Bool) (rows : List Row) (row : Row) → find p rows ≡ Some row → Contains rows row × (p row ≡ true)
found_there p [] row h = absurd (cc h)
found_there p (x ∷ rows) row h = go (p x) refl (found_there p rows row) h
  where
    go : (b : Bool) → p x ≡ b → (find p rows ≡ Some row → Contains rows row × (p row ≡ true)) → cond b (Some x) (find p rows) ≡ Some row → Contains (x ∷ rows) row × (p row ≡ true)
    go true is later q = let e : x ≡ row = cc q in (subst (λ z. Contains (x ∷ rows) z) e (Contains-first x rows), ap p (sym e) ∙ is)
    go false is later q = let k = later q in (Contains-later x rows row k.0, k.1)

-- the live row of a key is there, and has the key
pub live_there : (key : List ℕ) (t : ℕ) (c : Cache) (row : Row) → live_row key t c ≡ Some row → Contains c.rows row × (row.key ≡ key)
live_there key t c row live =
    let k = found_there (λ row. has_key key row && not (is_hard_expired t row)) c.rows row live in
    (k.0, key_is key row (and_parts (has_key key row) (not (is_hard_expired t row)) k.1).0)

-- a row of the list with a new one: that one, or one of another key that was there
pub with_there : (new : Row) (rows : List Row) (r : Row) → Contains (with_row new rows) r → (new ≡ r) ⊎ (Contains rows r × (has_key new.key r ≡ false))
with_there new rows r h = go (list_any (has_key new.key) rows) refl h
  where
    picked : (row : Row) → (b : Bool) → has_key new.key row ≡ b → (if b then new else row) ≡ r → Contains rows row → (new ≡ r) ⊎ (Contains rows r × (has_key new.key r ≡ false))
    picked row true is e c = inl e
    picked row false is e c = inr (subst (Contains rows) e c, subst (λ x. has_key new.key x ≡ false) e is)

    go : (b : Bool) → list_any (has_key new.key) rows ≡ b → Contains (if b then map {A = Row} (λ row. if has_key new.key row then new else row) rows else rows ++ new ∷ []) r
        → (new ≡ r) ⊎ (Contains rows r × (has_key new.key r ≡ false))
    go true is q = let f : Row → Row = λ row. if has_key new.key row then new else row in let x = map_there f rows r q in picked x.0 (has_key new.key x.0) refl x.2 x.1
    go false is q = elim (Contains-append_cases rows (new ∷ []) r q) [
      | inl l ↦ inr (l, other (has_key new.key r) refl l)
      | inr l ↦ elim (Contains-cases new [] r l) [ inl e ↦ inl e | inr m ↦ absurd (none_in_nil r m) ]
    ]
      where
        other : (b : Bool) → has_key new.key r ≡ b → Contains rows r → has_key new.key r ≡ false
        other true e l = absurd (false≢true (sym is ∙ any_from (has_key new.key) rows r l e))
        other false e l = e

-- all rows go where all leave, if there is a slot at all
slot_low : (hash slots : ℕ) → 1 ≤ slots → hash % slots < slots
slot_low hash slots some = omega (arith, some)

flat_from : (f : ℕ → List Row) (n a k : ℕ) (row : Row) → a ≤ k → k < a + n → Contains (f k) row → Contains (flat_map f (range_with_len a n)) row
flat_from f zero a k row low high h = absurd (omega (arith, low, high))
flat_from f (suc n) a k row low high h =
    let rest = flat_map f (range_with_len (a + 1) n) in
    elim (cases_Bool (a == k)) [
      | inl same ↦ Contains-append_left (f a) rest row (subst (λ j. Contains (f j) row) (sym (eqb-true a k same)) h)
      | inr other ↦
          let apart : a ≢ k = λ e. false≢true (sym other ∙ eq-eqb a k e) in
          Contains-append_right (f a) rest row (flat_from f n (a + 1) k row (omega (arith, low, apart)) (omega (arith, high)) h)
    ]

pub all_leave : (conf : Conf) (rows : List Row) (row : Row) → 1 ≤ conf.slots → Contains rows row → Contains (leaving conf rows) row
unfolding leaving
all_leave conf rows row some h =
    let k = slot_of conf row.key in
    flat_from (λ slot. filter (is_in_slot conf slot) rows) conf.slots 0 k row (omega arith) (omega (arith, slot_low (hash_of row.key) conf.slots some))
    (Contains-kept (is_in_slot conf k) rows row h (eq-eqb k k refl))
