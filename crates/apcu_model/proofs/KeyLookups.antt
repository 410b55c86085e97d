-- Of rows that are apart, a look-up finds the only one of its key.
use Rattle.std.proofs.Common.{◌≡◌, ℕ, Bool, true, false, not, ◌&&◌, ◌||◌, cond, List, [], ◌∷◌, Some, refl, ap, sym, ◌∙◌, subst, inl, inr}
use Rattle.std.specs.Prelude.{Contains, find}
use Rattle.std.specs.List.{list_any}
use Rattle.std.proofs.lemmas.Bool.{and_parts, false≢true, not-true}
use Rattle.seg_words.specs.Members.{Contains-cases, Contains-first, Contains-later, none_in_nil}
use Rattle.apcu_model.specs.Cache.{Row, Cache, has_key}
use Rattle.apcu_model.specs.Expiry.{is_hard_expired, live_row}
use Rattle.apcu_model.specs.Rows.{are_apart}
use Rattle.apcu_model.proofs.RowsApart.{key_is}

any_there : (key : List ℕ) (rows : List Row) (row : Row) → Contains rows row → has_key key row ≡ true → list_any (has_key key) rows ≡ true
any_there key [] row c e = absurd (none_in_nil row c)
any_there key (x ∷ rows) row c e = elim (Contains-cases x rows row c) [
  | inl same ↦ ap (λ b. b || list_any (has_key key) rows) (ap (has_key key) same ∙ e)
  | inr later ↦ go (has_key key x) (any_there key rows row later e)
]
  where
    go : (b : Bool) → list_any (has_key key) rows ≡ true → (b || list_any (has_key key) rows) ≡ true
    go true h = refl
    go false h = h

-- no row after the one of the key has it
none_later : (key : List ℕ) (x : Row) (rows : List Row) (row : Row) → are_apart (x ∷ rows) ≡ true → has_key key x ≡ true → Contains rows row → has_key key row ≡ true → ⊥
none_later key x rows row h first there e =
    let parts = and_parts (not (list_any (has_key x.key) rows)) (are_apart rows) h in
    let none : list_any (has_key key) rows ≡ false = subst (λ k. list_any (has_key k) rows ≡ false) (key_is key x first) (not-true (list_any (has_key x.key) rows) parts.0) in
    false≢true (sym none ∙ any_there key rows row there e)

-- what is found is there, and passes
pub found_there : (p : Row → Bool) (rows : List Row) (row : Row) → find p rows ≡ Some row → Contains rows row × (p row ≡ true)
found_there p [] row h = absurd (cc h)
found_there p (x ∷ rows) row h = go (p x) refl (found_there p rows row) h
  where
    go : (b : Bool) → p x ≡ b → (find p rows ≡ Some row → Contains rows row × (p row ≡ true)) → cond b (Some x) (find p rows) ≡ Some row → Contains (x ∷ rows) row × (p row ≡ true)
    go true is later q = let e : x ≡ row = cc q in (subst (λ z. Contains (x ∷ rows) z) e (Contains-first x rows), ap p (sym e) ∙ is)
    go false is later q = let k = later q in (Contains-later x rows row k.0, k.1)

abbrev Passes : List ℕ → ℕ → Row → Bool
Passes key t row = has_key key row && not (is_hard_expired t row)

one_found : (key : List ℕ) (t : ℕ) (rows : List Row) → are_apart rows ≡ true → (row : Row) → find (Passes key t) rows ≡ Some row → (x : Row) → Contains rows x → has_key key x ≡ true → x ≡ row
one_found key t [] h row found x there e = absurd (none_in_nil x there)
one_found key t (y ∷ rows) h row found x there e =
    let parts = and_parts (not (list_any (has_key y.key) rows)) (are_apart rows) h in
    go (has_key key y) refl (not (is_hard_expired t y)) (λ q later. one_found key t rows parts.1 row q x later e) found
  where
    first : has_key key y ≡ true → y ≡ x
    first a = elim (Contains-cases y rows x there) [ inl same ↦ same | inr later ↦ absurd (none_later key y rows x h a later e) ]

    go : (a : Bool) → has_key key y ≡ a → (b : Bool) → (find (Passes key t) rows ≡ Some row → Contains rows x → x ≡ row) → cond (a && b) (Some y) (find (Passes key t) rows) ≡ Some row → x ≡ row
    go true a true more q = let same : y ≡ row = cc q in sym (first a) ∙ same
    go true a false more q =
        let k = found_there (Passes key t) rows row q in
        absurd (none_later key y rows row h a k.0 (and_parts (has_key key row) (not (is_hard_expired t row)) k.1).0)
    go false a b more q = elim (Contains-cases y rows x there) [ inl same ↦ absurd (false≢true (sym a ∙ (ap (has_key key) same ∙ e))) | inr later ↦ more q later ]

pub one_of_key : (key : List ℕ) (t : ℕ) (c : Cache) → are_apart c.rows ≡ true → (row : Row) → live_row key t c ≡ Some row → (x : Row) → Contains c.rows x → has_key key x ≡ true → x ≡ row
one_of_key key t c h row live x there e = one_found key t c.rows h row live x there e
