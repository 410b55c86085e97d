-- The rows of a key in a list with a new row.
use Rattle.std.proofs.Common.{◌≡◌, ◌⊎◌, inl, inr, ℕ, ◌≤◌, Bool, true, false, cond, if◌then◌else◌, List, [], ◌∷◌, ◌++◌, length, map, filter, refl, sym, ap, ◌∙◌, subst, arith}
use Rattle.std.specs.Prelude.{◌||◌}
use Rattle.std.specs.List.{Contains, list_any}
use Rattle.std.proofs.lemmas.Bool.{false≢true, false_from_ne_true}
use Rattle.std.proofs.lemmas.List.{append-nil, nil_from_length}
use Rattle.std.proofs.lemmas.List.Elements.{Contains-append_cases}
use Rattle.std.proofs.lemmas.Slice.Eq.{bytes_eq-Decides}
use Rattle.seg_words.specs.Members.{Contains-cases, any_from, filter_none, map_there, none_in_nil}
use Rattle.apcu_model.specs.Cache.{Row, has_key}
use Rattle.apcu_model.specs.Change.{with_row}

key_is : (key : List ℕ) (row : Row) → has_key key row ≡ true → row.key ≡ key
key_is key row h = (bytes_eq-Decides row.key key).0 h

is_key : (key : List ℕ) (row : Row) → row.key ≡ key → has_key key row ≡ true
is_key key row h = (bytes_eq-Decides row.key key).1 h

abbrev renewed : Row → Row → Row
renewed new row = if has_key new.key row then new else row

-- a row of the list with a new one: that one, or one that was there
pub with_there : (new : Row) (rows : List Row) (r : Row) → Contains (with_row new rows) r → (new ≡ r) ⊎ Contains rows r
with_there new rows r h = go (list_any (has_key new.key) rows) h
  where
    picked : (row : Row) → (b : Bool) → (if b then new else row) ≡ r → Contains rows row → (new ≡ r) ⊎ Contains rows r
    picked row true e c = inl e
    picked row false e c = inr (subst (Contains rows) e c)

    go : (b : Bool) → Contains (if b then map {A = Row} (renewed new) rows else rows ++ new ∷ []) r → (new ≡ r) ⊎ Contains rows r
    go true q = let x = map_there (renewed new) rows r q in picked x.0 (has_key new.key x.0) x.2 x.1
    go false q = elim (Contains-append_cases rows (new ∷ []) r q) [
      | inl l ↦ inr l
      | inr l ↦ elim (Contains-cases new [] r l) [ inl e ↦ inl e | inr m ↦ absurd (none_in_nil r m) ]
    ]

filter_join : (p : Row → Bool) (rows : List Row) (new : Row) → filter p (rows ++ new ∷ []) ≡ filter p rows ++ cond (p new) (new ∷ []) []
filter_join p [] new = refl
filter_join p (row ∷ rows) new = at (p row) (filter_join p rows new)
  where
    at : (b : Bool) → filter p (rows ++ new ∷ []) ≡ filter p rows ++ cond (p new) (new ∷ []) []
        → cond b (row ∷ filter p (rows ++ new ∷ [])) (filter p (rows ++ new ∷ [])) ≡ cond b (row ∷ filter p rows) (filter p rows) ++ cond (p new) (new ∷ []) []
    at true later = ap (λ (l : List Row). row ∷ l) later
    at false later = later

-- under other keys there are the rows that were there
pub filter_other : (key : List ℕ) (new : Row) (rows : List Row) → has_key key new ≡ false → filter (has_key key) (with_row new rows) ≡ filter (has_key key) rows
filter_other key new rows other = go (list_any (has_key new.key) rows)
  where
    differs : (row : Row) → has_key new.key row ≡ true → has_key key row ≡ false
    differs row h = false_from_ne_true (has_key key row) (λ t. false≢true (sym other ∙ is_key key new (sym (key_is new.key row h) ∙ key_is key row t)))

    mapped : (rows : List Row) → filter (has_key key) (map (renewed new) rows) ≡ filter (has_key key) rows
    mapped [] = refl
    mapped (row ∷ rows) = at (has_key new.key row) refl (mapped rows)
      where
        rest : List Row
        rest = filter (has_key key) (map (renewed new) rows)

        at : (b : Bool) → has_key new.key row ≡ b → rest ≡ filter (has_key key) rows
            → cond (has_key key (if b then new else row)) ((if b then new else row) ∷ rest) rest ≡ filter (has_key key) (row ∷ rows)
        at true is later = ap (λ b. cond b (new ∷ rest) rest) other ∙ (later ∙ sym (ap (λ b. cond b (row ∷ filter (has_key key) rows) (filter (has_key key) rows)) (differs row is)))
        at false is later = ap (λ (l : List Row). cond (has_key key row) (row ∷ l) l) later

    go : (b : Bool) → filter (has_key key) (if b then map {A = Row} (renewed new) rows else rows ++ new ∷ []) ≡ filter (has_key key) rows
    go true = mapped rows
    go false =
        filter_join (has_key key) rows new
        ∙ (ap (λ b. filter (has_key key) rows ++ cond b (new ∷ []) []) other ∙ append-nil (filter (has_key key) rows))

-- under its own there is the new one alone, in place of one at most
pub filter_own : (new : Row) (rows : List Row) → length (filter (has_key new.key) rows) ≤ 1 → filter (has_key new.key) (with_row new rows) ≡ new ∷ []
filter_own new rows single = go (list_any (has_key new.key) rows) refl
  where
    own : Row → Bool
    own = has_key new.key

    itself : own new ≡ true
    itself = is_key new.key new refl

    none : (rows : List Row) → filter own rows ≡ [] → filter own (map (renewed new) rows) ≡ []
    none [] e = refl
    none (row ∷ rows) e = at (own row) refl e (none rows)
      where
        rest : List Row
        rest = filter own (map (renewed new) rows)

        at : (b : Bool) → own row ≡ b → cond b (row ∷ filter own rows) (filter own rows) ≡ [] → (filter own rows ≡ [] → rest ≡ [])
            → cond (own (if b then new else row)) ((if b then new else row) ∷ rest) rest ≡ []
        at true is e later = absurd (cc e)
        at false is e later = ap (λ b. cond b (row ∷ rest) rest) is ∙ later e

    once : (rows : List Row) → list_any own rows ≡ true → length (filter own rows) ≤ 1 → filter own (map (renewed new) rows) ≡ new ∷ []
    once [] some few = absurd (cc some)
    once (row ∷ rows) some few = at (own row) refl some few (once rows)
      where
        rest : List Row
        rest = filter own (map (renewed new) rows)

        at : (b : Bool) → own row ≡ b → (b || list_any own rows) ≡ true → length (cond b (row ∷ filter own rows) (filter own rows)) ≤ 1
            → (list_any own rows ≡ true → length (filter own rows) ≤ 1 → rest ≡ new ∷ [])
            → cond (own (if b then new else row)) ((if b then new else row) ∷ rest) rest ≡ new ∷ []
        at true is some few later =
            let empty : filter own rows ≡ [] = nil_from_length (filter own rows) (omega (arith, few)) in
            ap (λ b. cond b (new ∷ rest) rest) itself ∙ ap (λ (l : List Row). new ∷ l) (none rows empty)
        at false is some few later = ap (λ b. cond b (row ∷ rest) rest) is ∙ later some few

    go : (b : Bool) → list_any own rows ≡ b → filter own (if b then map {A = Row} (renewed new) rows else rows ++ new ∷ []) ≡ new ∷ []
    go true e = once rows e single
    go false e =
        let empty : filter own rows ≡ [] = filter_none own rows (λ x c. false_from_ne_true (own x) (λ t. false≢true (sym e ∙ any_from own rows x c t))) in
        filter_join own rows new ∙ (ap (λ (l : List Row). l ++ cond (own new) (new ∷ []) []) empty ∙ ap (λ b. cond b (new ∷ []) []) itself)
