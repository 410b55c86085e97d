-- The row that a look-up finds is the one of its key.
use Rattle.std.proofs.Common.{◌≡◌, ℕ, Bool, true, false, cond, not, ◌&&◌, List, [], ◌∷◌, find, Option, Some, None, refl, sym, ap, ◌∙◌, subst}
use Rattle.std.specs.Prelude.{is_some, option_map, IfSome, IfNone}
use Rattle.std.specs.List.{Contains, list_any}
use Rattle.std.proofs.lemmas.Bool.{and_parts, or_parts, not-true}
use Rattle.apcu_model.specs.Cache.{Row, has_key}
use Rattle.apcu_model.specs.Expiry.{is_hard_expired}
use Rattle.apcu_model.specs.Rows.{are_apart}
use Rattle.seg_words.specs.Members.{Contains-first, Contains-filter}
use Rattle.apcu_model.specs.Cache.{Cache}
use Rattle.apcu_model.specs.Expiry.{live_row}
use Rattle.entry_slots.specs.Facts.{IsSound}
use Rattle.entry_slots.specs.Entries.{Entries}
use Rattle.cache_core.specs.Looking.{IsFound}
use Rattle.cache_core.proofs.ReplacedRows.{IsOld, key_is, old_is}

abbrev found : List ℕ → ℕ → List Row → Option Row
found key t rows = find (λ row. has_key key row && not (is_hard_expired t row)) rows

none_lives : (key : List ℕ) (t : ℕ) (rows : List Row) → list_any (has_key key) rows ≡ false → found key t rows ≡ None
none_lives key t [] h = refl
none_lives key t (row ∷ rows) h =
    let parts = or_parts (has_key key row) (list_any (has_key key) rows) h in
    ap (λ b. cond (b && not (is_hard_expired t row)) (Some row) (found key t rows)) parts.0 ∙ none_lives key t rows parts.1

-- no row has the key
pub not_live : (key : List ℕ) (t : ℕ) (rows : List Row) → find (has_key key) rows ≡ None → found key t rows ≡ None
not_live key t [] h = refl
not_live key t (row ∷ rows) h = go (has_key key row) refl h (not_live key t rows)
  where
    go : (b : Bool) → has_key key row ≡ b → cond b (Some row) (find (has_key key) rows) ≡ None → (find (has_key key) rows ≡ None → found key t rows ≡ None) → found key t (row ∷ rows) ≡ None
    go true e q on = absurd (cc q)
    go false e q on = ap (λ b. cond (b && not (is_hard_expired t row)) (Some row) (found key t rows)) e ∙ on q

-- the row of the key is found unless it has expired
pub live_as : (key : List ℕ) (t : ℕ) (rows : List Row) (row : Row) → are_apart rows ≡ true → find (has_key key) rows ≡ Some row → found key t rows ≡ cond (not (is_hard_expired t row)) (Some row) None
live_as key t [] row apart h = absurd (cc h)
live_as key t (r ∷ rows) row apart h = go (has_key key r) refl h (live_as key t rows row parts.1)
  where
    parts : (not (list_any (has_key r.key) rows) ≡ true) × (are_apart rows ≡ true)
    parts = and_parts (not (list_any (has_key r.key) rows)) (are_apart rows) apart

    go : (b : Bool) → has_key key r ≡ b → cond b (Some r) (find (has_key key) rows) ≡ Some row → (find (has_key key) rows ≡ Some row → found key t rows ≡ cond (not (is_hard_expired t row)) (Some row) None)
        → found key t (r ∷ rows) ≡ cond (not (is_hard_expired t row)) (Some row) None
    go true e q on =
        let same : r ≡ row = cc q in
        let none : list_any (has_key key) rows ≡ false = subst (λ k. list_any (has_key k) rows ≡ false) (key_is key r e) (not-true (list_any (has_key r.key) rows) parts.0) in
        ap (λ b. cond (b && not (is_hard_expired t r)) (Some r) (found key t rows)) e
        ∙ (ap (λ o. cond (not (is_hard_expired t r)) (Some r) o) (none_lives key t rows none)
        ∙ ap (λ (x : Row). cond (not (is_hard_expired t x)) (Some x) None) same)
    go false e q on = ap (λ b. cond (b && not (is_hard_expired t r)) (Some r) (found key t rows)) e ∙ on q

-- whether one is found
pub found_some : (key : List ℕ) (t : ℕ) (c : Cache) (r : Option ℕ) → IfSome r (λ at. IsFound key t c at) → IfNone r (live_row key t c ≡ None)
    → is_some r ≡ is_some (live_row key t c)
found_some key t c None some none = ap is_some (sym none)
found_some key t c (Some at) some none = ap is_some (sym some.live)

-- the one that is found is the one of its key
pub old_found : {key : List ℕ} {t at : ℕ} {c : Cache} {s : Entries} {words windows : List ℕ} → IsFound key t c at → s.rows ≡ c.rows → IsSound s words windows
    → IsOld s key at
old_found {key = key} {at = at} {s = s} f same sound =
    old_is key at sound (sym (ap (λ rows. option_map (λ (row : Row). row.place) (find (has_key key) rows)) same ∙ (ap (option_map (λ (row : Row). row.place)) f.first ∙ ap (λ n. Some n) f.is_row.place)))

-- the row that is found, from the one of its key
pub found_old : {key : List ℕ} {t at : ℕ} {c : Cache} {s : Entries} {words windows : List ℕ} → (o : IsOld s key at) → s.rows ≡ c.rows → IsSound s words windows
    → is_hard_expired t o.row ≡ false → IsFound key t c at
found_old {key = key} {t = t} {c = c} {s = s} o same sound over =
    let first : find (has_key key) c.rows ≡ Some o.row = ap (find (has_key key)) (sym same) ∙ o.found in
    let has = Contains-filter (has_key key) s.rows o.row (subst (λ l. Contains l o.row) (sym o.one) (Contains-first o.row [])) in
    record {
      row = o.row;
      live = ap (found key t) (sym same) ∙ live_as key t s.rows o.row sound.apart o.found ∙ ap (λ b. cond (not b) (Some o.row) None) over;
      first = first;
      is_row = record { there = subst (λ rows. Contains rows o.row) same o.there; place = o.place; key_is = key_is key o.row has.1 };
    }

-- none is, if that row has expired
pub over_old : {key : List ℕ} {at : ℕ} {s : Entries} {words windows : List ℕ} → (t : ℕ) → (o : IsOld s key at) → IsSound s words windows
    → is_hard_expired t o.row ≡ true → found key t s.rows ≡ None
over_old {key = key} {s = s} t o sound over =
    live_as key t s.rows o.row sound.apart o.found ∙ ap (λ b. cond (not b) (Some o.row) None) over

-- a row that a look-up finds is the first of its key
pub live_first : (key : List ℕ) (t : ℕ) (rows : List Row) (row : Row) → are_apart rows ≡ true → found key t rows ≡ Some row → find (has_key key) rows ≡ Some row
live_first key t rows row apart h = go (find (has_key key) rows) refl
  where
    pick : (r : Row) (b : Bool) → cond b (Some r) None ≡ Some row → Some r ≡ Some row
    pick r true q = q
    pick r false q = absurd (cc q)

    go : (o : Option Row) → find (has_key key) rows ≡ o → find (has_key key) rows ≡ Some row
    go None e = let none : None ≡ Some row = sym (not_live key t rows e) ∙ h in absurd (cc none)
    go (Some r) e = e ∙ pick r (not (is_hard_expired t r)) (sym (live_as key t rows r apart e) ∙ h)

-- and the one of its key in sound entries
pub old_live : {s : Entries} {words windows : List ℕ} (key : List ℕ) (t at : ℕ) (row : Row) → IsSound s words windows → found key t s.rows ≡ Some row → row.place ≡ at → IsOld s key at
old_live {s} key t at row sound live place =
    old_is key at sound (sym (ap (option_map (λ (row : Row). row.place)) (live_first key t s.rows row sound.apart live) ∙ ap (λ n. Some n) place))
