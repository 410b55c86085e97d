-- No two rows with one key, and nothing that is held.
use Rattle.std.proofs.Common.{◌≡◌, ℕ, zero, suc, ◌<◌, ◌≤◌, inl, inr, ap₂, Bool, true, false, cond, not, ◌&&◌, List, [], ◌∷◌, ◌++◌, length, get_or, set, map, filter, refl, sym, ap, ◌∙◌, subst, arith}
use Rattle.std.specs.List.{Contains, list_any}
use Rattle.std.proofs.lemmas.Bool.{cases_Bool, and_parts, and_from, not-true, not_from_false, false≢true, false_from_ne_true, or_parts, or_from}
use Rattle.std.proofs.lemmas.List.Folds.{list_any-append, list_any_at}
use Rattle.std.proofs.lemmas.Slice.Eq.{bytes_eq-Decides}
use Rattle.php_graph.specs.declared.kind.Kind.{Kind}
use Rattle.apcu_model.specs.Cache.{Row, Cache, risen, has_key}
use Rattle.apcu_model.specs.Change.{expired_in, is_among, is_held, dropped, leaving, left_of, with_row, placed}
use Rattle.apcu_model.specs.Facts.{among_from, among_there, leaving_from, leaving_there, one_by_key}
use Rattle.apcu_model.specs.Expiry.{is_expired}
use Rattle.apcu_model.specs.Lookups.{touched}
use Rattle.apcu_model.specs.SlotOrder.{is_in_slot, slot_of}
use Rattle.apcu_model.specs.declared.conf.Conf.{Conf}
use Rattle.seg_words.specs.Members.{Contains-filter, Contains-kept, filter_alike, filter_none, filter_then}
use Rattle.apcu_model.specs.Rows.{are_apart, touched_at}

-- nothing is held
pub none_held : (rows : List Row) → filter (is_held []) rows ≡ []
none_held [] = refl
none_held (row ∷ rows) = none_held rows

-- the rows that are left where those that pass have gone
pub left_is : (pass : Row → Bool) (gone rows : List Row) → are_apart rows ≡ true → ((row : Row) → Contains gone row → Contains rows row × (pass row ≡ true)) → ((row : Row) → Contains rows row → pass row ≡ true → Contains gone row)
    → left_of gone rows ≡ filter (λ row. not (pass row)) rows
left_is pass gone rows apart from there =
    filter_alike (λ (row : Row). not (is_among gone row)) (λ (row : Row). not (pass row)) rows
    (λ row c. ap not (elim (cases_Bool (pass row)) [
      | inl is ↦ among_there gone row (there row c is) ∙ sym is
      | inr isnt ↦ false_from_ne_true (is_among gone row) (λ h.
          let r = among_from gone row h in
          let f = from r.0 r.1 in
          false≢true (sym isnt ∙ (ap pass (sym (one_by_key rows r.0 row apart f.0 c r.2)) ∙ f.1))) ∙ sym isnt
    ]))

pub left_passing : (pass : Row → Bool) (rows : List Row) → are_apart rows ≡ true → left_of (filter pass rows) rows ≡ filter (λ row. not (pass row)) rows
left_passing pass rows apart = left_is pass (filter pass rows) rows apart (Contains-filter pass rows) (Contains-kept pass rows)

pub left_in_order : (conf : Conf) (pass : Row → Bool) (rows : List Row) → are_apart rows ≡ true → 2 ≤ conf.slots → left_of (leaving conf (filter pass rows)) rows ≡ filter (λ row. not (pass row)) rows
left_in_order conf pass rows apart good =
    left_is pass (leaving conf (filter pass rows)) rows apart
    (λ row c. Contains-filter pass rows row (leaving_from conf (filter pass rows) row c))
    (λ row c is. leaving_there conf (filter pass rows) row good (Contains-kept pass rows row c is))

-- no row is left if all were dropped
pub left_none : (conf : Conf) (rows : List Row) → 2 ≤ conf.slots → left_of (leaving conf rows) rows ≡ []
left_none conf rows good = filter_none (λ (row : Row). not (is_among (leaving conf rows) row)) rows (λ row c. ap not (among_there (leaving conf rows) row (leaving_there conf rows row good c)))

pub dropped_in : (t : ℕ) (gone left : List Row) (c : Cache) → left_of gone c.rows ≡ left → dropped [] t gone (record c { removed = [] }) ≡ record c { rows = left; removed = [] }
dropped_in t gone left c are =
    ap₂
    (λ (rows removed : List Row). let d : Cache = record c { rows = rows; removed = removed } in d)
    are
    (ap (map {A = Row} {B = Row} (λ row. record row { dtime = t })) (none_held gone))

pub key_is : (key : List ℕ) (row : Row) → has_key key row ≡ true → row.key ≡ key
key_is key row h = (bytes_eq-Decides row.key key).0 h

pub key_other : (row other : Row) → has_key row.key other ≡ false → has_key other.key row ≡ false
key_other row other h =
    false_from_ne_true (has_key other.key row) (λ e. let same = key_is other.key row e in
    false≢true (sym h ∙ (bytes_eq-Decides other.key row.key).1 (sym same)))

-- a filter keeps rows apart
pub none-filter : (p q : Row → Bool) (rows : List Row) → list_any q rows ≡ false → list_any q (filter p rows) ≡ false
none-filter p q [] h = refl
none-filter p q (row ∷ rows) h =
    let parts = or_parts (q row) (list_any q rows) h in
    elim (p row) as (λ v. list_any q (cond v (row ∷ filter p rows) (filter p rows)) ≡ false) [
      | true ↦ or_from (q row) (list_any q (filter p rows)) parts.0 (none-filter p q rows parts.1)
      | false ↦ none-filter p q rows parts.1
    ]

pub are_apart-filter : (p : Row → Bool) (rows : List Row) → are_apart rows ≡ true → are_apart (filter p rows) ≡ true
are_apart-filter p [] h = refl
are_apart-filter p (row ∷ rows) h =
    let parts = and_parts (not (list_any (has_key row.key) rows)) (are_apart rows) h in
    let rest = are_apart-filter p rows parts.1 in
    let none = none-filter p (has_key row.key) rows (not-true (list_any (has_key row.key) rows) parts.0) in
    elim (p row) as (λ v. are_apart (cond v (row ∷ filter p rows) (filter p rows)) ≡ true) [
      | true ↦ and_from (not (list_any (has_key row.key) (filter p rows))) (are_apart (filter p rows)) (not_from_false (list_any (has_key row.key) (filter p rows)) none) rest
      | false ↦ rest
    ]

-- a change that keeps keys keeps rows apart
pub any-map : (f : Row → Row) (keeps : (row : Row) → (f row).key ≡ row.key) (key : List ℕ) (rows : List Row) → list_any (has_key key) (map f rows) ≡ list_any (has_key key) rows
any-map f keeps key [] = refl
any-map f keeps key (row ∷ rows) =
    rw (any-map f keeps key rows, keeps row) refl

pub are_apart-map : (f : Row → Row) (keeps : (row : Row) → (f row).key ≡ row.key) (rows : List Row) → are_apart (map f rows) ≡ are_apart rows
are_apart-map f keeps [] = refl
are_apart-map f keeps (row ∷ rows) =
    rw (are_apart-map f keeps rows, keeps row, any-map f keeps row.key rows) refl

pub touched_key : (key : List ℕ) (t : ℕ) (row : Row) → (touched_at key t row).key ≡ row.key
touched_key key t row = elim (has_key key row) as (λ v. (cond v (touched t row) row).key ≡ row.key) [ true ↦ refl | false ↦ refl ]

-- one more row whose key is new
pub are_apart-push : (rows : List Row) (new : Row) → are_apart rows ≡ true → list_any (has_key new.key) rows ≡ false → are_apart (rows ++ new ∷ []) ≡ true
are_apart-push [] new h none = refl
are_apart-push (row ∷ rows) new h none =
    let parts = and_parts (not (list_any (has_key row.key) rows)) (are_apart rows) h in
    let after_sweep = or_parts (has_key new.key row) (list_any (has_key new.key) rows) none in
    let rest = are_apart-push rows new parts.1 after_sweep.1 in
    let apart : list_any (has_key row.key) (rows ++ new ∷ []) ≡ false =
    list_any-append (has_key row.key) rows (new ∷ []) ∙ or_from (list_any (has_key row.key) rows) (list_any (has_key row.key) (new ∷ [])) (not-true (list_any (has_key row.key) rows) parts.0) (or_from (has_key row.key new) false (key_other new row after_sweep.0) refl) in
    and_from (not (list_any (has_key row.key) (rows ++ new ∷ []))) (are_apart (rows ++ new ∷ [])) (not_from_false (list_any (has_key row.key) (rows ++ new ∷ [])) apart) rest

abbrev pub replaced : Row → Row → Row
replaced new row = cond (has_key new.key row) new row

pub replaced_key : (new row : Row) → (replaced new row).key ≡ row.key
replaced_key new row =
    elim (has_key new.key row) as (λ v. has_key new.key row ≡ v → (cond v new row).key ≡ row.key) [
      | true ↦ λ e. sym (key_is new.key row e)
      | false ↦ λ _. refl
    ] refl

-- where no row has the key, nothing is replaced
pub replaced_none : (new : Row) (rows : List Row) → list_any (has_key new.key) rows ≡ false → map (replaced new) rows ≡ rows
replaced_none new [] h = refl
replaced_none new (row ∷ rows) h =
    let parts = or_parts (has_key new.key row) (list_any (has_key new.key) rows) h in
    rw (parts.0, replaced_none new rows parts.1) refl

-- the one row of the key is replaced
pub set-replaced : (new : Row) (rows : List Row) (i : ℕ) → are_apart rows ≡ true → i < length rows → ((d : Row) → has_key new.key (get_or rows i d) ≡ true) → set rows i new ≡ map (replaced new) rows
set-replaced new [] i h l at = absurd (omega arith)
set-replaced new (row ∷ rows) zero h l at =
    let parts = and_parts (not (list_any (has_key row.key) rows)) (are_apart rows) h in
    let here : has_key new.key row ≡ true = at row in
    let same : row.key ≡ new.key = key_is new.key row here in
    let none : list_any (has_key new.key) rows ≡ false = subst (λ k. list_any (has_key k) rows ≡ false) same (not-true (list_any (has_key row.key) rows) parts.0) in
    rw (here, replaced_none new rows none) refl
set-replaced new (row ∷ rows) (suc i) h l at =
    let parts = and_parts (not (list_any (has_key row.key) rows)) (are_apart rows) h in
    let later : (d : Row) → has_key new.key (get_or rows i d) ≡ true = λ d. at d in
    let here : has_key new.key row ≡ false = false_from_ne_true (has_key new.key row) (λ e. let same : row.key ≡ new.key = key_is new.key row e in
    let found : list_any (has_key new.key) rows ≡ true = list_any_at (has_key new.key) rows i row (omega arith) (later row) in
    false≢true (sym (subst (λ k. list_any (has_key k) rows ≡ false) same (not-true (list_any (has_key row.key) rows) parts.0)) ∙ found)) in
    rw (here, set-replaced new rows i parts.1 (omega arith) later) refl

pub with_row-set : (new : Row) (rows : List Row) (i : ℕ) → are_apart rows ≡ true → i < length rows → ((d : Row) → has_key new.key (get_or rows i d) ≡ true) → set rows i new ≡ with_row new rows
with_row-set new rows i h l at =
    let found : list_any (has_key new.key) rows ≡ true = list_any_at (has_key new.key) rows i new l (at new) in
    rw found (set-replaced new rows i h l at)

pub are_apart-with_row : (new : Row) (rows : List Row) → are_apart rows ≡ true → are_apart (with_row new rows) ≡ true
are_apart-with_row new rows h =
    elim (list_any (has_key new.key) rows) as (λ v. list_any (has_key new.key) rows ≡ v → are_apart (cond v (map (replaced new) rows) (rows ++ new ∷ [])) ≡ true) [
      | true ↦ λ _. are_apart-map (replaced new) (replaced_key new) rows ∙ h
      | false ↦ λ e. are_apart-push rows new h e
    ] refl
