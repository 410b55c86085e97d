-- Lists of rows.
use Rattle.std.proofs.Common.{◌≡◌, ℕ, ◌+◌, ◌≤◌, Bool, true, false, cond, not, inl, inr, List, [], ◌∷◌, ◌++◌, filter, refl, sym, ap, ◌∙◌, subst, arith}
use Rattle.std.proofs.lemmas.Bool.{cases_Bool, false≢true, false_from_ne_true, or_parts, eqb-true, eq-eqb}
use Rattle.std.specs.List.{Contains, count_by}
use Rattle.std.proofs.lemmas.List.Elements.{filter-append}
use Rattle.seg_words.specs.Members.{Contains-cases, Contains-first, count-cons, count-append, counted_some, filter_alike, none_counted, none_in_nil}
use Rattle.apcu_model.specs.Cache.{Row}
use Rattle.apcu_model.specs.Change.{is_among, left_of}
use Rattle.apcu_model.specs.Facts.{among_from, among_there, one_by_key}
use Rattle.apcu_model.specs.Rows.{are_apart}
use Rattle.entry_slots.specs.Lists.{is_at, has_place, without_place, first_place, place_after}
use Rattle.entry_slots.specs.RowPlaces.{without_none}
use Rattle.ttl_expunge.specs.Lists.{rows_from}

pub without_middle : (at : ℕ) (front : List Row) (row : Row) (more : List Row) → has_place at front ≡ false → row.place ≡ at → has_place at more ≡ false
    → without_place at (front ++ row ∷ more) ≡ front ++ more
without_middle at front row more before here behind =
    filter-append (λ (r : Row). not (is_at at r)) front (row ∷ more)
    ∙ (ap (λ l. l ++ filter (λ (r : Row). not (is_at at r)) (row ∷ more)) (without_none at front before)
    ∙ ap (λ l. front ++ l) (ap (λ b. cond (not b) (row ∷ without_place at more) (without_place at more)) (eq-eqb row.place at here) ∙ without_none at more behind))

pub next_in : (at : ℕ) (front : List Row) (row : Row) (more : List Row) → has_place at front ≡ false → row.place ≡ at → place_after at (front ++ row ∷ more) ≡ first_place more
next_in at [] row more none here = ap (λ b. cond b (first_place more) (place_after at more)) (eq-eqb row.place at here)
next_in at (r ∷ front) row more none here =
    let parts = or_parts (is_at at r) (has_place at front) none in
    ap (λ b. cond b (first_place (front ++ row ∷ more)) (place_after at (front ++ row ∷ more))) parts.0 ∙ next_in at front row more parts.1 here

pub from_in : (at : ℕ) (front : List Row) (row : Row) (more : List Row) → has_place at front ≡ false → row.place ≡ at → rows_from at (front ++ row ∷ more) ≡ row ∷ more
from_in at [] row more none here = ap (λ b. cond b (row ∷ more) (rows_from at more)) (eq-eqb row.place at here)
from_in at (r ∷ front) row more none here =
    let parts = or_parts (is_at at r) (has_place at front) none in
    ap (λ b. cond b (r ∷ (front ++ row ∷ more)) (rows_from at (front ++ row ∷ more))) parts.0 ∙ from_in at front row more parts.1 here

pub from_none : (at : ℕ) (rows : List Row) → has_place at rows ≡ false → rows_from at rows ≡ []
from_none at [] none = refl
from_none at (r ∷ rows) none =
    let parts = or_parts (is_at at r) (has_place at rows) none in
    ap (λ b. cond b (r ∷ rows) (rows_from at rows)) parts.0 ∙ from_none at rows parts.1

-- the places in a list in which one row at most has each
pub record IsAlone (at : ℕ) (front : List Row) (row : Row) (more : List Row) : Type 0 where
  pub before : has_place at front ≡ false
  pub behind : has_place at more ≡ false

pub alone : (at : ℕ) (front : List Row) (row : Row) (more : List Row) → row.place ≡ at → count_by (is_at at) (front ++ row ∷ more) ≤ 1 → IsAlone at front row more
alone at front row more here few =
    let one : cond {A = ℕ} (is_at at row) 1 0 ≡ 1 = ap (λ (b : Bool). cond {A = ℕ} b 1 0) (eq-eqb row.place at here) in
    let all = count-append (is_at at) front (row ∷ more) in
    let both = count-cons (is_at at) row more in
    record {
      before = none_counted (is_at at) front (omega (arith, few, all, both, one));
      behind = none_counted (is_at at) more (omega (arith, few, all, both, one));
    }

-- two rows at one place are one
pub one_of : (x : ℕ) (rows : List Row) (p q : Row) → count_by (is_at x) rows ≤ 1 → Contains rows p → Contains rows q → p.place ≡ x → q.place ≡ x → p ≡ q
one_of x [] p q few cp cq ep eq' = absurd (omega (arith, cp.1))
one_of x (row ∷ rows) p q few cp cq ep eq' = elim (Contains-cases row rows p cp) [
  | inl here ↦ elim (Contains-cases row rows q cq) [
    | inl too ↦ sym here ∙ too
    | inr later ↦
        let one : cond {A = ℕ} (is_at x row) 1 0 ≡ 1 = ap (λ (b : Bool). cond {A = ℕ} b 1 0) (eq-eqb row.place x (ap (λ (r : Row). r.place) here ∙ ep)) in
        absurd (omega (arith, few, one, count-cons (is_at x) row rows, counted_some (is_at x) rows q later (eq-eqb q.place x eq')))
  ]
  | inr later ↦ elim (Contains-cases row rows q cq) [
    | inl here ↦
        let one : cond {A = ℕ} (is_at x row) 1 0 ≡ 1 = ap (λ (b : Bool). cond {A = ℕ} b 1 0) (eq-eqb row.place x (ap (λ (r : Row). r.place) here ∙ eq')) in
        absurd (omega (arith, few, one, count-cons (is_at x) row rows, counted_some (is_at x) rows p later (eq-eqb p.place x ep)))
    | inr too ↦ one_of x rows p q (omega (arith, few, count-cons (is_at x) row rows)) later too ep eq'
  ]
]

-- the rows without one of them, by its key and by its place
pub left_one : (at : ℕ) (rows : List Row) (row : Row) → are_apart rows ≡ true → Contains rows row → row.place ≡ at → count_by (is_at at) rows ≤ 1 → left_of (row ∷ []) rows ≡ without_place at rows
left_one at rows row apart there place few = filter_alike (λ (r : Row). not (is_among (row ∷ []) r)) (λ (r : Row). not (is_at at r)) rows (λ r c. ap not (same r c))
  where
    only : (r : Row) → Contains (row ∷ []) r → row ≡ r
    only r c = elim (Contains-cases row [] r c) [ inl e ↦ e | inr none ↦ absurd (none_in_nil r none) ]

    same : (r : Row) → Contains rows r → is_among (row ∷ []) r ≡ is_at at r
    same r c = elim (cases_Bool (is_at at r)) [
      | inl here ↦
          let e : row ≡ r = one_of at rows row r few there c place (eqb-true r.place at here) in
          among_there (row ∷ []) r (subst (Contains (row ∷ [])) e (Contains-first row [])) ∙ sym here
      | inr isnt ↦ false_from_ne_true (is_among (row ∷ []) r) (λ h.
          let m = among_from (row ∷ []) r h in
          let e : row ≡ r = one_by_key rows row r apart there c (ap (λ (x : Row). x.key) (only m.0 m.1) ∙ m.2) in
          false≢true (sym isnt ∙ eq-eqb r.place at (ap (λ (x : Row). x.place) (sym e) ∙ place))) ∙ sym isnt
    ]
