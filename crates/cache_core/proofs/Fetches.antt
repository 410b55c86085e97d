-- Look-ups of one moment: none changes what another answers, and their order changes no cache.
use Rattle.std.proofs.Common.{◌≡◌, inl, inr, ℕ, zero, suc, Bool, true, false, cond, not, ◌&&◌, ◌||◌, List, [], ◌∷◌, ◌++◌, length, map, find, Option, Some, None, refl, sym, ap, ◌∙◌, subst}
use Rattle.std.specs.Prelude.{is_some, option_map, if◌then◌else◌}
use Rattle.std.proofs.lemmas.Bool.{cases_Bool}
use Rattle.php_graph.specs.declared.kind.Kind.{Kind}
use Rattle.apcu_model.specs.Cache.{Row, Cache, risen, has_key}
use Rattle.apcu_model.specs.Expiry.{is_hard_expired, live_row}
use Rattle.apcu_model.specs.Lookups.{touched, looked_up}
use Rattle.entry_slots.specs.Entries.{touched_row}
use Rattle.entry_slots.specs.Lists.{has_place, is_at}
use Rattle.cache_core.specs.Counting.{risen_by, with_misses}
use Rattle.cache_core.specs.Uses.{fetched, found_place, seen_in, AreFoundAt, AreMissed}

-- ---- one use

abbrev used_by : List ℕ → ℕ → Row → Row
used_by key t row = if has_key key row then touched t row else row

abbrev is_live : List ℕ → ℕ → Row → Bool
is_live key t row = has_key key row && not (is_hard_expired t row)

-- what a use leaves as it was
same_used : {A : Type 0} (tell : Row → A) → ((t : ℕ) (row : Row) → tell (touched t row) ≡ tell row) → (key : List ℕ) (t : ℕ) (row : Row) → tell (used_by key t row) ≡ tell row
same_used tell same key t row = elim (cases_Bool (has_key key row)) [
  | inl h ↦ ap (λ (b : Bool). tell (if b then touched t row else row)) h ∙ same t row
  | inr h ↦ ap (λ (b : Bool). tell (if b then touched t row else row)) h
]

found_first : (f : Row → Row) (p : Row → Bool) (row : Row) (rows : List Row) (b : Bool) → p row ≡ b → p (f row) ≡ p row → find p (map {A = Row} {B = Row} f rows) ≡ option_map f (find p rows)
    → find p (map {A = Row} {B = Row} f (row ∷ rows)) ≡ option_map f (find p (row ∷ rows))
found_first f p row rows true e same rest =
    ap (λ (b : Bool). cond b (Some (f row)) (find p (map {A = Row} {B = Row} f rows))) (same ∙ e)
    ∙ sym (ap (λ (b : Bool). option_map f (cond b (Some row) (find p rows))) e)
found_first f p row rows false e same rest =
    ap (λ (b : Bool). cond b (Some (f row)) (find p (map {A = Row} {B = Row} f rows))) (same ∙ e)
    ∙ (rest ∙ sym (ap (λ (b : Bool). option_map f (cond b (Some row) (find p rows))) e))

find_map : (f : Row → Row) (p : Row → Bool) (rows : List Row) → ((row : Row) → p (f row) ≡ p row) → find p (map {A = Row} {B = Row} f rows) ≡ option_map f (find p rows)
find_map f p [] h = refl
find_map f p (row ∷ rows) h = found_first f p row rows (p row) refl (h row) (find_map f p rows h)

same_map : {A : Type 0} (tell : Row → A) (f : Row → Row) → ((row : Row) → tell (f row) ≡ tell row) → (found : Option Row) → option_map tell (option_map f found) ≡ option_map tell found
same_map tell f h None = refl
same_map tell f h (Some row) = ap Some (h row)

-- a look-up changes nothing that another one tells but by uses
told_after : {A : Type 0} (tell : Row → A) → ((t : ℕ) (row : Row) → tell (touched t row) ≡ tell row) → (one key : List ℕ) (s t : ℕ) (c : Cache) (found : Option Row)
    → option_map tell (live_row key t (looked_up one s found c)) ≡ option_map tell (live_row key t c)
told_after tell same one key s t c None = refl
told_after tell same one key s t c (Some row) =
    ap (option_map tell) (find_map (used_by one s) (is_live key t) c.rows (same_used (is_live key t) (λ u r. refl) one s))
    ∙ same_map tell (used_by one s) (same_used tell same one s) (live_row key t c)

-- ---- fetches

pub seen_after : (keys : List (List ℕ)) (key : List ℕ) (s t : ℕ) (c : Cache) → seen_in (live_row key t (fetched keys s c)) ≡ seen_in (live_row key t c)
seen_after [] key s t c = refl
seen_after (one ∷ keys) key s t c =
    seen_after keys key s t (looked_up one s (live_row one s c) c)
    ∙ told_after {A = ℕ × List Kind} (λ row. (row.place, row.graph)) (λ u r. refl) one key s t c (live_row one s c)

place_after : (one key : List ℕ) (t : ℕ) (c : Cache) → found_place key t (looked_up one t (live_row one t c) c) ≡ found_place key t c
place_after one key t c = told_after {A = ℕ} (λ row. row.place) (λ u r. refl) one key t t c (live_row one t c)

-- ---- their order

abbrev looked_if : Bool → List ℕ → ℕ → Cache → Cache
looked_if found key t c =
    if found then record c { rows = map {A = Row} {B = Row} (used_by key t) c.rows; hits = risen c.hits }
    else record c { misses = risen c.misses }

by_found : (key : List ℕ) (t : ℕ) (found : Option Row) (c : Cache) → looked_up key t found c ≡ looked_if (is_some found) key t c
by_found key t None c = refl
by_found key t (Some row) c = refl

some_of : (found : Option Row) → is_some (option_map (λ (row : Row). row.place) found) ≡ is_some found
some_of None = refl
some_of (Some row) = refl

map_swap : (f h : Row → Row) (rows : List Row) → ((row : Row) → f (h row) ≡ h (f row)) → map {A = Row} {B = Row} f (map {A = Row} {B = Row} h rows) ≡ map {A = Row} {B = Row} h (map {A = Row} {B = Row} f rows)
map_swap f h [] same = refl
map_swap f h (row ∷ rows) same =
    ap (λ (x : Row). x ∷ map {A = Row} {B = Row} f (map {A = Row} {B = Row} h rows)) (same row)
    ∙ ap (λ (l : List Row). h (f row) ∷ l) (map_swap f h rows same)

used_swap : (a b : List ℕ) (t : ℕ) (row : Row) → used_by b t (used_by a t row) ≡ used_by a t (used_by b t row)
used_swap a b t row = go (has_key a row) (has_key b row) refl refl
  where
    first : (k j : List ℕ) (x : Bool) → has_key j row ≡ x → used_by k t (used_by j t row) ≡ used_by k t (if x then touched t row else row)
    first k j x e = ap (λ (y : Bool). used_by k t (if y then touched t row else row)) e

    go : (x y : Bool) → has_key a row ≡ x → has_key b row ≡ y → used_by b t (used_by a t row) ≡ used_by a t (used_by b t row)
    go true true ea eb =
        first b a true ea ∙ ap (λ (z : Bool). if z then touched t (touched t row) else touched t row) eb
        ∙ sym (first a b true eb ∙ ap (λ (z : Bool). if z then touched t (touched t row) else touched t row) ea)
    go true false ea eb =
        first b a true ea ∙ ap (λ (z : Bool). if z then touched t (touched t row) else touched t row) eb
        ∙ sym (first a b false eb ∙ ap (λ (z : Bool). if z then touched t row else row) ea)
    go false true ea eb =
        first b a false ea ∙ ap (λ (z : Bool). if z then touched t row else row) eb
        ∙ sym (first a b true eb ∙ ap (λ (z : Bool). if z then touched t (touched t row) else touched t row) ea)
    go false false ea eb =
        first b a false ea ∙ ap (λ (z : Bool). if z then touched t row else row) eb
        ∙ sym (first a b false eb ∙ ap (λ (z : Bool). if z then touched t row else row) ea)

if_swap : (x y : Bool) (a b : List ℕ) (t : ℕ) (c : Cache) → looked_if y b t (looked_if x a t c) ≡ looked_if x a t (looked_if y b t c)
if_swap true true a b t c = ap (λ (l : List Row). let d : Cache = record c { rows = l; hits = risen (risen c.hits) } in d) (map_swap (used_by b t) (used_by a t) c.rows (used_swap a b t))
if_swap true false a b t c = refl
if_swap false true a b t c = refl
if_swap false false a b t c = refl

two : (a b : List ℕ) (t : ℕ) (c : Cache) → fetched (a ∷ b ∷ []) t c ≡ looked_if (is_some (live_row b t c)) b t (looked_if (is_some (live_row a t c)) a t c)
two a b t c =
    let mid = looked_up a t (live_row a t c) c in
    let found : is_some (live_row b t mid) ≡ is_some (live_row b t c) = sym (some_of (live_row b t mid)) ∙ (ap is_some (place_after a b t c) ∙ some_of (live_row b t c)) in
    by_found b t (live_row b t mid) mid
    ∙ (ap (λ (x : Bool). looked_if x b t mid) found
    ∙ ap (λ (d : Cache). looked_if (is_some (live_row b t c)) b t d) (by_found a t (live_row a t c) c))

swapped : (a b : List ℕ) (t : ℕ) (c : Cache) → fetched (a ∷ b ∷ []) t c ≡ fetched (b ∷ a ∷ []) t c
swapped a b t c = two a b t c ∙ (if_swap (is_some (live_row a t c)) (is_some (live_row b t c)) a b t c ∙ sym (two b a t c))

pub in_any_order : (front back : List (List ℕ)) (a b : List ℕ) (t : ℕ) (c : Cache) → fetched (front ++ a ∷ b ∷ back) t c ≡ fetched (front ++ b ∷ a ∷ back) t c
in_any_order [] back a b t c = ap (fetched back t) (swapped a b t c)
in_any_order (key ∷ front) back a b t c = in_any_order front back a b t (looked_up key t (live_row key t c) c)

-- ---- uses that are counted at their places

found_after : (keys : List (List ℕ)) (places : List ℕ) (one : List ℕ) (t : ℕ) (c : Cache) → AreFoundAt keys t c places → AreFoundAt keys t (looked_up one t (live_row one t c) c) places
found_after [] [] one t c h = h
found_after [] (at ∷ places) one t c h = h
found_after (key ∷ keys) [] one t c h = h
found_after (key ∷ keys) (at ∷ places) one t c h = (place_after one key t c ∙ h.0, found_after keys places one t c h.1)

-- these keys are left, at these places
pub record Left (keys : List (List ℕ)) (t : ℕ) (old now : Cache) (places : List ℕ) : Type 0 where
  pub rest : List (List ℕ)
  pub found : AreFoundAt rest t now places
  pub same : fetched keys t old ≡ fetched rest t now

the_row : (found : Option Row) (at : ℕ) → option_map (λ (row : Row). row.place) found ≡ Some at → (row : Row) × (found ≡ Some row) × (row.place ≡ at)
the_row None at h = absurd (cc h)
the_row (Some row) at h = (row, refl, cc h)

pub left_next : {keys : List (List ℕ)} {t : ℕ} {old now : Cache} (at : ℕ) (places : List ℕ) (new : Cache) → Left keys t old now (at ∷ places)
    → ((key : List ℕ) (row : Row) → live_row key t now ≡ Some row → row.place ≡ at → new ≡ looked_up key t (Some row) now) → Left keys t old new places
left_next {keys} {t} {old} {now} at places new h used = go h.rest h.found h.same
  where
    go : (rest : List (List ℕ)) → AreFoundAt rest t now (at ∷ places) → fetched keys t old ≡ fetched rest t now → Left keys t old new places
    go [] found same = absurd found
    go (key ∷ rest) found same =
        let r = the_row (live_row key t now) at found.0 in
        let is : new ≡ looked_up key t (live_row key t now) now = used key r.0 r.1 r.2 ∙ sym (ap (λ (o : Option Row). looked_up key t o now) r.1) in
        record {
          rest = rest;
          found = subst (λ (d : Cache). AreFoundAt rest t d places) (sym is) (found_after rest places key t now found.1);
          same = same ∙ sym (ap (fetched rest t) is);
        }

pub left_none : {keys : List (List ℕ)} {t : ℕ} {old now : Cache} → Left keys t old now [] → fetched keys t old ≡ now
left_none {keys} {t} {old} {now} h = go h.rest h.found h.same
  where
    go : (rest : List (List ℕ)) → AreFoundAt rest t now [] → fetched keys t old ≡ fetched rest t now → fetched keys t old ≡ now
    go [] found same = same
    go (key ∷ rest) found same = absurd found

-- ---- misses

none_of : (found : Option Row) → option_map (λ (row : Row). row.place) found ≡ None → found ≡ None
none_of None h = refl
none_of (Some row) h = absurd (cc h)

missed_after : (keys missed : List (List ℕ)) (t : ℕ) (c : Cache) → AreMissed missed t c → AreMissed missed t (fetched keys t c)
missed_after [] missed t c h = h
missed_after (key ∷ keys) missed t c h = missed_after keys missed t (looked_up key t (live_row key t c) c) (all missed h)
  where
    all : (missed : List (List ℕ)) → AreMissed missed t c → AreMissed missed t (looked_up key t (live_row key t c) c)
    all [] h = h
    all (one ∷ missed) h = (none_of (live_row one t (looked_up key t (live_row key t c) c)) (place_after key one t c ∙ ap (option_map (λ (row : Row). row.place)) h.0), all missed h.1)

risen_first : (n count : ℕ) → risen_by n (risen count) ≡ risen (risen_by n count)
risen_first zero count = refl
risen_first (suc n) count = ap risen (risen_first n count)

missed_is : (missed : List (List ℕ)) (t : ℕ) (c : Cache) → AreMissed missed t c → fetched missed t c ≡ with_misses (length missed) c
missed_is [] t c h = refl
missed_is (key ∷ missed) t c h =
    ap (λ (o : Option Row). fetched missed t (looked_up key t o c)) h.0
    ∙ (missed_is missed t (looked_up key t None c) (all missed h.1)
    ∙ ap (λ (n : ℕ). let d : Cache = record c { misses = n } in d) (risen_first (length missed) c.misses))
  where
    all : (missed : List (List ℕ)) → AreMissed missed t c → AreMissed missed t (looked_up key t None c)
    all [] h = h
    all (one ∷ missed) h = (h.0, all missed h.1)

pub misses_counted : (keys missed : List (List ℕ)) (t n : ℕ) (c : Cache) → AreMissed missed t c → length missed ≡ n → with_misses n (fetched keys t c) ≡ fetched missed t (fetched keys t c)
misses_counted keys missed t n c h e =
    ap (λ (m : ℕ). with_misses m (fetched keys t c)) (sym e) ∙ sym (missed_is missed t (fetched keys t c) (missed_after keys missed t c h))

-- ---- rows stay at their places

at_used : (place at t : ℕ) (row : Row) → is_at place (touched_row at t row) ≡ is_at place row
at_used place at t row = elim (cases_Bool (is_at at row)) [
  | inl h ↦ ap (λ (b : Bool). is_at place (if b then touched t row else row)) h
  | inr h ↦ ap (λ (b : Bool). is_at place (if b then touched t row else row)) h
]

pub has_used : (place at t : ℕ) (rows : List Row) → has_place place (map {A = Row} {B = Row} (touched_row at t) rows) ≡ has_place place rows
has_used place at t [] = refl
has_used place at t (row ∷ rows) =
    ap (λ (b : Bool). b || has_place place (map {A = Row} {B = Row} (touched_row at t) rows)) (at_used place at t row)
    ∙ ap (λ (b : Bool). is_at place row || b) (has_used place at t rows)
