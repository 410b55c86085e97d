-- What an event leaves of a pool's rows: a request that is not the pool's leaves them as they are.
use Rattle.std.proofs.Common.{◌≡◌, ℕ, ◌+◌, ◌≤◌, ◌&&◌, ◌||◌, Bool, true, false, not, cond, if◌then◌else◌, List, [], ◌∷◌, ◌++◌, length, map, Option, Some, None, option_map, refl, sym, ap, ◌∙◌, subst, inl, inr, arith}
use Rattle.std.specs.Prelude.{ℤ, ◌==◌, nat_lt, find, Contains}
use Rattle.std.specs.List.{list_all, list_any, AllByRecursion}
use Rattle.std.proofs.lemmas.Bool.{and_parts, and_from, or_parts, or_from, or_cases, cases_Bool, false≢true, false_from_ne_true, not-true, not_from_false, ltb-true, lt-ltb, le-ltb, and_left, and_right}
use Rattle.std.proofs.lemmas.Slice.Eq.{bytes_eq-Decides}
use Rattle.php_graph.specs.declared.kind.Kind.{Kind}
use Rattle.php_graph.specs.Size.{block_size}
use Rattle.apcu_model.specs.declared.conf.Conf.{Conf}
use Rattle.apcu_model.specs.declared.request.Request.{Request}
use Rattle.apcu_model.specs.declared.request.Request.TheVariants as request
use Rattle.apcu_model.specs.Cache.{Row, Cache, risen, has_key}
use Rattle.seg_words.specs.Members.{Contains-cases, none_in_nil}
use Rattle.apcu_model.specs.Change.{dropped, expired_in, is_among, leaving, swept, expunged, with_row, placed, inserted}
use Rattle.apcu_model.specs.Facts.{among_from, one_by_key}
use Rattle.apcu_model.specs.Counters.{with_integer_at, integer_set, with_integer}
use Rattle.apcu_model.specs.Expiry.{is_expired, is_hard_expired, is_soft_expired}
use Rattle.apcu_model.specs.Levels.{EntryLevel}
use Rattle.apcu_model.specs.Lookups.{looked_up, touched}
use Rattle.apcu_model.specs.PatternMatches.{key_matches}
use Rattle.apcu_model.specs.Rows.{are_apart, touched_at}
use Rattle.apcu_model.specs.Sequential.{cache_after}
use Rattle.apcu_model.specs.SlotOrder.{slot_of}
use Rattle.simple_pool.specs.Names.{braced}
use Rattle.pool_laws.specs.PoolKeys.{is_key_of, holds_text}
use Rattle.pool_laws.specs.Maps.{Entry}
use Rattle.pool_laws.specs.Pools.{are_bytes, named_keys, is_clear}
use Rattle.apcu_model.proofs.RequestSteps.{IsLeaving, Stores, Sets, Steps, along, deletes, expired_leave}
use Rattle.apcu_model.proofs.RowsApart.{are_apart-filter, are_apart-map, are_apart-with_row}
use Rattle.pool_laws.proofs.FilteredLists.{find-kept, find-map, all-filter, all-map, all-push}

-- ---- rows as a pool sees them

-- a look-up of the key at a moment finds the row
abbrev pub passes : List ℕ → ℕ → Row → Bool
passes key s row = has_key key row && not (is_hard_expired s row)

abbrev pub entry_of : Row → Entry
entry_of row = record { key = row.key; value = row.graph; ctime = row.ctime; ttl = row.ttl }

abbrev pub seen : List ℕ → ℕ → List Row → Option Entry
seen key s rows = option_map entry_of (find (passes key s) rows)

-- of bytes, and a key of the pool where the pool's name stands in it in braces
abbrev pub is_tame : List ℕ → List ℕ → Bool
is_tame name key = are_bytes key && (is_key_of name key || not (holds_text (braced name) key))

abbrev pub are_tame : List ℕ → List Row → Bool
are_tame name rows = list_all (λ (row : Row). is_tame name row.key) rows

pub key_is : (key : List ℕ) (row : Row) → has_key key row ≡ true → row.key ≡ key
key_is key row h = (bytes_eq-Decides row.key key).0 h

pub is_key : (key : List ℕ) (row : Row) → row.key ≡ key → has_key key row ≡ true
is_key key row h = (bytes_eq-Decides row.key key).1 h

-- ---- moments

-- an expired row stays expired
pub stays_expired : (t s : ℕ) (row : Row) → t ≤ s → is_hard_expired t row ≡ true → is_hard_expired s row ≡ true
stays_expired t s row le h =
    let parts = and_parts (nat_lt 0 row.ttl) (nat_lt (row.ctime + row.ttl) t) h in
    let before = ltb-true (row.ctime + row.ttl) t parts.1 in
    and_from (nat_lt 0 row.ttl) (nat_lt (row.ctime + row.ttl) s) parts.0 (lt-ltb (row.ctime + row.ttl) s (omega (arith, before, le)))

-- what is found later was not over before
pub was_live : (t s : ℕ) (key : List ℕ) (row : Row) → t ≤ s → passes key s row ≡ true → is_hard_expired t row ≡ false
was_live t s key row le h =
    let live = not-true (is_hard_expired s row) (and_parts (has_key key row) (not (is_hard_expired s row)) h).1 in
    false_from_ne_true (is_hard_expired t row) (λ e. false≢true (sym live ∙ stays_expired t s row le e))

-- without a ttl of the cache's own, expired is what has passed its own ttl
pub not_expired : (conf : Conf) (t : ℕ) (row : Row) → conf.ttl ≡ 0 → is_hard_expired t row ≡ false → is_expired conf t row ≡ false
not_expired conf t row none live =
    let zero_lt : nat_lt 0 conf.ttl ≡ false = le-ltb 0 conf.ttl (omega (arith, none)) in
    let soft : is_soft_expired conf t row ≡ false =
    and_left (row.ttl == 0 && nat_lt 0 conf.ttl) (nat_lt (row.atime + conf.ttl) t) (and_right (row.ttl == 0) (nat_lt 0 conf.ttl) zero_lt) in
    or_from (is_hard_expired t row) (is_soft_expired conf t row) live soft

risen_some : (n : ℕ) → risen n ≡ 0 → ⊥
risen_some n e = omega (arith, e)

-- ---- a row comes in the place of its key's, or last

-- of another key nothing changes
pub seen_beside : (key : List ℕ) (s : ℕ) (new : Row) (rows : List Row) → has_key key new ≡ false → seen key s (with_row new rows) ≡ seen key s rows
seen_beside key s new rows other = go (list_any (has_key new.key) rows)
  where
    past : passes key s new ≡ false
    past = and_left (has_key key new) (not (is_hard_expired s new)) other

    swapped_out : (row : Row) → has_key new.key row ≡ true → passes key s row ≡ false
    swapped_out row same =
        and_left (has_key key row) (not (is_hard_expired s row))
        (false_from_ne_true (has_key key row) (λ h. false≢true (sym other ∙ is_key key new (sym (key_is new.key row same) ∙ key_is key row h))))

    replaced : (xs : List Row) → find (passes key s) (map {A = Row} (λ row. if has_key new.key row then new else row) xs) ≡ find (passes key s) xs
    replaced [] = refl
    replaced (x ∷ xs) = elim (cases_Bool (has_key new.key x)) [
      | inl same ↦ rw (same, past, swapped_out x same) (replaced xs)
      | inr apart ↦ rw apart (ap (λ o. cond (passes key s x) (Some x) o) (replaced xs))
    ]

    pushed : (xs : List Row) → find (passes key s) (xs ++ new ∷ []) ≡ find (passes key s) xs
    pushed [] = rw past refl
    pushed (x ∷ xs) = ap (λ o. cond (passes key s x) (Some x) o) (pushed xs)

    go : (b : Bool) → seen key s (if b then map {A = Row} (λ row. if has_key new.key row then new else row) rows else rows ++ new ∷ []) ≡ seen key s rows
    go true = ap (option_map entry_of) (replaced rows)
    go false = ap (option_map entry_of) (pushed rows)

-- under its own key it is what is found, as long as it lives
pub found_new : (s : ℕ) (new : Row) (rows : List Row) → find (passes new.key s) (with_row new rows) ≡ cond (not (is_hard_expired s new)) (Some new) None
found_new s new rows = go (list_any (has_key new.key) rows) refl
  where
    live : Bool
    live = not (is_hard_expired s new)

    own : has_key new.key new ≡ true
    own = is_key new.key new refl

    here : (o : Option Row) → (live ≡ false → o ≡ None) → cond (passes new.key s new) (Some new) o ≡ cond live (Some new) None
    here o rest = rw own (pick live refl)
      where
        pick : (b : Bool) → live ≡ b → cond b (Some new) o ≡ cond b (Some new) None
        pick true e = refl
        pick false e = rest e

    others : (xs : List Row) → list_any (has_key new.key) xs ≡ false → (row : Row) → find (passes new.key s) xs ≡ None
    others [] none row = refl
    others (x ∷ xs) none row =
        let parts = or_parts (has_key new.key x) (list_any (has_key new.key) xs) none in
        rw parts.0 (others xs parts.1 row)

    dead : live ≡ false → (xs : List Row) → find (passes new.key s) (map {A = Row} (λ row. if has_key new.key row then new else row) xs) ≡ None
    dead gone [] = refl
    dead gone (x ∷ xs) = elim (cases_Bool (has_key new.key x)) [
      | inl same ↦ rw (same, own, gone) (dead gone xs)
      | inr apart ↦ rw (apart, apart) (dead gone xs)
    ]

    replaced : (xs : List Row) → list_any (has_key new.key) xs ≡ true → find (passes new.key s) (map {A = Row} (λ row. if has_key new.key row then new else row) xs) ≡ cond live (Some new) None
    replaced [] some = absurd (false≢true some)
    replaced (x ∷ xs) some = elim (cases_Bool (has_key new.key x)) [
      | inl same ↦ rw same (here (find (passes new.key s) (map {A = Row} (λ row. if has_key new.key row then new else row) xs)) (λ gone. dead gone xs))
      | inr apart ↦
          let later : list_any (has_key new.key) xs ≡ true = elim (or_cases (has_key new.key x) (list_any (has_key new.key) xs) some) [
            | inl h ↦ absurd (false≢true (sym apart ∙ h))
            | inr h ↦ h
          ] in
          rw (apart, apart) (replaced xs later)
    ]

    pushed : (xs : List Row) → list_any (has_key new.key) xs ≡ false → find (passes new.key s) (xs ++ new ∷ []) ≡ cond live (Some new) None
    pushed [] none = here None (λ gone. refl)
    pushed (x ∷ xs) none =
        let parts = or_parts (has_key new.key x) (list_any (has_key new.key) xs) none in
        rw parts.0 (pushed xs parts.1)

    go : (b : Bool) → list_any (has_key new.key) rows ≡ b → find (passes new.key s) (if b then map {A = Row} (λ row. if has_key new.key row then new else row) rows else rows ++ new ∷ []) ≡ cond live (Some new) None
    go true some = replaced rows some
    go false none = pushed rows none

pub tame_with : (name : List ℕ) (new : Row) (rows : List Row) → is_tame name new.key ≡ true → are_tame name rows ≡ true → are_tame name (with_row new rows) ≡ true
tame_with name new rows tame all = go (list_any (has_key new.key) rows)
  where
    each : (row : Row) → is_tame name row.key ≡ true → (b : Bool) → is_tame name (if b then new else row).key ≡ true
    each row h true = tame
    each row h false = h

    go : (b : Bool) → are_tame name (if b then map {A = Row} (λ row. if has_key new.key row then new else row) rows else rows ++ new ∷ []) ≡ true
    go true =
        all-map (λ (row : Row). is_tame name row.key) (λ (row : Row). is_tame name row.key) (λ (row : Row). if has_key new.key row then new else row) rows
        (λ row h. each row h (has_key new.key row)) all
    go false = all-push (λ (row : Row). is_tame name row.key) rows new all tame

-- ---- steps

-- From one cache to the next, at the moment t: what is seen of the keys of P, then and later, stays.
pub record Step (name : List ℕ) (t : ℕ) (P : List ℕ → Type 0) (old new : Cache) : Type 0 where
  pub shape : new.conf ≡ old.conf
  pub calm : new.expunges ≡ 0 → old.expunges ≡ 0
  pub rows : old.conf.ttl ≡ 0 → are_apart old.rows ≡ true → new.expunges ≡ 0 → (key : List ℕ) → P key → (s : ℕ) → t ≤ s
      → seen key s new.rows ≡ seen key s old.rows
  pub keys : are_tame name old.rows ≡ true → are_tame name new.rows ≡ true
  pub apart : are_apart old.rows ≡ true → are_apart new.rows ≡ true

-- the key is none of P
abbrev pub IsOther : (List ℕ → Type 0) → List ℕ → Type 0
IsOther P key = (own : List ℕ) → P own → own ≡ key → ⊥

module _ (name : List ℕ) (t : ℕ) (P : List ℕ → Type 0) where
  -- nothing that is seen has changed
  unchanged : (c new : Cache) → new.conf ≡ c.conf → new.expunges ≡ c.expunges → new.rows ≡ c.rows → Step name t P c new
  unchanged c new shape count rows = record {
    shape = shape;
    calm = λ e. sym count ∙ e;
    rows = λ n k e key own s le. ap (seen key s) rows;
    keys = λ k. ap (are_tame name) rows ∙ k;
    apart = λ k. ap are_apart rows ∙ k;
  }

  onward : (a b c : Cache) → Step name t P a b → Step name t P b c → Step name t P a c
  onward a b c f g = record {
    shape = g.shape ∙ f.shape;
    calm = λ e. f.calm (g.calm e);
    rows = λ n k e key own s le. g.rows (ap (λ (conf : Conf). conf.ttl) f.shape ∙ n) (f.apart k) e key own s le ∙ f.rows n k (g.calm e) key own s le;
    keys = λ k. g.keys (f.keys k);
    apart = λ k. g.apart (f.apart k);
  }

  -- ---- rows leave

  -- the request deletes no row of P's keys
  abbrev Spares : Request → Type 0
  Spares r = (row : Row) → deletes r row ≡ true → P row.key → ⊥

  -- no row goes that a later look-up of the pool would find
  step_dropped : (held : List ℕ) (r : Request) (gone : List Row) (c : Cache) → Spares r → ((row : Row) → Contains gone row → IsLeaving r t c row) → Step name t P c (dropped held t gone c)
  step_dropped held r gone c spares leaves = record {
    shape = refl;
    calm = λ e. e;
    rows = λ n k e key own s le.
        ap (option_map entry_of) (find-kept (passes key s) (λ row. not (is_among gone row)) c.rows (λ row there p. not_from_false (is_among gone row) (stays n k key own s le row there p)));
    keys = all-filter (λ (row : Row). is_tame name row.key) (λ row. not (is_among gone row)) c.rows;
    apart = are_apart-filter (λ row. not (is_among gone row)) c.rows;
  }
    where
      stays : c.conf.ttl ≡ 0 → are_apart c.rows ≡ true → (key : List ℕ) → P key → (s : ℕ) → t ≤ s → (row : Row) → Contains c.rows row → passes key s row ≡ true → is_among gone row ≡ false
      stays n k key own s le row there p = false_from_ne_true (is_among gone row) (λ h.
          let one = among_from gone row h in
          let going = leaves one.0 one.1 in
          let why = subst (λ (x : Row). (is_expired c.conf t x || deletes r x) ≡ true) (one_by_key c.rows one.0 row k going.there there one.2) going.why in
          let of_key = key_is key row (and_parts (has_key key row) (not (is_hard_expired s row)) p).0 in
          elim (or_cases (is_expired c.conf t row) (deletes r row) why) [
            | inl old ↦ false≢true (sym (not_expired c.conf t row n (was_live t s key row le p)) ∙ old)
            | inr asked ↦ spares row asked (subst P (sym of_key) own)
          ])

  -- all rows go, and the cache counts it
  step_expunged : (held : List ℕ) (c : Cache) → Step name t P c (expunged held t c)
  step_expunged held c = record {
    shape = refl;
    calm = λ e. absurd (risen_some c.expunges e);
    rows = λ n k e key own s le. absurd (risen_some c.expunges e);
    keys = all-filter (λ (row : Row). is_tame name row.key) (λ row. not (is_among (leaving c.conf c.rows) row)) c.rows;
    apart = are_apart-filter (λ row. not (is_among (leaving c.conf c.rows) row)) c.rows;
  }

  -- ---- a row comes

  step_placed : (held key : List ℕ) (r : Request) (graph : List Kind) (ttl n : ℕ) (c : Cache) (place : ℕ) → Spares r → is_tame name key ≡ true → IsOther P key → Step name t P c (placed held key graph ttl t n c place)
  step_placed held key r graph ttl n c place spares tame other =
      let gone = expired_in c.conf t (slot_of c.conf key) c.rows in
      let left = dropped held t gone c in
      let new : Row = record { key = key; graph = graph; ttl = ttl; ctime = t; mtime = t; atime = t; dtime = 0; hits = 0; place = place; size = n; number = c.next_number } in
      let f = step_dropped held r gone c spares (expired_leave r t (slot_of c.conf key) c) in
      record {
        shape = refl;
        calm = λ e. e;
        rows = λ n k e own is s le.
            seen_beside own s new left.rows (false_from_ne_true (has_key own new) (λ h. other own is (sym (key_is own new h)))) ∙ f.rows n k e own is s le;
        keys = λ k. tame_with name new left.rows tame (f.keys k);
        apart = λ k. are_apart-with_row new left.rows (f.apart k);
      }

  -- ---- rows change

  -- a change that keeps what the pool sees of a row
  step_map : (c new : Cache) (f : Row → Row) → new.conf ≡ c.conf → new.expunges ≡ c.expunges → new.rows ≡ map f c.rows → ((row : Row) → (f row).key ≡ row.key) → ((row : Row) → (f row).ctime ≡ row.ctime) → ((row : Row) → (f row).ttl ≡ row.ttl)
      → ((key : List ℕ) → P key → (row : Row) → has_key key row ≡ true → (f row).graph ≡ row.graph) → Step name t P c new
  step_map c new f shape count mapped keeps created lives graphs = record {
    shape = shape;
    calm = λ e. sym count ∙ e;
    rows = λ n k e key own s le.
        ap (λ (rows : List Row). seen key s rows) mapped
        ∙ find-map (passes key s) entry_of f c.rows (λ row. rw (keeps row, created row, lives row) refl)
        (λ row p. rw (keeps row, created row, lives row, graphs key own row (and_parts (has_key key row) (not (is_hard_expired s row)) p).0) refl);
    keys = λ k. rw mapped (all-map (λ (row : Row). is_tame name row.key) (λ (row : Row). is_tame name row.key) f c.rows (λ row h. rw (keeps row) h) k);
    apart = λ k. ap are_apart mapped ∙ (are_apart-map f keeps c.rows ∙ k);
  }

  pub step_looked : (key : List ℕ) (o : Option Row) (c : Cache) → Step name t P c (looked_up key t o c)
  step_looked key None c = unchanged c (looked_up key t None c) refl refl refl
  step_looked key (Some row) c =
      step_map c (looked_up key t (Some row) c) (touched_at key t) refl refl refl
      (λ r. touched_same (λ (x : Row). x.key) r (has_key key r) refl) (λ r. touched_same (λ (x : Row). x.ctime) r (has_key key r) refl) (λ r. touched_same (λ (x : Row). x.ttl) r (has_key key r) refl)
      (λ own is r h. touched_same (λ (x : Row). x.graph) r (has_key key r) refl)
    where
      touched_same : {A : Type 0} (view : Row → A) (r : Row) (b : Bool) → view (touched t r) ≡ view r → view (if b then touched t r else r) ≡ view r
      touched_same view r true e = e
      touched_same view r false e = refl

  step_set : (key : List ℕ) (n : ℤ) (c : Cache) → IsOther P key → Step name t P c (integer_set key n t c)
  step_set key n c apart =
      step_map c (integer_set key n t c) (with_integer_at key n t) refl refl refl
      (λ r. set_same (λ (x : Row). x.key) r (has_key key r) refl) (λ r. set_same (λ (x : Row). x.ctime) r (has_key key r) refl) (λ r. set_same (λ (x : Row). x.ttl) r (has_key key r) refl)
      (λ own is r h. other own r (has_key key r) refl h (apart own is))
    where
      set_same : {A : Type 0} (view : Row → A) (r : Row) (b : Bool) → view (with_integer n t r) ≡ view r → view (if b then with_integer n t r else r) ≡ view r
      set_same view r true e = e
      set_same view r false e = refl

      other : (own : List ℕ) (r : Row) (b : Bool) → has_key key r ≡ b → has_key own r ≡ true → (own ≡ key → ⊥) → (if b then with_integer n t r else r).graph ≡ r.graph
      other own r true is h differ = absurd (differ (sym (key_is own r h) ∙ key_is key r is))
      other own r false is h differ = refl

  -- the keys are tame, and none of P
  abbrev IsSafe : List ℕ → Type 0
  IsSafe key = (is_tame name key ≡ true) × IsOther P key

  abbrev pub AreSafe : List (List ℕ) → Type 0
  AreSafe keys = AllByRecursion IsSafe keys

  safe_level : (levels : List EntryLevel) → AreSafe (map {A = EntryLevel} (λ level. level.key) levels) → (level : EntryLevel) → Contains levels level → IsSafe level.key
  safe_level [] safe level h = absurd (none_in_nil level h)
  safe_level (first ∷ levels) safe level h = elim (Contains-cases first levels level h) [
    | inl e ↦ subst (λ (x : EntryLevel). IsSafe x.key) e safe.0
    | inr l ↦ safe_level levels safe.1 level l
  ]

  -- ---- an event

  -- a walk that deletes finds none of P
  abbrev pub Passes_by : Request → Type 0
  Passes_by (request.ChunkDelete wanted from size) = (key : List ℕ) → P key → key_matches wanted key ≡ false
  Passes_by _ = Unit {0}

  stores_safe : (r : Request) → AreSafe (named_keys r) → (key : List ℕ) → Stores r key → (is_tame name key ≡ true) × IsOther P key
  stores_safe (request.Store k graph ttl exclusive) safe key e = subst IsSafe e safe.0
  stores_safe (request.Inc k step ttl) safe key e = subst IsSafe e safe.0
  stores_safe (request.Entry g) safe key e = subst IsSafe e.2 (safe_level g.levels safe e.0 e.1)
  stores_safe _ safe key e = absurd e

  sets_other : (r : Request) → AreSafe (named_keys r) → (key : List ℕ) → Sets r key → IsOther P key
  sets_other (request.Inc k step ttl) safe key e = subst (IsOther P) e safe.0.1
  sets_other (request.Cas k expect n) safe key e = subst (IsOther P) e safe.0.1
  sets_other _ safe key e = absurd e

  spared : (r : Request) → AreSafe (named_keys r) → Passes_by r → Spares r
  spared (request.Delete key) safe by row h own = safe.0.1 row.key own (key_is key row h)
  spared (request.ChunkDelete wanted from size) safe by row h own = false≢true (sym (by row.key own) ∙ h)
  spared _ safe by row h own = false≢true h

  steps : (held : List ℕ) (r : Request) → is_clear r ≡ false → AreSafe (named_keys r) → Passes_by r → Steps held t r (λ n c d. Step name t P c d)
  steps held r clear safe by = record {
    same = λ c. unchanged c c refl refl refl;
    onward = λ m n a b c f g. onward a b c f g;
    wider = λ m n c d l f. f;
    sweep = λ c. unchanged c (swept held c) refl refl refl;
    drop = λ gone c leaves. step_dropped held r gone c (spared r safe by) leaves;
    expunge = step_expunged held;
    clear = λ c is. absurd (false≢true (sym clear ∙ ap is_clear is));
    place = λ key graph ttl c place may fits. let k = stores_safe r safe key may in step_placed held key r graph ttl (block_size (length key) graph) c place (spared r safe by) k.0 k.1;
    look = step_looked;
    set = λ key n was c row may live is. step_set key n c (sets_other r safe key may);
  }

  pub step_after : (held : List ℕ) (r : Request) (c : Cache) → is_clear r ≡ false → AreSafe (named_keys r) → Passes_by r → Step name t P c (cache_after held t r c)
  step_after held r c clear safe by = along held t r (λ n c d. Step name t P c d) (steps held r clear safe by) c

  pub step_inserted : (held key : List ℕ) (graph : List Kind) (ttl : ℕ) (exclusive : Bool) (c : Cache) → is_tame name key ≡ true → IsOther P key
      → Step name t P c (inserted held key graph ttl exclusive t c).cache
  step_inserted held key graph ttl exclusive c tame other = step_after held (request.Store key graph ttl exclusive) c refl ((tame, other), tt) tt
