-- What each act of a generated script does to the cache: no row leaves unasked, and all is counted.
use Rattle.std.proofs.Common.{◌≡◌, ℕ, ◌+◌, ◌-◌, ◌^◌, ◌<◌, ◌≤◌, true, false, if◌then◌else◌, List, [], ◌∷◌, length, map, filter, Option, Some, None, refl, sym, ap, ◌∙◌, subst, arith}
use Rattle.std.specs.Prelude.{pos, nat_lt, find, ◌==◌, option_map, replicate}
use Rattle.std.specs.List.{Contains, count_by, range_with_len}
use Rattle.std.proofs.lemmas.List.{map-id}
use Rattle.std.proofs.lemmas.List.Sums.{count_by-le-length}
use Rattle.std.proofs.lemmas.List.FromFn.{length-range_with_len}
use Rattle.php_graph.specs.declared.kind.Kind.{Kind}
use Rattle.php_graph.specs.declared.kind.Kind.TheVariants as kinds
use Rattle.php_graph.specs.Size.{block_size}
use Rattle.apcu_model.specs.declared.conf.Conf.{Conf}
use Rattle.apcu_model.specs.declared.request.Request.{Request}
use Rattle.apcu_model.specs.declared.request.Request.TheVariants as requests
use Rattle.apcu_model.specs.Cache.{Row, Cache, has_key, gap_of}
use Rattle.apcu_model.specs.Change.{is_held, swept, with_row, placed, put_in, inserted, Insertion}
use Rattle.apcu_model.specs.Lookups.{looked_up, touched}
use Rattle.apcu_model.specs.Rows.{touched_at}
use Rattle.script_read.specs.GeneratedScripts.{Draw, Fetches, Stores, Counts, value_key, counter_key}
use Rattle.play_laws.specs.Summary.{stored_by, times_by, counted_by}
use Rattle.play_laws.proofs.CountLemmas.{count_alike}
use Rattle.play_laws.proofs.NewRows.{value_at, finds_other, finds_changed}
use Rattle.apcu_model.proofs.FirstMoment.{Placed, new_row, placed_parts}
use Rattle.play_laws.proofs.SmallRows.{IsRoomy, Laid, Alike, laid_changed, laid_swept, laid_placed, inserts_so, no_row_there}
use Rattle.play_laws.proofs.ScriptKeys.{names_of, few_names, value_named, value_small, counter_no_value}

-- what a worker does in turn: a draw of its own, a look at a counter, or its end
pub data Act : Type 0 where
  Does : ℕ → Draw → Act
  Watches : ℕ → Act
  Ends : Act

abbrev pub request_of : Act → Request
request_of (Does worker (Fetches owner n)) = requests.Fetch (value_key owner n)
request_of (Does worker (Stores n len)) = requests.Store (value_key worker n) (kinds.Str (replicate len 120) ∷ []) 0 false
request_of (Does worker (Counts n step)) = requests.Inc (counter_key n) (pos step) 0
request_of (Watches n) = requests.Fetch (counter_key n)
request_of Ends = requests.Retire

-- its numbers are in their ranges
abbrev pub IsAct : ℕ → Act → Type 0
IsAct workers (Does worker (Fetches owner n)) = Unit {0}
IsAct workers (Does worker (Stores n len)) = (worker < workers) × (n < 16) × (len < 200)
IsAct workers (Does worker (Counts n step)) = (n < 8) × (step < 100)
IsAct workers (Watches n) = n < 8
IsAct workers Ends = Unit {0}

-- what it counts
abbrev pub stores_in : Act → ℕ
stores_in (Does worker draw) = stored_by draw
stores_in (Watches n) = 0
stores_in Ends = 0

abbrev pub times_in : ℕ → Act → ℕ
times_in i (Does worker draw) = times_by i draw
times_in i (Watches n) = 0
times_in i Ends = 0

abbrev pub sums_in : ℕ → Act → ℕ
sums_in i (Does worker draw) = counted_by i draw
sums_in i (Watches n) = 0
sums_in i Ends = 0

-- the counters that were counted on at all
abbrev pub begun_counters : (ℕ → ℕ) → ℕ
begun_counters times = count_by (λ i. nat_lt 0 (times i)) (range_with_len 0 8)

-- the value of a counter that was counted on so often, by so much together
abbrev pub counter_value : ℕ → ℕ → Option (List Kind)
counter_value times sum = if times == 0 then None else Some (kinds.Int (pos sum) ∷ [])

-- what holds after this many stores, and this many steps of each counter
pub record Good (conf : Conf) (names : List (List ℕ)) (c : Cache) (stores : ℕ) (times sums : ℕ → ℕ) : Type 0 where
  pub laid : Laid conf names c
  pub expunges : c.expunges ≡ 0
  pub inserts : c.inserts ≡ stores + begun_counters times
  pub next : c.next_number ≡ c.inserts + 1
  pub values : (i : ℕ) → i < 8 → value_at (counter_key i) c.rows ≡ counter_value (times i) (sums i)
  pub none : (i : ℕ) → times i ≡ 0 → sums i ≡ 0

pub good_same : (conf : Conf) (names : List (List ℕ)) (c : Cache) (s s' : ℕ) (t t' u u' : ℕ → ℕ) → s' ≡ s → ((i : ℕ) → t' i ≡ t i) → ((i : ℕ) → u' i ≡ u i) → Good conf names c s t u → Good conf names c s' t' u'
good_same conf names c s s' t t' u u' a b d g = record {
  laid = g.laid;
  expunges = g.expunges;
  inserts = omega (arith, g.inserts, a, count_alike (λ i. nat_lt 0 (t' i)) (λ i. nat_lt 0 (t i)) (range_with_len 0 8) (λ i. ap (λ n. nat_lt 0 n) (b i)));
  next = g.next;
  values = λ i h. g.values i h ∙ (ap (λ n. counter_value n (u i)) (sym (b i)) ∙ ap (λ n. counter_value (t' i) n) (sym (d i)));
  none = λ i z. d i ∙ g.none i (sym (b i) ∙ z);
}

-- ---- a look-up

alike_touched : (key : List ℕ) → Alike (touched_at key 0)
alike_touched key = record {
  key = λ r. elim (has_key key r) as (λ b. (if b then touched 0 r else r).key ≡ r.key) [ true ↦ refl | false ↦ refl ];
  number = λ r. elim (has_key key r) as (λ b. (if b then touched 0 r else r).number ≡ r.number) [ true ↦ refl | false ↦ refl ];
  place = λ r. elim (has_key key r) as (λ b. (if b then touched 0 r else r).place ≡ r.place) [ true ↦ refl | false ↦ refl ];
  size = λ r. elim (has_key key r) as (λ b. (if b then touched 0 r else r).size ≡ r.size) [ true ↦ refl | false ↦ refl ];
}

-- a change that keeps keys and values
pub values_kept : (key : List ℕ) (f : Row → Row) (rows : List Row) → ((r : Row) → (f r).key ≡ r.key) → ((r : Row) → (f r).graph ≡ r.graph) → value_at key (map f rows) ≡ value_at key rows
values_kept key f rows keeps same = ap (λ (o : Option Row). option_map (λ (r : Row). r.graph) o) (finds_changed key f rows keeps) ∙ go (find (has_key key) rows)
  where
    go : (o : Option Row) → option_map (λ (r : Row). r.graph) (option_map f o) ≡ option_map (λ (r : Row). r.graph) o
    go None = refl
    go (Some r) = ap (λ (g : List Kind). Some g) (same r)

pub good_looked : (conf : Conf) (names : List (List ℕ)) (key : List ℕ) (o : Option Row) (c : Cache) (s : ℕ) (t u : ℕ → ℕ) → Good conf names c s t u → Good conf names (looked_up key 0 o c) s t u
good_looked conf names key None c s t u g = record {
  laid = laid_changed conf names (λ r. r) c (looked_up key 0 None c) (record { key = λ r. refl; number = λ r. refl; place = λ r. refl; size = λ r. refl }) refl (sym (map-id c.rows)) refl refl g.laid;
  expunges = g.expunges;
  inserts = g.inserts;
  next = g.next;
  values = g.values;
  none = g.none;
}
good_looked conf names key (Some row) c s t u g = record {
  laid = laid_changed conf names (touched_at key 0) c (looked_up key 0 (Some row) c) (alike_touched key) refl refl refl refl g.laid;
  expunges = g.expunges;
  inserts = g.inserts;
  next = g.next;
  values = λ i h. values_kept (counter_key i) (touched_at key 0) c.rows (alike_touched key).key (λ r. elim (has_key key r) as (λ b. (if b then touched 0 r else r).graph ≡ r.graph) [ true ↦ refl | false ↦ refl ]) ∙ g.values i h;
  none = g.none;
}

-- ---- an insertion

-- of at most this many stores and steps, so that no counter reaches its maximum
pub record IsShort (s : ℕ) (u : ℕ → ℕ) : Type 0 where
  pub stores : s < 2 ^ 62
  pub sums : (i : ℕ) → u i < 2 ^ 62

pub few_begun : (times : ℕ → ℕ) → begun_counters times ≤ 8
few_begun times = omega (arith, count_by-le-length (λ i. nat_lt 0 (times i)) (range_with_len 0 8), length-range_with_len 0 8)

-- the insertion, and what it leaves
pub record Inserted (conf : Conf) (names : List (List ℕ)) (held key : List ℕ) (graph : List Kind) (c : Cache) : Type 0 where
  pub place : ℕ
  pub is : inserted held key graph 0 false 0 c ≡ put_in held key graph 0 0 (block_size (length key) graph) (swept held c) (Some place)
  pub laid : Laid conf names (placed held key graph 0 0 (block_size (length key) graph) (swept held c) place)
  pub rows : (placed held key graph 0 0 (block_size (length key) graph) (swept held c) place).rows ≡ with_row (new_row key graph (block_size (length key) graph) place c.next_number) c.rows

pub inserted_so : (conf : Conf) (names : List (List ℕ)) (held key : List ℕ) (graph : List Kind) (c : Cache) → IsRoomy conf → length names ≤ 1032 → Laid conf names c → length (filter (is_held held) c.removed) ≤ 64 → Contains names key → c.next_number < 2 ^ 64 - 1
    → (0 < block_size (length key) graph) × (block_size (length key) graph ≤ 40) → Inserted conf names held key graph c
inserted_so conf names held key graph c roomy most laid few name next size = record {
  place = p.0;
  is = p.2;
  laid = laid_placed conf names held (new_row key graph n p.0 c.next_number) first (placed held key graph 0 0 n first p.0) parts (laid_swept conf names held c laid) few name refl next size.0 size.1
      (no_row_there n p.0 first size.0 (λ r h. ((laid_swept conf names held c laid).small r h).0) p.1);
  rows = parts.rows;
}
  where
    n : ℕ
    n = block_size (length key) graph

    first : Cache
    first = swept held c

    p : (place : ℕ) × (gap_of (swept held c) n ≡ Some place) × (inserted held key graph 0 false 0 c ≡ put_in held key graph 0 0 n (swept held c) (Some place))
    p = inserts_so conf names held key graph c roomy most laid few size.1

    parts : Placed held (new_row key graph n p.0 c.next_number) first (placed held key graph 0 0 n first p.0)
    parts = placed_parts held key graph n first p.0

pub good_store : (conf : Conf) (workers : ℕ) (held : List ℕ) (worker n len : ℕ) (c : Cache) (s : ℕ) (t u : ℕ → ℕ) → IsRoomy conf → workers ≤ 64 → length (filter (is_held held) c.removed) ≤ 64 → IsShort s u → (worker < workers) × (n < 16) × (len < 200)
    → Good conf (names_of workers) c s t u → Good conf (names_of workers) (inserted held (value_key worker n) (kinds.Str (replicate len 120) ∷ []) 0 false 0 c).cache (s + 1) t u
good_store conf workers held worker n len c s t u roomy most few short ranges g =
    subst (λ (x : Insertion). Good conf (names_of workers) x.cache (s + 1) t u) (sym i.is) (record {
      laid = i.laid;
      expunges = g.expunges;
      inserts = omega (arith, g.inserts, short.stores, few_begun t);
      next = omega (arith, g.next, g.inserts, short.stores, few_begun t);
      values = λ k h. ap (λ (l : List Row). value_at (counter_key k) l) i.rows ∙ (ap (λ (o : Option Row). option_map (λ (r : Row). r.graph) o) (finds_other (counter_key k) new c.rows (counter_no_value worker n k)) ∙ g.values k h);
      none = g.none;
    })
  where
    key : List ℕ
    key = value_key worker n

    graph : List Kind
    graph = kinds.Str (replicate len 120) ∷ []

    i : Inserted conf (names_of workers) held key graph c
    i = inserted_so conf (names_of workers) held key graph c roomy (few_names workers most) g.laid few (value_named workers worker n ranges.0 ranges.1) (omega (arith, g.next, g.inserts, short.stores, few_begun t)) (value_small worker n len (omega (arith, ranges.0, most)) ranges.1 ranges.2)

    new : Row
    new = new_row key graph (block_size (length key) graph) i.place c.next_number
