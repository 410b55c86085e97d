-- A pool that is left alone is answered as its map answers.
use Rattle.std.proofs.Common.{◌≡◌, inl, inr, ℕ, ◌≤◌, ◌==◌, ◌&&◌, ◌||◌, Bool, true, false, not, cond, if◌then◌else◌, List, [], ◌∷◌, ◌++◌, refl, sym, ap, ap₂, ◌∙◌, subst}
use Rattle.std.specs.Prelude.{nat_le}
use Rattle.std.specs.List.{list_any, list_all, AllByRecursion}
use Rattle.std.proofs.lemmas.Bool.{and_parts, and_from, or_parts, or_left, or_right, or_cases, not-true, not-false, not_from_false, false≢true, false_from_ne_true, true_from_ne_false, eqb-true, leb-true}
use Rattle.apcu_model.specs.declared.conf.Conf.{Conf}
use Rattle.apcu_model.specs.declared.request.Event.{Event}
use Rattle.apcu_model.specs.declared.request.Request.{Request}
use Rattle.apcu_model.specs.declared.request.Request.TheVariants as request
use Rattle.apcu_model.specs.declared.request.Reply.{Reply}
use Rattle.apcu_model.specs.Cache.{Cache}
use Rattle.apcu_model.specs.Change.{inserted}
use Rattle.apcu_model.specs.History.{Stage, start_of, stage_of, held_places, reply_in, after_event, after_events}
use Rattle.apcu_model.specs.Rows.{are_apart}
use Rattle.apcu_model.specs.Sequential.{cache_after, reply_to, is_stored}
use Rattle.simple_pool.specs.Names.{braced, is_good_name}
use Rattle.pool_laws.specs.PoolKeys.{is_key_of, holds_text, is_pattern_of}
use Rattle.simple_pool.specs.Requests.{pool_step}
use Rattle.pool_laws.specs.Maps.{Entry, map_reply, map_after}
use Rattle.pool_laws.specs.Pools.{is_of_pool, named_keys, is_timed, do_not_fall, is_clear, is_left_alone, ClearsPool, AreOfPools, are_bytes, is_store_lost, are_stored, LeavesAlone, events_of_pool, answered_from, map_answers, StandsAlone}
use Rattle.pool_laws.proofs.BracedNames.{key_holds, names_apart, pattern_matches}
use Rattle.pool_laws.proofs.PoolRows.{is_tame, are_tame, IsOther, Step, AreSafe, Passes_by, step_after}
use Rattle.pool_laws.proofs.PoolMaps.{is_own, Agrees, agrees_later, agrees_step, Goes, goes_fetch, goes_exists, goes_delete, goes_store}
use Rattle.pool_laws.proofs.ClearedPools.{goes_clear}

-- ---- the keys that a request names

-- each of them passes
abbrev Each : (List ℕ → Type 0) → List (List ℕ) → Type 0
Each P keys = AllByRecursion P keys

pub own_named : (name : List ℕ) (r : Request) → is_of_pool name r ≡ true → Each (λ key. is_key_of name key ≡ true) (named_keys r)
own_named name (request.Store key graph ttl exclusive) own = ((and_parts (not exclusive) (is_key_of name key) own).1, tt)
own_named name (request.Fetch key) own = (own, tt)
own_named name (request.Exists key) own = (own, tt)
own_named name (request.Delete key) own = (own, tt)
own_named name (request.Inc key step ttl) own = absurd (false≢true own)
own_named name (request.Cas key expect set) own = absurd (false≢true own)
own_named name (request.Entry g) own = absurd (false≢true own)
own_named name request.Clear own = absurd (false≢true own)
own_named name (request.KeyInfo key) own = absurd (false≢true own)
own_named name (request.CacheInfo limited) own = absurd (false≢true own)
own_named name (request.SmaInfo limited) own = absurd (false≢true own)
own_named name (request.Chunk wanted from size list fields) own = absurd (false≢true own)
own_named name (request.ChunkDelete wanted from size) own = tt
own_named name (request.Totals wanted list) own = absurd (false≢true own)
own_named name request.Retire own = absurd (false≢true own)

-- what is asked of one event
record Fits (name : List ℕ) (r : Request) : Type 0 where
  no_clear : is_clear r ≡ false
  alone : is_left_alone name r ≡ true
  bytes : list_all are_bytes (named_keys r) ≡ true
  walk : ClearsPool r

-- a key of the pool, or one in which its name does not stand
tame_own : (name key : List ℕ) → are_bytes key ≡ true → is_key_of name key ≡ true → is_tame name key ≡ true
tame_own name key bytes own = and_from (are_bytes key) (is_key_of name key || not (holds_text (braced name) key)) bytes (or_left (is_key_of name key) (not (holds_text (braced name) key)) own)

tame_other : (name key : List ℕ) → are_bytes key ≡ true → holds_text (braced name) key ≡ false → is_tame name key ≡ true
tame_other name key bytes none =
    and_from (are_bytes key) (is_key_of name key || not (holds_text (braced name) key)) bytes
    (or_right (is_key_of name key) (not (holds_text (braced name) key)) (not_from_false (holds_text (braced name) key) none))

safe_own : (name : List ℕ) (t : ℕ) (keys : List (List ℕ)) → list_all are_bytes keys ≡ true → Each (λ key. is_key_of name key ≡ true) keys → AreSafe name t (λ key. ⊥) keys
safe_own name t [] bytes own = tt
safe_own name t (key ∷ keys) bytes own =
    let parts = and_parts (are_bytes key) (list_all are_bytes keys) bytes in
    ((tame_own name key parts.0 own.0, λ other p e. p), safe_own name t keys parts.1 own.1)

-- a key that names another's is none of the pool's
other_key : (name key : List ℕ) → holds_text (braced name) key ≡ false → IsOther (λ own. is_own name own ≡ true) key
other_key name key none own is e =
    false≢true (sym none ∙ (ap (holds_text (braced name)) (sym e) ∙ key_holds name own (and_parts (is_key_of name own) (are_bytes own) is).0))

safe_other : (name : List ℕ) (t : ℕ) (keys : List (List ℕ)) → list_all are_bytes keys ≡ true → list_any (holds_text (braced name)) keys ≡ false → AreSafe name t (λ key. is_own name key ≡ true) keys
safe_other name t [] bytes none = tt
safe_other name t (key ∷ keys) bytes none =
    let parts = and_parts (are_bytes key) (list_all are_bytes keys) bytes in
    let nones = or_parts (holds_text (braced name) key) (list_any (holds_text (braced name)) keys) none in
    ((tame_other name key parts.0 nones.0, other_key name key nones.0), safe_other name t keys parts.1 nones.1)

safe_none : (name : List ℕ) (t : ℕ) (keys : List (List ℕ)) → AreSafe name t (λ key. is_own name key ≡ true) keys → AreSafe name t (λ key. ⊥) keys
safe_none name t [] safe = tt
safe_none name t (key ∷ keys) safe = ((safe.0.0, λ other p e. p), safe_none name t keys safe.1)

none_named : (name : List ℕ) (r : Request) → Fits name r → is_of_pool name r ≡ false → list_any (holds_text (braced name)) (named_keys r) ≡ false
none_named name r f foreign = elim (or_cases (is_of_pool name r) (not (list_any (holds_text (braced name)) (named_keys r))) f.alone) [
  | inl own ↦ absurd (false≢true (sym foreign ∙ own))
  | inr none ↦ not-true (list_any (holds_text (braced name)) (named_keys r)) none
]

no_walk : (name : List ℕ) (t : ℕ) (r : Request) → Passes_by name t (λ key. ⊥) r
no_walk name t (request.ChunkDelete wanted from size) = λ key p. absurd p
no_walk name t (request.Store key graph ttl exclusive) = tt
no_walk name t (request.Fetch key) = tt
no_walk name t (request.Exists key) = tt
no_walk name t (request.Delete key) = tt
no_walk name t (request.Inc key step ttl) = tt
no_walk name t (request.Cas key expect set) = tt
no_walk name t (request.Entry g) = tt
no_walk name t request.Clear = tt
no_walk name t (request.KeyInfo key) = tt
no_walk name t (request.CacheInfo limited) = tt
no_walk name t (request.SmaInfo limited) = tt
no_walk name t (request.Chunk wanted from size list fields) = tt
no_walk name t (request.Totals wanted list) = tt
no_walk name t request.Retire = tt

-- another pool's walk finds none of the pool's keys
other_walk : (name : List ℕ) (t : ℕ) (r : Request) → is_good_name name ≡ true → ClearsPool r → is_of_pool name r ≡ false → Passes_by name t (λ key. is_own name key ≡ true) r
other_walk name t (request.ChunkDelete wanted from size) good clears foreign = λ key own.
    let other = clears.0 in
    let parts = and_parts (is_pattern_of other wanted) (size == pool_step) clears.2 in
    let keys = and_parts (is_key_of name key) (are_bytes key) own in
    pattern_matches other wanted key clears.1 parts.0 keys.1
    ∙ false_from_ne_true (holds_text (braced other) key) (λ holds.
    let same = names_apart name other key good clears.1 keys.0 holds in
    false≢true (sym foreign ∙ (ap (λ n. is_of_pool n (request.ChunkDelete wanted from size)) same ∙ clears.2)))
other_walk name t (request.Store key graph ttl exclusive) good clears foreign = tt
other_walk name t (request.Fetch key) good clears foreign = tt
other_walk name t (request.Exists key) good clears foreign = tt
other_walk name t (request.Delete key) good clears foreign = tt
other_walk name t (request.Inc key step ttl) good clears foreign = tt
other_walk name t (request.Cas key expect set) good clears foreign = tt
other_walk name t (request.Entry g) good clears foreign = tt
other_walk name t request.Clear good clears foreign = tt
other_walk name t (request.KeyInfo key) good clears foreign = tt
other_walk name t (request.CacheInfo limited) good clears foreign = tt
other_walk name t (request.SmaInfo limited) good clears foreign = tt
other_walk name t (request.Chunk wanted from size list fields) good clears foreign = tt
other_walk name t (request.Totals wanted list) good clears foreign = tt
other_walk name t request.Retire good clears foreign = tt

-- ---- one event

-- what any event leaves: the shape, and tame keys
any_step : (name held : List ℕ) (t : ℕ) (r : Request) (c : Cache) → Fits name r → Step name t (λ key. ⊥) c (cache_after held t r c)
any_step name held t r c f = step_after name t (λ key. ⊥) held r c f.no_clear (go (is_of_pool name r) refl) (no_walk name t r)
  where
    go : (b : Bool) → is_of_pool name r ≡ b → AreSafe name t (λ key. ⊥) (named_keys r)
    go true own = safe_own name t (named_keys r) f.bytes (own_named name r own)
    go false foreign = safe_none name t (named_keys r) (safe_other name t (named_keys r) f.bytes (none_named name r f foreign))

other_step : (name held : List ℕ) (t : ℕ) (r : Request) (c : Cache) → is_good_name name ≡ true → Fits name r → is_of_pool name r ≡ false → Step name t (λ key. is_own name key ≡ true) c (cache_after held t r c)
other_step name held t r c good f foreign =
    step_after name t (λ key. is_own name key ≡ true) held r c f.no_clear (safe_other name t (named_keys r) f.bytes (none_named name r f foreign)) (other_walk name t r good f.walk foreign)

own_of : (name key : List ℕ) → is_key_of name key ≡ true → list_all are_bytes (key ∷ []) ≡ true → is_own name key ≡ true
own_of name key own bytes = and_from (is_key_of name key) (are_bytes key) own (and_parts (are_bytes key) true bytes).0

own_goes : (name held : List ℕ) (t : ℕ) (r : Request) (m : List Entry) (c : Cache) → is_good_name name ≡ true → Fits name r → is_of_pool name r ≡ true → Agrees name t m c → c.conf.ttl ≡ 0
    → are_apart c.rows ≡ true → are_tame name c.rows ≡ true → is_store_lost r (reply_to held t r c) ≡ false → (cache_after held t r c).expunges ≡ 0 → Goes name t r held m c
own_goes name held t (request.Store key graph ttl exclusive) m c good f own a none apart tame stored calm = go exclusive own stored calm
  where
    go : (b : Bool) → (not b && is_key_of name key) ≡ true → not (is_stored (inserted held key graph ttl b t c).answer) ≡ false → (inserted held key graph ttl b t c).cache.expunges ≡ 0
        → Goes name t (request.Store key graph ttl b) held m c
    go true o s e = absurd (false≢true o)
    go false o s e =
        let mine = own_of name key o f.bytes in
        goes_store name t held m c a none apart key graph ttl mine (tame_own name key (and_parts (is_key_of name key) (are_bytes key) mine).1 o)
        (not-false (is_stored (inserted held key graph ttl false t c).answer) s) e
own_goes name held t (request.Fetch key) m c good f own a none apart tame stored calm = goes_fetch name t held m c a none apart key (own_of name key own f.bytes) calm
own_goes name held t (request.Exists key) m c good f own a none apart tame stored calm = goes_exists name t held m c a none apart key (own_of name key own f.bytes)
own_goes name held t (request.Delete key) m c good f own a none apart tame stored calm = goes_delete name t held m c a none apart key (own_of name key own f.bytes)
own_goes name held t (request.ChunkDelete wanted from size) m c good f own a none apart tame stored calm =
    let parts = and_parts (is_pattern_of name wanted) (size == pool_step) own in
    goes_clear name t m c a good apart tame wanted parts.0 held from size (eqb-true size pool_step parts.1)
own_goes name held t (request.Inc key step ttl) m c good f own a none apart tame stored calm = absurd (false≢true own)
own_goes name held t (request.Cas key expect set) m c good f own a none apart tame stored calm = absurd (false≢true own)
own_goes name held t (request.Entry g) m c good f own a none apart tame stored calm = absurd (false≢true own)
own_goes name held t request.Clear m c good f own a none apart tame stored calm = absurd (false≢true own)
own_goes name held t (request.KeyInfo key) m c good f own a none apart tame stored calm = absurd (false≢true own)
own_goes name held t (request.CacheInfo limited) m c good f own a none apart tame stored calm = absurd (false≢true own)
own_goes name held t (request.SmaInfo limited) m c good f own a none apart tame stored calm = absurd (false≢true own)
own_goes name held t (request.Chunk wanted from size list fields) m c good f own a none apart tame stored calm = absurd (false≢true own)
own_goes name held t (request.Totals wanted list) m c good f own a none apart tame stored calm = absurd (false≢true own)
own_goes name held t request.Retire m c good f own a none apart tame stored calm = absurd (false≢true own)

-- a request without a moment changes nothing, and is no pool's
untimed_same : (held : List ℕ) (t : ℕ) (r : Request) (c : Cache) → is_timed r ≡ false → cache_after held t r c ≡ c
untimed_same held t (request.CacheInfo limited) c off = refl
untimed_same held t (request.SmaInfo limited) c off = refl
untimed_same held t request.Retire c off = refl
untimed_same held t (request.Store key graph ttl exclusive) c off = absurd (false≢true (sym off))
untimed_same held t (request.Fetch key) c off = absurd (false≢true (sym off))
untimed_same held t (request.Exists key) c off = absurd (false≢true (sym off))
untimed_same held t (request.Delete key) c off = absurd (false≢true (sym off))
untimed_same held t (request.Inc key step ttl) c off = absurd (false≢true (sym off))
untimed_same held t (request.Cas key expect set) c off = absurd (false≢true (sym off))
untimed_same held t (request.Entry g) c off = absurd (false≢true (sym off))
untimed_same held t request.Clear c off = absurd (false≢true (sym off))
untimed_same held t (request.KeyInfo key) c off = absurd (false≢true (sym off))
untimed_same held t (request.Chunk wanted from size list fields) c off = absurd (false≢true (sym off))
untimed_same held t (request.ChunkDelete wanted from size) c off = absurd (false≢true (sym off))
untimed_same held t (request.Totals wanted list) c off = absurd (false≢true (sym off))

untimed_other : (name : List ℕ) (r : Request) → is_timed r ≡ false → is_of_pool name r ≡ false
untimed_other name (request.CacheInfo limited) off = refl
untimed_other name (request.SmaInfo limited) off = refl
untimed_other name request.Retire off = refl
untimed_other name (request.Store key graph ttl exclusive) off = absurd (false≢true (sym off))
untimed_other name (request.Fetch key) off = absurd (false≢true (sym off))
untimed_other name (request.Exists key) off = absurd (false≢true (sym off))
untimed_other name (request.Delete key) off = absurd (false≢true (sym off))
untimed_other name (request.Inc key step ttl) off = absurd (false≢true (sym off))
untimed_other name (request.Cas key expect set) off = absurd (false≢true (sym off))
untimed_other name (request.Entry g) off = absurd (false≢true (sym off))
untimed_other name request.Clear off = absurd (false≢true (sym off))
untimed_other name (request.KeyInfo key) off = absurd (false≢true (sym off))
untimed_other name (request.Chunk wanted from size list fields) off = absurd (false≢true (sym off))
untimed_other name (request.ChunkDelete wanted from size) off = absurd (false≢true (sym off))
untimed_other name (request.Totals wanted list) off = absurd (false≢true (sym off))

-- ---- events

-- what is known of every history
pub record Known : Type 0 where
  pub shape : (conf : Conf) (history : List Event) → (stage_of conf history).cache.conf ≡ conf
  pub apart : (conf : Conf) (history : List Event) → are_apart (stage_of conf history).cache.rows ≡ true
  pub more : (m : Stage) (events : List Event) (e : Event) → after_events m (events ++ e ∷ []) ≡ after_event (after_events m events) e

-- what is asked of the events from a stage on, where the moment is t
record Calm (name : List ℕ) (t : ℕ) (m : Stage) (es : List Event) : Type 0 where
  in_order : do_not_fall t es ≡ true
  no_expunge : (after_events m es).cache.expunges ≡ 0
  stored : are_stored name m es ≡ true
  no_clear : list_all (λ (e : Event). not (is_clear e.request)) es ≡ true
  keys : list_all (λ (e : Event). is_left_alone name e.request) es ≡ true
  walks : AreOfPools es
  bytes : list_all (λ (e : Event). list_all are_bytes (named_keys e.request)) es ≡ true

fits : (name : List ℕ) (t : ℕ) (m : Stage) (e : Event) (es : List Event) → Calm name t m (e ∷ es) → Fits name e.request
fits name t m e es c = record {
  no_clear = not-true (is_clear e.request) (and_parts (not (is_clear e.request)) (list_all (λ (e : Event). not (is_clear e.request)) es) c.no_clear).0;
  alone = (and_parts (is_left_alone name e.request) (list_all (λ (e : Event). is_left_alone name e.request) es) c.keys).0;
  bytes = (and_parts (list_all are_bytes (named_keys e.request)) (list_all (λ (e : Event). list_all are_bytes (named_keys e.request)) es) c.bytes).0;
  walk = c.walks.0;
}

calm_later : (name : List ℕ) (t u : ℕ) (m : Stage) (e : Event) (es : List Event) → Calm name t m (e ∷ es) → do_not_fall u es ≡ true → Calm name u (after_event m e) es
calm_later name t u m e es c order = record {
  in_order = order;
  no_expunge = c.no_expunge;
  stored = (and_parts (not (is_of_pool name e.request && is_store_lost e.request (reply_in m e))) (are_stored name (after_event m e) es) c.stored).1;
  no_clear = (and_parts (not (is_clear e.request)) (list_all (λ (e : Event). not (is_clear e.request)) es) c.no_clear).1;
  keys = (and_parts (is_left_alone name e.request) (list_all (λ (e : Event). is_left_alone name e.request) es) c.keys).1;
  walks = c.walks.1;
  bytes = (and_parts (list_all are_bytes (named_keys e.request)) (list_all (λ (e : Event). list_all are_bytes (named_keys e.request)) es) c.bytes).1;
}

-- the moment from which on the moments after an event do not fall
abbrev order_end : Event → ℕ → ℕ
order_end e t = if is_timed e.request then e.t else t

order_later : (t : ℕ) (e : Event) (es : List Event) → do_not_fall t (e ∷ es) ≡ true → do_not_fall (order_end e t) es ≡ true
order_later t e es h = go (is_timed e.request) h
  where
    go : (b : Bool) → (if b then nat_le t e.t && do_not_fall e.t es else do_not_fall t es) ≡ true → do_not_fall (if b then e.t else t) es ≡ true
    go true h = (and_parts (nat_le t e.t) (do_not_fall e.t es) h).1
    go false h = h

-- where no expunge came in the end, none had come before
none_before : (name : List ℕ) (t : ℕ) (m : Stage) (es : List Event) → Calm name t m es → m.cache.expunges ≡ 0
none_before name t m [] c = c.no_expunge
none_before name t m (e ∷ es) c =
    let later = none_before name (order_end e t) (after_event m e) es (calm_later name t (order_end e t) m e es c (order_later t e es c.in_order)) in
    (any_step name (held_places m e.mask) e.t e.request m.cache (fits name t m e es c)).calm later

-- the map compared with the cache at a stage
record Beside (name : List ℕ) (conf : Conf) (t : ℕ) (m : List Entry) (s : Stage) : Type 0 where
  tame : are_tame name s.cache.rows ≡ true
  agrees : Agrees name t m s.cache

module _ (known : Known) (name : List ℕ) (conf : Conf) (good : is_good_name name ≡ true) (no_limit : conf.ttl ≡ 0) where
  -- another's event
  other_beside : (t : ℕ) (m : List Entry) (s : Stage) (e : Event) (es : List Event) → s.cache.conf ≡ conf → are_apart s.cache.rows ≡ true → Calm name t s (e ∷ es) → Beside name conf t m s → is_of_pool name e.request ≡ false
      → (after_event s e).cache.expunges ≡ 0 → Beside name conf (order_end e t) m (after_event s e)
  other_beside t m s e es shape apart c b foreign calm = go (is_timed e.request) refl c.in_order
    where
      f : Fits name e.request
      f = fits name t s e es c

      step : Step name e.t (λ key. is_own name key ≡ true) s.cache (after_event s e).cache
      step = other_step name (held_places s e.mask) e.t e.request s.cache good f foreign

      go : (timed : Bool) → is_timed e.request ≡ timed → (if timed then nat_le t e.t && do_not_fall e.t es else do_not_fall t es) ≡ true → Beside name conf (if timed then e.t else t) m (after_event s e)
      go true is order =
          let le = leb-true t e.t (and_parts (nat_le t e.t) (do_not_fall e.t es) order).0 in
          record {
            tame = step.keys b.tame;
            agrees = agrees_step name e.t m s.cache (after_event s e).cache (agrees_later name t e.t m s.cache le b.agrees) step (ap (λ (f : Conf). f.ttl) shape ∙ no_limit) apart calm;
          }
      go false is order =
          let same : (after_event s e).cache ≡ s.cache = untimed_same (held_places s e.mask) e.t e.request s.cache is in
          record { tame = step.keys b.tame; agrees = subst (λ c. Agrees name t m c) (sym same) b.agrees }

  own_event : (t : ℕ) (m : List Entry) (s : Stage) (e : Event) (es : List Event) → s.cache.conf ≡ conf → are_apart s.cache.rows ≡ true → Calm name t s (e ∷ es) → Beside name conf t m s → is_of_pool name e.request ≡ true
      → (after_event s e).cache.expunges ≡ 0 → Goes name e.t e.request (held_places s e.mask) m s.cache
  own_event t m s e es shape apart c b own calm =
      own_goes name (held_places s e.mask) e.t e.request m s.cache good (fits name t s e es c) own (agrees_later name t e.t m s.cache le b.agrees) (ap (λ (f : Conf). f.ttl) shape ∙ no_limit) apart b.tame stored calm
    where
      timed : is_timed e.request ≡ true
      timed = true_from_ne_false (is_timed e.request) (λ off. false≢true (sym (untimed_other name e.request off) ∙ own))

      order : (nat_le t e.t && do_not_fall e.t es) ≡ true
      order = rw timed at c.in_order

      le : t ≤ e.t
      le = leb-true t e.t (and_parts (nat_le t e.t) (do_not_fall e.t es) order).0

      stored : is_store_lost e.request (reply_in s e) ≡ false
      stored =
          let kept = not-true (is_of_pool name e.request && is_store_lost e.request (reply_in s e)) (and_parts (not (is_of_pool name e.request && is_store_lost e.request (reply_in s e))) (are_stored name (after_event s e) es) c.stored).0 in
          let is : (true && is_store_lost e.request (reply_in s e)) ≡ false = rw own at kept in
          is

  replies_from : (before es : List Event) (s : Stage) (t : ℕ) (m : List Entry) → s ≡ stage_of conf before → Calm name t s es → Beside name conf t m s
      → answered_from name s es ≡ map_answers conf.slots m (events_of_pool name es)
  replies_from before [] s t m at c b = refl
  replies_from before (e ∷ es) s t m at c b =
      go (is_of_pool name e.request) refl
      (λ u n order beside. replies_from (before ++ e ∷ []) es (after_event s e) u n (ap (λ s. after_event s e) at ∙ sym (known.more (start_of conf) before e)) (calm_later name t u s e es c order) beside)
    where
      shape : s.cache.conf ≡ conf
      shape = ap (λ (s : Stage). s.cache.conf) at ∙ known.shape conf before

      apart : are_apart s.cache.rows ≡ true
      apart = ap (λ (s : Stage). are_apart s.cache.rows) at ∙ known.apart conf before

      order : do_not_fall (order_end e t) es ≡ true
      order = order_later t e es c.in_order

      calm : (after_event s e).cache.expunges ≡ 0
      calm = none_before name (order_end e t) (after_event s e) es (calm_later name t (order_end e t) s e es c order)

      go : (own : Bool) → is_of_pool name e.request ≡ own
          → ((u : ℕ) (n : List Entry) → do_not_fall u es ≡ true → Beside name conf u n (after_event s e) → answered_from name (after_event s e) es ≡ map_answers conf.slots n (events_of_pool name es))
          → cond own (reply_in s e ∷ answered_from name (after_event s e) es) (answered_from name (after_event s e) es)
          ≡ map_answers conf.slots m (cond own (e ∷ events_of_pool name es) (events_of_pool name es))
      go true own later =
          let goes = own_event t m s e es shape apart c b own calm in
          let slots : s.cache.conf.slots ≡ conf.slots = ap (λ (f : Conf). f.slots) shape in
          let timed : is_timed e.request ≡ true = true_from_ne_false (is_timed e.request) (λ off. false≢true (sym (untimed_other name e.request off) ∙ own)) in
          let after : do_not_fall e.t es ≡ true = rw timed at order in
          let next : Agrees name e.t (map_after conf.slots e.t e.request m) (after_event s e).cache = subst (λ n. Agrees name e.t (map_after n e.t e.request m) (after_event s e).cache) slots goes.next in
          let tame = (any_step name (held_places s e.mask) e.t e.request s.cache (fits name t s e es c)).keys b.tame in
          ap₂ (λ (r : Reply) l. r ∷ l) (goes.reply ∙ ap (λ n. map_reply n e.t e.request m) slots)
          (later e.t (map_after conf.slots e.t e.request m) after (record { tame = tame; agrees = next }))
      go false foreign later = later (order_end e t) m order (other_beside t m s e es shape apart c b foreign calm)

pub stands_alone : Known → (name : List ℕ) (conf : Conf) (history : List Event) → LeavesAlone name conf history → StandsAlone name conf history
stands_alone known name conf history l =
    replies_from known name conf l.good l.no_limit [] history (start_of conf) 0 [] refl
    (record { in_order = l.in_order; no_expunge = l.no_expunge; stored = l.stored; no_clear = l.no_clear; keys = l.keys; walks = l.walks; bytes = l.bytes })
    (record { tame = refl; agrees = record { alike = λ key own s le. refl; single = refl; own = refl } })
