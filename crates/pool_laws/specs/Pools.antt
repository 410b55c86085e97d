-- The events of pools in a history of the cache, and the replies to them.
use Rattle.std.specs.Prelude.{◌≡◌, ℕ, ◌==◌, ◌&&◌, ◌||◌, not, nat_le, Bool, true, false, cond}
use Rattle.std.specs.Prelude.{if◌then◌else◌, List, [], ◌∷◌, map, filter}
use Rattle.std.specs.List.{list_all, list_any}
use Rattle.apcu_model.specs.declared.conf.Conf.{Conf}
use Rattle.apcu_model.specs.declared.request.Event.{Event}
use Rattle.apcu_model.specs.declared.request.Request.{Request}
use Rattle.apcu_model.specs.declared.request.Request.TheVariants as asks
use Rattle.apcu_model.specs.declared.request.Reply.{Reply}
use Rattle.apcu_model.specs.declared.request.Reply.TheVariants as replies
use Rattle.apcu_model.specs.Levels.{EntryLevel}
use Rattle.apcu_model.specs.History.{Stage, start_of, stage_of, reply_in, after_event}
use Rattle.simple_pool.specs.Names.{is_good_name, braced}
use Rattle.pool_laws.specs.PoolKeys.{is_key_of, is_pattern_of, holds_text}
use Rattle.simple_pool.specs.Requests.{pool_step}
use Rattle.pool_laws.specs.Maps.{Entry, map_reply, map_after}

-- a call of the pool makes such requests
abbrev pub is_of_pool : List ℕ → Request → Bool
is_of_pool name (asks.Store key value ttl exclusive) = not exclusive && is_key_of name key
is_of_pool name (asks.Fetch key) = is_key_of name key
is_of_pool name (asks.Exists key) = is_key_of name key
is_of_pool name (asks.Delete key) = is_key_of name key
is_of_pool name (asks.ChunkDelete wanted from size) =
    is_pattern_of name wanted && size == pool_step
is_of_pool name _ = false

-- the keys that a request names
abbrev pub named_keys : Request → List (List ℕ)
named_keys (asks.Store key value ttl exclusive) = key ∷ []
named_keys (asks.Fetch key) = key ∷ []
named_keys (asks.Exists key) = key ∷ []
named_keys (asks.Delete key) = key ∷ []
named_keys (asks.Inc key step ttl) = key ∷ []
named_keys (asks.Cas key expect set) = key ∷ []
named_keys (asks.Entry g) = map {A = EntryLevel} (λ level. level.key) g.levels
named_keys asks.Clear = []
named_keys (asks.KeyInfo key) = key ∷ []
named_keys (asks.CacheInfo limited) = []
named_keys (asks.SmaInfo limited) = []
named_keys (asks.Chunk wanted from size list fields) = []
named_keys (asks.ChunkDelete wanted from size) = []
named_keys (asks.Totals wanted list) = []
named_keys asks.Retire = []

-- the request has a moment
abbrev pub is_timed : Request → Bool
is_timed (asks.CacheInfo limited) = false
is_timed (asks.SmaInfo limited) = false
is_timed asks.Retire = false
is_timed _ = true

-- the moments do not fall from a moment on
abbrev pub do_not_fall : ℕ → List Event → Bool
do_not_fall t [] = true
do_not_fall t (e ∷ es) =
    if is_timed e.request then nat_le t e.t && do_not_fall e.t es else do_not_fall t es

abbrev pub is_clear : Request → Bool
is_clear asks.Clear = true
is_clear _ = false

-- only the pool itself names a key that contains its name in braces
abbrev pub is_left_alone : List ℕ → Request → Bool
is_left_alone name request =
    is_of_pool name request || not (list_any (holds_text (braced name)) (named_keys request))

-- a request that deletes by a walk is a pool's
abbrev pub ClearsPool : Request → Type 0
ClearsPool (asks.ChunkDelete wanted from size) =
    (name : List ℕ)
    × (is_good_name name ≡ true)
    × (is_of_pool name (asks.ChunkDelete wanted from size) ≡ true)
ClearsPool _ = Unit {0}

abbrev pub AreOfPools : List Event → Type 0
AreOfPools [] = Unit {0}
AreOfPools (e ∷ es) = ClearsPool e.request × AreOfPools es

-- each byte of a key is one
abbrev pub are_bytes : List ℕ → Bool
are_bytes key = list_all (λ b. nat_le b 255) key

-- a value of the pool was not stored
abbrev pub is_store_lost : Request → Reply → Bool
is_store_lost (asks.Store key value ttl exclusive) (replies.Flag stored) = not stored
is_store_lost _ _ = false

abbrev pub are_stored : List ℕ → Stage → List Event → Bool
are_stored name m [] = true
are_stored name m (e ∷ es) =
    not (is_of_pool name e.request && is_store_lost e.request (reply_in m e))
    && are_stored name (after_event m e) es

-- The conditions on a history under which a pool is as if it were alone.
pub record LeavesAlone (name : List ℕ) (conf : Conf) (history : List Event) : Type 0 where
  pub good : is_good_name name ≡ true
  -- no ttl except the rows' own
  pub no_limit : conf.ttl ≡ 0
  pub in_order : do_not_fall 0 history ≡ true
  -- there was no full expunge
  pub no_expunge : (stage_of conf history).cache.expunges ≡ 0
  pub stored : are_stored name (start_of conf) history ≡ true
  pub no_clear : list_all (λ (e : Event). not (is_clear e.request)) history ≡ true
  pub keys : list_all (λ (e : Event). is_left_alone name e.request) history ≡ true
  pub walks : AreOfPools history
  -- keys consist of bytes
  pub bytes : list_all (λ (e : Event). list_all are_bytes (named_keys e.request)) history ≡ true

-- the pool's events
abbrev pub events_of_pool : List ℕ → List Event → List Event
events_of_pool name history = filter (λ (e : Event). is_of_pool name e.request) history

-- the replies to them in the history, after a stage
abbrev pub answered_from : List ℕ → Stage → List Event → List Reply
answered_from name m [] = []
answered_from name m (e ∷ es) =
    cond (is_of_pool name e.request)
    (reply_in m e ∷ answered_from name (after_event m e) es)
    (answered_from name (after_event m e) es)

abbrev pub answered : List ℕ → Conf → List Event → List Reply
answered name conf history = answered_from name (start_of conf) history

-- and the replies of the pool's map to them
abbrev pub map_answers : ℕ → List Entry → List Event → List Reply
map_answers slots m [] = []
map_answers slots m (e ∷ es) =
    map_reply slots e.t e.request m ∷ map_answers slots (map_after slots e.t e.request m) es

-- each reply to the pool's events is that of its map, which began empty and saw only its own events
abbrev pub StandsAlone : List ℕ → Conf → List Event → Type 0
StandsAlone name conf history =
    answered name conf history ≡ map_answers conf.slots [] (events_of_pool name history)
