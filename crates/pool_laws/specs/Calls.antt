-- Events with the pools whose calls made them.
use Rattle.std.specs.Prelude.{◌≡◌, ℕ, ◌&&◌, ◌||◌, not, Bool, true, false, cond, List, [], ◌∷◌, map}
use Rattle.std.specs.Prelude.{filter, Option, Some, None, is_some}
use Rattle.std.specs.List.{list_all, list_any, AllByRecursion}
use Rattle.std.specs.Str.{bytes_eq}
use Rattle.apcu_model.specs.declared.conf.Conf.{Conf}
use Rattle.apcu_model.specs.declared.request.Event.{Event}
use Rattle.apcu_model.specs.declared.request.Request.{Request}
use Rattle.apcu_model.specs.declared.request.Request.TheVariants as asks
use Rattle.apcu_model.specs.declared.request.Reply.{Reply}
use Rattle.apcu_model.specs.History.{Stage, start_of, stage_of, reply_in, after_event}
use Rattle.simple_pool.specs.Names.{is_good_name, braced}
use Rattle.pool_laws.specs.PoolKeys.{holds_text}
use Rattle.pool_laws.specs.Pools.{is_of_pool, named_keys, do_not_fall, is_clear, are_bytes}
use Rattle.pool_laws.specs.Pools.{is_store_lost, map_answers}

-- An event, and the pool whose call made it, if it was a pool's.
pub record Asked : Type 0 where
  pub pool : Option (List ℕ)
  pub event : Event

abbrev pub is_this_pool : List ℕ → Option (List ℕ) → Bool
is_this_pool name None = false
is_this_pool name (Some other) = bytes_eq other name

-- a call of the pool made it
abbrev pub is_by : List ℕ → Asked → Bool
is_by name a = is_this_pool name a.pool

-- the request of a pool's call has the pool's form
abbrev pub HasPoolForm : Option (List ℕ) → Request → Type 0
HasPoolForm None request = Unit {0}
HasPoolForm (Some name) request = (is_good_name name ≡ true) × (is_of_pool name request ≡ true)

abbrev pub HavePoolForms : List Asked → Type 0
HavePoolForms asked = AllByRecursion (λ (a : Asked). HasPoolForm a.pool a.event.request) asked

abbrev pub asked_events : List Asked → List Event
asked_events asked = map {A = Asked} (λ a. a.event) asked

-- the keys that these events name consist of bytes
abbrev pub AreOfBytes : List Event → Type 0
AreOfBytes history =
    list_all (λ (e : Event). list_all are_bytes (named_keys e.request)) history ≡ true

-- only the pool's calls name a key that contains its name in braces
abbrev pub is_untouched : List ℕ → Asked → Bool
is_untouched name a =
    is_by name a || not (list_any (holds_text (braced name)) (named_keys a.event.request))

abbrev pub is_deleting_walk : Request → Bool
is_deleting_walk (asks.ChunkDelete wanted from size) = true
is_deleting_walk _ = false

-- only pools' calls delete by a walk
abbrev pub is_pools_walk : Asked → Bool
is_pools_walk a = is_some a.pool || not (is_deleting_walk a.event.request)

-- each value that the pool set was stored
abbrev pub are_kept : List ℕ → Stage → List Asked → Bool
are_kept name m [] = true
are_kept name m (a ∷ asked) =
    not (is_by name a && is_store_lost a.event.request (reply_in m a.event))
    && are_kept name (after_event m a.event) asked

-- the conditions on calls under which a pool is as if it were alone
pub record CallsLeaveAlone (name : List ℕ) (conf : Conf) (asked : List Asked) : Type 0 where
  pub good : is_good_name name ≡ true
  -- no ttl except the rows' own
  pub no_limit : conf.ttl ≡ 0
  pub in_order : do_not_fall 0 (asked_events asked) ≡ true
  -- there was no full expunge
  pub no_expunge : (stage_of conf (asked_events asked)).cache.expunges ≡ 0
  pub kept : are_kept name (start_of conf) asked ≡ true
  pub no_clear : list_all (λ (e : Event). not (is_clear e.request)) (asked_events asked) ≡ true
  pub keys : list_all (is_untouched name) asked ≡ true
  pub walks : list_all is_pools_walk asked ≡ true

-- the replies to the pool's calls, after a stage
abbrev pub told_from : List ℕ → Stage → List Asked → List Reply
told_from name m [] = []
told_from name m (a ∷ asked) =
    cond (is_by name a)
    (reply_in m a.event ∷ told_from name (after_event m a.event) asked)
    (told_from name (after_event m a.event) asked)

-- each reply to the pool's calls is that of its map, which began empty and saw only these events
abbrev pub CallsStandAlone : List ℕ → Conf → List Asked → Type 0
CallsStandAlone name conf asked =
    told_from name (start_of conf) asked
    ≡ map_answers conf.slots [] (asked_events (filter (is_by name) asked))
