-- How a worker plays calls on pools.
use Rattle.std.specs.Prelude.{ℕ, ℤ, pos, int_lt, nat_abs, Bool, true, false, if◌then◌else◌, List}
use Rattle.std.specs.Prelude.{map, Option, Some, None}
use Rattle.php_graph.specs.declared.kind.Kind.{Kind}
use Rattle.apcu_model.specs.declared.request.Request.{Request}
use Rattle.apcu_model.specs.declared.request.Request.TheVariants as requests
use Rattle.apcu_model.specs.declared.request.Reply.{Reply}
use Rattle.simple_pool.specs.declared.call.PoolAsk.{PoolAsk}
use Rattle.simple_pool.specs.declared.call.PoolAsk.TheVariants.{Get, Set, SetPlain, Delete, Has}
use Rattle.simple_pool.specs.Names.{pool_key}
use Rattle.reply_text.specs.Replies.{is_done}
use Rattle.worker_play.specs.declared.answers.Answer.{Answer}
use Rattle.worker_play.specs.declared.answers.Answer.TheVariants.{Found, Default}

-- the key of the cache under which a pool keeps the key of a call on one key
abbrev pub key_in_cache : List ℕ → PoolAsk → Option (List ℕ)
key_in_cache pool (Get key default) = Some (pool_key pool key)
key_in_cache pool (Set key value ttl) = Some (pool_key pool key)
key_in_cache pool (SetPlain key value) = Some (pool_key pool key)
key_in_cache pool (Delete key) = Some (pool_key pool key)
key_in_cache pool (Has key) = Some (pool_key pool key)
key_in_cache pool _ = None

-- ---- sets

-- the seconds for which a value is kept, 0 for no limit; none if it is not kept
abbrev pub life_of : ℤ → Option ℕ
life_of ttl = if int_lt (pos 0) ttl then Some (nat_abs ttl) else None

-- the request of a set for a key of the cache
abbrev pub put_as : List ℕ → List Kind → Option ℕ → Request
put_as key value (Some ttl) = requests.Store key value ttl false
put_as key value None = requests.Delete key

-- and for a pair of a pool
abbrev pub put_of : List ℕ → Option ℕ → List ℕ × List Kind → Request
put_of pool life pair = put_as (pool_key pool pair.0) pair.1 life

-- whether it was done: a deletion always is
abbrev pub put_done : Option ℕ → Reply → Bool
put_done (Some ttl) reply = is_done reply
put_done None reply = true

-- ---- answers

abbrev pub answer_value : Answer → List Kind
answer_value (Found value) = value
answer_value (Default value) = value.now

abbrev pub answers_noted : List (List ℕ × Answer) → List (List ℕ × List Kind)
answers_noted notes = map (λ (note : List ℕ × Answer). (note.0, answer_value note.1)) notes
