-- What counting returns.
use Rattle.std.specs.Prelude.{ℕ, ℤ, false, List, [], ◌∷◌, Option, Some, None}
use Rattle.php_graph.specs.declared.kind.Kind.TheVariants as kinds
use Rattle.apcu_model.specs.declared.request.StoreAnswer.{StoreAnswer}
use Rattle.apcu_model.specs.declared.request.StoreAnswer.TheVariants as answers
use Rattle.apcu_model.specs.declared.request.Reply.{Reply}
use Rattle.apcu_model.specs.declared.request.Reply.TheVariants as replies
use Rattle.apcu_model.specs.Cache.{Row, Cache}
use Rattle.apcu_model.specs.Change.{Insertion, inserted}
use Rattle.apcu_model.specs.Counters.{integer_in, sum_of}
use Rattle.apcu_model.specs.Expiry.{live_row}
use Rattle.cache_core.specs.declared.scalar.Scalar.{Scalar}
use Rattle.cache_core.specs.declared.scalar.Scalar.TheVariants as scalars
use Rattle.counter_entry.specs.declared.answer.IncAnswer.{IncAnswer}
use Rattle.counter_entry.specs.declared.answer.IncAnswer.TheVariants.{NotInteger, NoRoom, Value}
use Rattle.counter_entry.specs.declared.looking.Found.{Found}
use Rattle.counter_entry.specs.declared.looking.Found.TheVariants.{Nothing, Other, Integer}

-- the integer that a scalar is
abbrev pub integer_of : Option Scalar → Option ℤ
integer_of None = None
integer_of (Some scalars.Null) = None
integer_of (Some (scalars.Bool b)) = None
integer_of (Some (scalars.Int n)) = Some n

-- a row at this place, and the integer that it holds
abbrev pub found_at : ℕ → Option ℤ → Found
found_at at (Some n) = Integer at n
found_at at None = Other

-- what a look-up finds
abbrev pub found_of : Option Row → Found
found_of None = Nothing
found_of (Some row) = found_at row.place (integer_in row.graph)

-- the result of storing a new counter with its step
abbrev pub new_counter : List ℕ → List ℕ → ℤ → ℕ → ℕ → Cache → Insertion
new_counter held key step ttl t c = inserted held key (kinds.Int step ∷ []) ttl false t c

-- the step, if it was stored
abbrev pub begun_answer : ℤ → StoreAnswer → IncAnswer
begun_answer step answers.Stored = Value step
begun_answer step answers.TooLarge = NoRoom
begun_answer step answers.Exists = NoRoom
begun_answer step answers.NoRoom = NoRoom

-- the sum, if there is an integer
abbrev pub sum_answer : ℤ → Option ℤ → IncAnswer
sum_answer step (Some n) = Value (sum_of n step)
sum_answer step None = NotInteger

abbrev pub answer_at : List ℕ → List ℕ → ℤ → ℕ → ℕ → Cache → Option Row → IncAnswer
answer_at held key step ttl t c (Some row) = sum_answer step (integer_in row.graph)
answer_at held key step ttl t c None =
    begun_answer step (new_counter held key step ttl t c).answer

-- The row that a look-up finds is counted up, or a new one is made. `held` is the list of the
-- places of blocks that are held in this event.
abbrev pub inc_answer : List ℕ → List ℕ → ℤ → ℕ → ℕ → Cache → IncAnswer
inc_answer held key step ttl t c = answer_at held key step ttl t c (live_row key t c)

-- the number that it returns, if any
abbrev pub number_answered : IncAnswer → Option ℤ
number_answered (Value n) = Some n
number_answered NotInteger = None
number_answered NoRoom = None

-- the reply of a single-threaded cache that it corresponds to
abbrev pub reply_of : IncAnswer → Reply
reply_of (Value n) = replies.Number n
reply_of NotInteger = replies.NoNumber
reply_of NoRoom = replies.NoNumber
