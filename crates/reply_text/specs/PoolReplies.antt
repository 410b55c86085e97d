-- What a call on a pool prints for its own replies.
use Rattle.std.specs.Prelude.{ℕ, pos, int_lt, true, if◌then◌else◌, List, [], ◌∷◌, Option, Some}
use Rattle.std.specs.Prelude.{unwrap_or}
use Rattle.std.specs.List.{list_all}
use Rattle.php_graph.specs.declared.kind.Kind.{Kind}
use Rattle.notation.specs.Notation.{text_of}
use Rattle.apcu_model.specs.declared.request.Reply.{Reply}
use Rattle.simple_pool.specs.declared.call.PoolAsk.{PoolAsk}
use Rattle.simple_pool.specs.declared.call.PoolAsk.TheVariants.{Get, Set, SetPlain, Delete, Clear}
use Rattle.simple_pool.specs.declared.call.PoolAsk.TheVariants.{GetMany, SetMany, SetManyPlain}
use Rattle.simple_pool.specs.declared.call.PoolAsk.TheVariants.{DeleteMany, Has}
use Rattle.reply_text.specs.Replies.{flag_text, done_text, is_done, value_in, all_noted, array_text}
use Rattle.reply_text.specs.Replies.{value_members}

-- the value that was found, or else this one
abbrev pub value_or_default : List Kind → Reply → List Kind
value_or_default default reply = unwrap_or (value_in reply) default

abbrev pub got_text : List Kind → List Reply → List ℕ
got_text default [] = []
got_text default (reply ∷ replies) = text_of (value_or_default default reply)

-- what is noted for a key
abbrev pub got_in : List Kind → Reply → Option (List Kind)
got_in default reply = Some (value_or_default default reply)

-- each key with its value or the default: a repeated key keeps its place, with the later result
abbrev pub got_all_text : List Kind → List (List ℕ) → List Reply → List ℕ
got_all_text default keys replies =
    array_text (value_members 1 (all_noted (got_in default) [] keys replies))

-- whether all of it was stored
abbrev pub all_done_text : List Reply → List ℕ
all_done_text replies = flag_text (list_all is_done replies)

-- A set is done unless a value could not be stored; if its time to live is not positive it only
-- deletes, and a deletion is always done.
abbrev pub pool_text : PoolAsk → List Reply → List ℕ
pool_text (Get key default) replies = got_text default replies
pool_text (Set key value ttl) replies =
    if int_lt (pos 0) ttl then done_text replies else flag_text true
pool_text (SetPlain key value) replies = done_text replies
pool_text (Delete key) replies = flag_text true
pool_text Clear replies = flag_text true
pool_text (GetMany keys default) replies = got_all_text default keys replies
pool_text (SetMany pairs ttl) replies =
    if int_lt (pos 0) ttl then all_done_text replies else flag_text true
pool_text (SetManyPlain pairs) replies = all_done_text replies
pool_text (DeleteMany keys) replies = flag_text true
pool_text (Has key) replies = done_text replies
