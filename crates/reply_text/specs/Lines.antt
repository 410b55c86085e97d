-- What the calls of scripts print.
use Rattle.std.specs.Prelude.{ℕ, ◌-◌, true, List, [], ◌∷◌, ◌++◌, length, take, map}
use Rattle.apcu_model.specs.declared.conf.Conf.{Conf}
use Rattle.apcu_model.specs.declared.request.Reply.{Reply}
use Rattle.script_read.specs.declared.call.Call.{Call}
use Rattle.script_read.specs.declared.call.Call.TheVariants.{StoreOne, StoreMany, FetchOne}
use Rattle.script_read.specs.declared.call.Call.TheVariants.{FetchMany, ExistsOne, ExistsMany}
use Rattle.script_read.specs.declared.call.Call.TheVariants.{DeleteOne, DeleteMany, Inc, Cas, Clear}
use Rattle.script_read.specs.declared.call.Call.TheVariants.{Enabled, Entry, KeyInfo, CacheInfo}
use Rattle.script_read.specs.declared.call.Call.TheVariants.{SmaInfo, Walk, WalkDelete, Totals}
use Rattle.script_read.specs.declared.call.Call.TheVariants.{Pool}
use Rattle.script_read.specs.declared.script.Step.{Step}
use Rattle.script_read.specs.Grammar.{ends_line}
use Rattle.script_read.specs.Play.{Next, Asks, Leaves, next_of}
use Rattle.reply_text.specs.Replies.{flag_text, done_text, fetched_text, number_text, unstored_text}
use Rattle.reply_text.specs.Replies.{undeleted_text, there_text, found_text, gave_text, info_text}
use Rattle.reply_text.specs.Items.{walk_text, totals_text}
use Rattle.reply_text.specs.PoolReplies.{pool_text}

-- what a call prints for its own replies
abbrev pub call_text : Call → List Reply → List ℕ
call_text (StoreOne key value ttl exclusive) replies = done_text replies
call_text (StoreMany pairs ttl exclusive) replies =
    unstored_text (map (λ pair. pair.0) pairs) replies
call_text (FetchOne key) replies = fetched_text replies
call_text (FetchMany keys) replies = found_text keys replies
call_text (ExistsOne key) replies = done_text replies
call_text (ExistsMany keys) replies = there_text keys replies
call_text (DeleteOne key) replies = done_text replies
call_text (DeleteMany keys) replies = undeleted_text keys replies
call_text (Inc key step ttl) replies = number_text replies
call_text (Cas key expect set) replies = done_text replies
call_text (Entry gen) replies = gave_text replies
call_text Clear replies = flag_text true
call_text Enabled replies = flag_text true
call_text (KeyInfo key) replies = info_text replies
call_text (CacheInfo limited) replies = info_text replies
call_text (SmaInfo limited) replies = info_text replies
call_text (Walk wanted fields size list) replies = walk_text fields replies
call_text (WalkDelete wanted size) replies = flag_text true
call_text (Totals wanted list) replies = totals_text replies
call_text (Pool call) replies = pool_text call.ask replies

-- the replies before these others
abbrev pub before : List Reply → List Reply → List Reply
before others replies = take (length replies - length others) replies

-- the call's line, and the lines of those after it; nothing of a call that is not done
abbrev pub call_lines : Call → List Reply → (List Reply → List ℕ) → Next → List ℕ
call_lines call replies later (Asks request) = []
call_lines call replies later (Leaves others) =
    call_text call (before others replies) ++ ends_line ++ later others

-- a line for each call of a script, which has its own replies alone
abbrev pub script_lines : Conf → List Step → List Reply → List ℕ
script_lines conf [] replies = []
script_lines conf (step ∷ steps) replies =
    call_lines step.call replies (script_lines conf steps) (next_of conf step.call replies)

-- for each worker the lines of its calls
abbrev pub texts_of : Conf → List (List Step) → List (List Reply) → List (List ℕ)
texts_of conf [] replies = []
texts_of conf (script ∷ scripts) [] = []
texts_of conf (script ∷ scripts) (replies ∷ others) =
    script_lines conf script replies ∷ texts_of conf scripts others
