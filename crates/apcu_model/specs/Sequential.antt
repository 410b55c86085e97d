-- The reply of the single-threaded cache to a request, and the cache after it. `held` is the list
-- of the places of blocks that are held in this event, t the time.
use Rattle.std.specs.Prelude.{ℕ, ℤ, Bool, true, false, List, Option, Some, None, is_some}
use Rattle.php_graph.specs.declared.kind.Kind.{Kind}
use Rattle.apcu_model.specs.declared.request.StoreAnswer.{StoreAnswer}
use Rattle.apcu_model.specs.declared.request.StoreAnswer.TheVariants as answers
use Rattle.apcu_model.specs.declared.request.Request.{Request}
use Rattle.apcu_model.specs.declared.request.Request.TheVariants.{Store, Fetch, Exists, Delete}
use Rattle.apcu_model.specs.declared.request.Request.TheVariants.{Inc, Cas, Entry, Clear, KeyInfo}
use Rattle.apcu_model.specs.declared.request.Request.TheVariants.{CacheInfo, SmaInfo}
use Rattle.apcu_model.specs.declared.request.Request.TheVariants.{Chunk, ChunkDelete}
use Rattle.apcu_model.specs.declared.request.Request.TheVariants.{Totals, Retire}
use Rattle.apcu_model.specs.declared.request.Reply.{Reply}
use Rattle.apcu_model.specs.declared.request.Reply.TheVariants.{Flag, Found, Absent, Number}
use Rattle.apcu_model.specs.declared.request.Reply.TheVariants.{NoNumber, Gave, Info, Ended}
use Rattle.apcu_model.specs.declared.request.Reply.TheVariants as replies
use Rattle.apcu_model.specs.Cache.{Row, Cache}
use Rattle.apcu_model.specs.Expiry.{live_row}
use Rattle.apcu_model.specs.Change.{inserted, deleted, cleared}
use Rattle.apcu_model.specs.Counters.{counted, swapped, is_expected}
use Rattle.apcu_model.specs.Generators.{given_by, entered}
use Rattle.apcu_model.specs.Infos.{key_info_of, cache_info_of, sma_info_of}
use Rattle.apcu_model.specs.Chunks.{chunk_of, chunk_end, chunk_dropped, all_items, totals_of}
pub use Rattle.apcu_model.specs.Lookups.{touched, looked_up}

abbrev pub is_stored : StoreAnswer → Bool
is_stored answers.Stored = true
is_stored answers.TooLarge = false
is_stored answers.Exists = false
is_stored answers.NoRoom = false

-- the value of the row that was found
abbrev pub found_in : Option Row → Reply
found_in (Some row) = Found row.graph
found_in None = Absent

-- the new value of a counter, if it counted
abbrev pub number_reply : Option ℤ → Reply
number_reply (Some n) = Number n
number_reply None = NoNumber

-- information about a row, if one was found
abbrev pub info_reply : Option (List Kind) → Reply
info_reply (Some info) = Info info
info_reply None = Absent

-- a request of an iterator
abbrev pub is_iteration : Request → Bool
is_iteration (Chunk wanted from size list fields) = true
is_iteration (ChunkDelete wanted from size) = true
is_iteration (Totals wanted list) = true
is_iteration _ = false

abbrev pub reply_to : List ℕ → ℕ → Request → Cache → Reply
reply_to held t (Store key value ttl exclusive) c =
    Flag (is_stored (inserted held key value ttl exclusive t c).answer)
reply_to held t (Fetch key) c = found_in (live_row key t c)
reply_to held t (Exists key) c = Flag (is_some (live_row key t c))
reply_to held t (Delete key) c = Flag (is_some (live_row key t c))
reply_to held t (Inc key step ttl) c = number_reply (counted held key step ttl t c).number
reply_to held t (Cas key expect set) c = Flag (is_expected expect (live_row key t c))
reply_to held t (Entry g) c = Gave (given_by g t c)
reply_to held t Clear c = Flag true
reply_to held t (KeyInfo key) c = info_reply (key_info_of key t c)
reply_to held t (CacheInfo limited) c = Info (cache_info_of limited c)
reply_to held t (SmaInfo limited) c = Info (sma_info_of limited c)
reply_to held t (Chunk wanted from size list fields) c =
    replies.Chunk (chunk_of wanted from size list fields t c)
reply_to held t (ChunkDelete wanted from size) c = replies.Next (chunk_end wanted t c from size)
reply_to held t (Totals wanted list) c = totals_of (all_items wanted list t c)
reply_to held t Retire c = Ended

abbrev pub cache_after : List ℕ → ℕ → Request → Cache → Cache
cache_after held t (Store key value ttl exclusive) c =
    (inserted held key value ttl exclusive t c).cache
cache_after held t (Fetch key) c = looked_up key t (live_row key t c) c
cache_after held t (Exists key) c = c
cache_after held t (Delete key) c = deleted held key t c
cache_after held t (Inc key step ttl) c = (counted held key step ttl t c).cache
cache_after held t (Cas key expect set) c = swapped key expect set t c
cache_after held t (Entry g) c = (entered held g t c).cache
cache_after held t Clear c = cleared held t c
cache_after held t (KeyInfo key) c = c
cache_after held t (CacheInfo limited) c = c
cache_after held t (SmaInfo limited) c = c
cache_after held t (Chunk wanted from size list fields) c = c
cache_after held t (ChunkDelete wanted from size) c = chunk_dropped held wanted from size t c
cache_after held t (Totals wanted list) c = c
cache_after held t Retire c = c
