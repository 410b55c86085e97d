-- A pool's map: what a pool keeps, as if it were alone. The keys are those of the cache.
use Rattle.std.specs.Prelude.{ℕ, ◌+◌, ◌-◌, ◌%◌, ◌==◌, ◌&&◌, ◌||◌, not, nat_le, nat_lt, Bool, true}
use Rattle.std.specs.Prelude.{if◌then◌else◌, List, ◌∷◌, filter, count_by, Option, Some, None}
use Rattle.std.specs.Prelude.{find, unwrap_or, is_some}
use Rattle.std.specs.List.{range_with_len}
use Rattle.std.specs.Str.{bytes_eq}
use Rattle.php_graph.specs.declared.kind.Kind.{Kind}
use Rattle.php_graph.specs.Numbers.{hash_of}
use Rattle.apcu_model.specs.declared.request.Request.{Request}
use Rattle.apcu_model.specs.declared.request.Request.TheVariants.{Store, Fetch, Exists, Delete}
use Rattle.apcu_model.specs.declared.request.Request.TheVariants.{ChunkDelete}
use Rattle.apcu_model.specs.declared.request.Reply.{Reply}
use Rattle.apcu_model.specs.declared.request.Reply.TheVariants.{Flag, Found, Absent, Ended}
use Rattle.apcu_model.specs.declared.request.Reply.TheVariants as replies
use Rattle.simple_pool.specs.Requests.{pool_step}

-- A key with its value, the moment at which it was set, and how long it lives, in seconds; 0 is no
-- limit.
pub record Entry : Type 0 where
  pub key : List ℕ
  pub value : List Kind
  pub ctime : ℕ
  pub ttl : ℕ

abbrev pub is_there : ℕ → Entry → Bool
is_there t e = e.ttl == 0 || nat_le t (e.ctime + e.ttl)

abbrev pub is_under : List ℕ → Entry → Bool
is_under key e = bytes_eq e.key key

-- what the map has under the key at the moment t
abbrev pub entry_under : List ℕ → ℕ → List Entry → Option Entry
entry_under key t m = find (λ e. is_under key e && is_there t e) m

abbrev pub without : List ℕ → List Entry → List Entry
without key m = filter (λ e. not (is_under key e)) m

-- each key occurs once, so the old entry of the key is removed
abbrev pub with_entry : Entry → List Entry → List Entry
with_entry new m = new ∷ without new.key m

-- the key's slot is one of those from a slot on to before another
abbrev pub is_between : ℕ → ℕ → ℕ → List ℕ → Bool
is_between slots from upto key =
    nat_le from (hash_of key % slots) && nat_lt (hash_of key % slots) upto

-- the number of keys of these slots that exist
abbrev pub there_between : ℕ → ℕ → ℕ → ℕ → List Entry → ℕ
there_between slots from upto t m =
    count_by (λ (e : Entry). is_there t e && is_between slots from upto e.key) m

-- The end of a step of clearing that begins at a slot: as few slots as hold that many existing
-- keys, or all slots that are left. It is the first slot after them.
abbrev pub clear_end : ℕ → ℕ → ℕ → ℕ → List Entry → ℕ
clear_end slots from size t m =
    unwrap_or
    (find (λ upto. nat_le size (there_between slots from upto t m))
    (range_with_len from (slots - from)))
    slots

-- what such a step removes
abbrev pub is_cleared : ℕ → ℕ → ℕ → ℕ → Entry → Bool
is_cleared slots from upto t e = is_there t e && is_between slots from upto e.key

abbrev pub found_in_map : Option Entry → Reply
found_in_map (Some e) = Found e.value
found_in_map None = Absent

-- the reply of the map of a pool, in a cache of this many slots
abbrev pub map_reply : ℕ → ℕ → Request → List Entry → Reply
map_reply slots t (Store key value ttl exclusive) m = Flag true
map_reply slots t (Fetch key) m = found_in_map (entry_under key t m)
map_reply slots t (Exists key) m = Flag (is_some (entry_under key t m))
map_reply slots t (Delete key) m = Flag (is_some (entry_under key t m))
map_reply slots t (ChunkDelete wanted from size) m =
    replies.Next (clear_end slots from pool_step t m)
map_reply slots t _ m = Ended

-- and the map after it
abbrev pub map_after : ℕ → ℕ → Request → List Entry → List Entry
map_after slots t (Store key value ttl exclusive) m =
    with_entry (record { key = key; value = value; ctime = t; ttl = ttl }) m
map_after slots t (Delete key) m = if is_some (entry_under key t m) then without key m else m
map_after slots t (ChunkDelete wanted from size) m =
    filter (λ e. not (is_cleared slots from (clear_end slots from pool_step t m) t e)) m
map_after slots t _ m = m
