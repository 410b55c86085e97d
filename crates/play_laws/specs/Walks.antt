-- Walks of an iterator over the active rows: step after step, each from the slot at which the one
-- before ended.
use Rattle.std.specs.Prelude.{◌≡◌, ℕ, ◌==◌, ◌&&◌, not, Bool, true, false, if◌then◌else◌, List, []}
use Rattle.std.specs.Prelude.{◌∷◌, length, map, count_by, Option}
use Rattle.std.specs.List.{flat_map, list_all, list_any}
use Rattle.std.specs.Str.{bytes_eq}
use Rattle.apcu_model.specs.declared.conf.Conf.{Conf}
use Rattle.apcu_model.specs.declared.searching.Pattern.{Pattern}
use Rattle.apcu_model.specs.declared.searching.List.TheVariants.{Active}
use Rattle.apcu_model.specs.declared.searching.Fields.{Fields}
use Rattle.apcu_model.specs.declared.items.ItemRow.{ItemRow}
use Rattle.apcu_model.specs.declared.items.Chunk.{Chunk}
use Rattle.apcu_model.specs.Cache.{Cache, has_key}
use Rattle.apcu_model.specs.Rows.{are_apart}
use Rattle.apcu_model.specs.Chunks.{is_item, chunk_of}

-- A step: the cache at that time, and the moment in seconds. Nothing is said of what is done to the
-- cache between two steps.
pub record WalkStep : Type 0 where
  pub cache : Cache
  pub t : ℕ

-- the caches are of one shape, and no two rows of a cache have the same key
abbrev pub AreSteps : Conf → List WalkStep → Type 0
AreSteps conf [] = Unit {0}
AreSteps conf (step ∷ steps) =
    (step.cache.conf ≡ conf) × (are_apart step.cache.rows ≡ true) × AreSteps conf steps

-- what the steps return: the first from a slot on, each later one from the `next` of the one before
abbrev pub walk_chunks : Option Pattern → ℕ → Fields → ℕ → List WalkStep → List Chunk
walk_chunks wanted size fields from [] = []
walk_chunks wanted size fields from (step ∷ steps) =
    let chunk = chunk_of wanted from size Active fields step.t step.cache in
    chunk ∷ walk_chunks wanted size fields chunk.next steps

-- the keys of the items, in order
abbrev pub chunk_keys : Chunk → List (List ℕ)
chunk_keys chunk = map {A = ItemRow} (λ item. item.key) chunk.items

-- the keys that a walk from the slot 0 on returns, in order
abbrev pub walk_keys : Option Pattern → ℕ → Fields → List WalkStep → List (List ℕ)
walk_keys wanted size fields steps = flat_map chunk_keys (walk_chunks wanted size fields 0 steps)

-- how often a key occurs among some
abbrev pub times_given : List ℕ → List (List ℕ) → ℕ
times_given key keys = count_by (λ k. bytes_eq k key) keys

-- no step has reached the end, so the walk continues
abbrev pub is_under_way : ℕ → List Chunk → Bool
is_under_way slots chunks = list_all (λ (chunk : Chunk). not (chunk.next == slots)) chunks

-- the last step has reached the end, and none before it
abbrev pub is_whole_walk : ℕ → List Chunk → Bool
is_whole_walk slots [] = false
is_whole_walk slots (chunk ∷ chunks) =
    if chunk.next == slots then length chunks == 0 else is_whole_walk slots chunks

-- the key is present at this step and matches, and its row is not hard expired
abbrev pub has_item : Option Pattern → List ℕ → WalkStep → Bool
has_item wanted key step =
    list_any (λ row. has_key key row && is_item wanted step.t row) step.cache.rows
