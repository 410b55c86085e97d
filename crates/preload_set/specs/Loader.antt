-- The script that stores a bundle, and its effect.
use Rattle.std.specs.Prelude.{◌≡◌, ℕ, if◌then◌else◌, true, false, List, [], ◌∷◌, ◌++◌, length, map}
use Rattle.std.specs.Prelude.{filter, sum_by, Option, Some, None}
use Rattle.std.specs.Option.{option_to_list}
use Rattle.std.specs.Str.{bytes_eq}
use Rattle.php_graph.specs.declared.kind.Kind.{Kind}
use Rattle.php_graph.specs.Size.{block_size}
use Rattle.apcu_model.specs.declared.conf.Conf.{Conf}
use Rattle.apcu_model.specs.declared.journal.Mark.{Mark}
use Rattle.apcu_model.specs.declared.request.Reply.TheVariants.{Flag, Ended}
use Rattle.apcu_model.specs.Cache.{Cache, has_key}
use Rattle.script_read.specs.declared.call.Call.TheVariants.{StoreOne}
use Rattle.script_read.specs.declared.script.Step.{Step}
use Rattle.script_read.specs.Arguments.{or_else}
use Rattle.script_read.specs.GeneratedScripts.{step_now}
use Rattle.script_read.specs.Play.{Play, replies_of, played}
use Rattle.preload_set.specs.Bundle.{Record}

-- each record in turn is stored without time limit, replacing what its key had, at the moment 0
abbrev pub loader_of : List Record → List Step
loader_of records = map (λ r. step_now (StoreOne r.0 r.1 0 false)) records

-- the words of the blocks of all records, repeated keys too
abbrev pub record_words : List Record → ℕ
record_words records = sum_by (λ r. block_size (length r.0) r.1) records

-- the value of a key's last record, if it has one
abbrev pub last_value : List ℕ → List Record → Option (List Kind)
last_value key [] = None
last_value key (r ∷ records) =
    or_else (last_value key records) (if bytes_eq r.0 key then Some r.1 else None)

-- what a cache has under a key: the values of its rows of this key
abbrev pub values_at : List ℕ → Cache → List (List Kind)
values_at key c = map (λ row. row.graph) (filter (has_key key) c.rows)

-- The worker stored all records and ended. There was no expunge, and there is one row for each key
-- of the records, with the value of the key's last one, and no other row.
pub record IsLoaded (worker : ℕ) (records : List Record) (p : Play) : Type 0 where
  pub replies : replies_of p worker ≡ map (λ r. Flag true) records ++ Ended ∷ []
  pub expunges : p.stage.cache.expunges ≡ 0
  pub values : (key : List ℕ)
      → values_at key p.stage.cache ≡ option_to_list (last_value key records)

-- A journal of the worker's own events can be played, and then the records are loaded.
pub record IsPlayedFirst (conf : Conf) (scripts : List (List Step)) (worker : ℕ)
    (records : List Record) (own : List Mark) : Type 0 where
  pub play : Play
  pub plays : played conf scripts own ≡ Some play
  pub loaded : IsLoaded worker records play
