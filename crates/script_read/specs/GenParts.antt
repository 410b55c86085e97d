-- Generators, as they are made from the innermost outwards.
use Rattle.std.specs.Prelude.{ℕ, List, [], ◌∷◌}
use Rattle.php_graph.specs.declared.kind.Kind.{Kind}
use Rattle.apcu_model.specs.Levels.{EntryLevel, Generator}

-- a value alone
abbrev pub literal_gen : List Kind → Generator
literal_gen g = record { levels = []; literal = g }

-- an entry of this key and ttl around a generator
abbrev pub entry_round : List ℕ → ℕ → Generator → Generator
entry_round k t inner =
    let level : EntryLevel = record { key = k; ttl = t } in
    record { levels = level ∷ inner.levels; literal = inner.literal }
