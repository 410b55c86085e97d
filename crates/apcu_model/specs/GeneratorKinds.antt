-- The entries of a generator and the value inside, by its outermost part.
use Rattle.std.specs.Prelude.{[], ◌∷◌}
use Rattle.apcu_model.specs.declared.generator.GenKind.{GenKind}
use Rattle.apcu_model.specs.declared.generator.GenKind.TheVariants.{Value, Entry}
use Rattle.apcu_model.specs.Levels.{EntryLevel, Generator}

abbrev pub generator_of : GenKind → Generator
generator_of (Value value) = record { levels = []; literal = value }
generator_of (Entry key ttl inner) =
    let level : EntryLevel = record { key = key; ttl = ttl } in
    record { levels = level ∷ inner.value.levels; literal = inner.value.literal }
