-- What contracts see of a generator.
use Rattle.std.specs.Prelude.{ℕ, List}
use Rattle.php_graph.specs.declared.kind.Kind.{Kind}

-- one `apcu_entry` of a generator: under which key, and how long a new row lives, in seconds
pub record EntryLevel : Type 0 where
  pub key : List ℕ
  pub ttl : ℕ

-- the entries from outside in, and the value inside the innermost
pub record Generator : Type 0 where
  pub levels : List EntryLevel
  pub literal : List Kind

-- how many entries may be nested, the outermost included
abbrev pub most_levels : ℕ
most_levels = 8
