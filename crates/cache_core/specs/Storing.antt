-- A value is stored.
use Rattle.std.specs.Prelude.{ℕ, List, length}
use Rattle.php_graph.specs.declared.kind.Kind.{Kind}
use Rattle.php_graph.specs.Size.{block_size}
use Rattle.apcu_model.specs.Cache.{Cache, gap_of}
use Rattle.apcu_model.specs.Change.{Insertion, with_room, put_in}

-- a new row is added, for which room is made: what is left of storing once it is not refused
abbrev pub added : List ℕ → List ℕ → List Kind → ℕ → ℕ → Cache → Insertion
added held key graph ttl t c =
    let n = block_size (length key) graph in
    let room = with_room held n t c in
    put_in held key graph ttl t n room (gap_of room n)
