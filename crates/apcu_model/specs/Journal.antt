-- A journal, and the room that is left in it.
use Rattle.std.specs.Prelude.{ℕ, List}
use Rattle.apcu_model.specs.declared.journal.Mark.{Mark}

pub record Marks : Type 0 where
  pub marks : List Mark
  -- how many more it can take without allocating memory
  pub room : ℕ
