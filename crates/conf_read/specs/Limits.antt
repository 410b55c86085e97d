-- The limits that the pages state, as numbers.
use Rattle.std.specs.Prelude.{◌≡◌, ◌*◌}
use Rattle.php_graph.specs.declared.builder.TheConstants as graphs
use Rattle.apcu_model.specs.declared.conf.TheConstants as shapes
use Rattle.apcu_model.specs.declared.journal.TheConstants as journals
use Rattle.apcu_model.specs.declared.limits.TheConstants as inputs
use Rattle.conf_read.specs.declared.numbers.TheConstants as options

pub record AreLimits : Type 0 where
  pub words : shapes.MOST_WORDS ≡ 16777216
  pub usable_words : shapes.MOST_USABLE_WORDS ≡ 268435456
  pub slots : shapes.MOST_SLOTS ≡ 1048576
  pub segments : shapes.MOST_SEGMENTS ≡ 64
  pub bytes : options.MOST_BYTES ≡ 8 * shapes.MOST_WORDS
  pub workers : inputs.MOST_WORKERS ≡ 64
  pub input : inputs.LONGEST_INPUT ≡ 67108864
  pub events : journals.MOST_EVENTS ≡ 4194304
  pub values : graphs.MOST_VALUES ≡ 16777216
