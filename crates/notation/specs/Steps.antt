-- The effect of one item on a graph that is being read, as far as a reader uses it.
use Rattle.std.specs.Prelude.{◌≡◌, ℕ, ◌+◌, ◌<◌, Bool, true, false, length, Option, Some, None}
use Rattle.php_graph.specs.declared.item.Item.{Item}
use Rattle.php_graph.specs.declared.item.Item.TheVariants as items
use Rattle.php_graph.specs.declared.item.Wants.{Wants}
use Rattle.php_graph.specs.declared.item.Wants.TheVariants as wants
use Rattle.php_graph.specs.Building.{Draft}

-- how many containers the item opens
abbrev pub opens : Item → ℕ
opens items.OpenArray = 1
opens (items.OpenObject class) = 1
opens _ = 0

abbrev pub opened_count : Option ℕ → ℕ
opened_count None = 0
opened_count (Some n) = 1

-- a value was written, and the container that it opens if it is one
pub record IsValueStep (before after : Draft) (containers : ℕ) : Type 0 where
  pub containers_are : length after.containers ≡ length before.containers + containers
  pub no_key : after.key ≡ None
  pub some : 0 < length after.places

-- a key, or the end of a container, is expected
abbrev pub wants_key : Wants → Bool
wants_key wants.ArrayKey = true
wants_key wants.Name = true
wants_key _ = false
