-- What fields of an item hold in the code.
use Rattle.std.specs.Prelude.{ℕ, List, [], ◌∷◌}
use Rattle.std.specs.Borrow.{Bor}
use Rattle.php_graph.specs.declared.kind.Kind.{Kind}
use Rattle.php_graph.specs.declared.kind.Kind.TheVariants as kinds
use Rattle.apcu_model.specs.Infos.{info_number, info_string}
use Rattle.reply_text.specs.declared.fields.Held.{Held}
use Rattle.reply_text.specs.declared.fields.Held.TheVariants.{Text, Number, Value, Null}
use Rattle.reply_text.specs.Items.{NamedValue}

-- the value
abbrev pub held_value : Held → List Kind
held_value (Text bytes) = info_string bytes.now 1
held_value (Number n) = info_number n 1
held_value (Value value) = value.now
held_value Null = kinds.Null ∷ []

-- and its name
abbrev pub field_value : Bor (List ℕ) × Held → NamedValue
field_value field = (field.0.now, held_value field.1)
