use Rattle.std.proofs.Common.{◌≡◌, true, drop}
use Rattle.std.specs.List.{list_all}
use Rattle.std.specs.Char.{is_ascii_digit}
use Rattle.php_graph.specs.Numbers.{digits_after}
use Rattle.php_graph.proofs.numbers.small_number.Given as goal

-- the rest of the digits takes the number to its end
abbrev pub invariant-loop-digit : goal.invariant-loop-digit
invariant-loop-digit l = (digits_after l.number (drop l.digit-index l.digits) ≡ digits_after 0 l.digits) × (list_all is_ascii_digit (drop l.digit-index l.digits) ≡ true)
