use Rattle.std.proofs.Common.{◌≡◌, fold, drop}
use Rattle.php_graph.specs.Numbers.{hash_step}
use Rattle.php_graph.proofs.numbers.hash_of.Given as goal

-- the rest of the key takes the hash to its end
abbrev pub invariant-loop-byte : goal.invariant-loop-byte
invariant-loop-byte l = fold hash_step l.hash (drop l.byte-index l.key) ≡ fold hash_step 5381 l.key
