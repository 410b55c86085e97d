use Rattle.std.proofs.Common.{◌≡◌, ◌+◌, ◌*◌, ◌≤◌, ◌++◌, drop, length}
use Rattle.std.specs.Prelude.{vec_capacity, vec_len}
use Rattle.apcu_model.specs.InfoGraphs.{number_places}
use Rattle.info_tables.proofs.telling.push_places.Given as goal

abbrev pub invariant-loop-n : goal.invariant-loop-n
invariant-loop-n l = record {
  places : l.others.items ++ number_places l.at (drop l.n-index l.numbers) ≡ l.initial.others.items ++ number_places l.fn.at l.numbers;
  at : l.at ≡ l.fn.at + 2 * l.n-index;
  room : vec_len l.others + length (drop l.n-index l.numbers) ≤ vec_capacity l.others;
}
