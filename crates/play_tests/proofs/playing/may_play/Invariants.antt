-- The events so far, and those of the steps that are left, are all.
use Rattle.std.proofs.Common.{◌≡◌, ◌<◌, ◌+◌, drop}
use Rattle.script_read.specs.Budgets.{events_in}
use Rattle.play_tests.proofs.playing.may_play.Given as goal

abbrev pub invariant-loop-i : goal.invariant-loop-i
invariant-loop-i l = record {
  all : l.events + events_in l.slots (drop l.i l.script) ≡ events_in l.slots l.script;
  few : l.events < l.left;
}
