use Rattle.std.proofs.Common.{◌≡◌, ◌+◌, ◌-◌, length}
use Rattle.script_read.specs.Clock.{all_timed}
use Rattle.run_verify.specs.Games.{IsGame}
use Rattle.run_verify.specs.JudgedOutputs.{IsJudgedTo}
use Rattle.run_verify.proofs.verifying.judge.Given as goal

abbrev pub invariant-lines : goal.invariant-lines
invariant-lines g l = record {
  judged : IsJudgedTo l.conf (all_timed l.clock l.scripts) l.output l.part l.at l.k l.played.state.play;
  game : IsGame l.conf (all_timed l.clock l.scripts) l.replay l.seats.items l.played.state;
  left : l.replay.left + l.k ≡ l.events;
}

abbrev pub decreases-lines : goal.decreases-lines
decreases-lines g l = length l.output - l.at
