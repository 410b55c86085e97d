use Rattle.ttl_expunge.proofs.RoomLemmas.{dropped_later}
use Rattle.ttl_expunge.proofs.OpenWindows.{drops_open, drops_held, open_on}
use Rattle.ttl_expunge.proofs.laws.drop_laws.Goals as goal

pub returns : goal.returns
returns c = record {
  later = λ s new before after later t gone d on. dropped_later d later on;
  keeps = λ s new words windows before after t gone sound from d. drops_open s new before after t gone sound from d;
  held = drops_held;
  joined = open_on;
}
