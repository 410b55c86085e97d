use Rattle.apcu_model.proofs.RoomCounts as lemmas
use Rattle.apcu_model.proofs.laws.count_laws.Goals as goal

pub returns : goal.returns
returns c = record { kept = lemmas.kept; forgotten = lemmas.forgotten }
