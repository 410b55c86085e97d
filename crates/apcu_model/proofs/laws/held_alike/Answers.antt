use Rattle.apcu_model.proofs.HeldPlaces.{cache_alike, reply_alike, entered_alike}
use Rattle.apcu_model.proofs.laws.held_alike.Goals as goal

pub returns : goal.returns
returns c = record { cache = cache_alike; reply = reply_alike; entered = entered_alike }
