use Rattle.play_laws.proofs.CallWalks as lemmas
use Rattle.play_laws.proofs.walks.calls_are_walks.Goals as goal

pub returns : goal.returns
returns c = record { walk = lemmas.walk; whole = lemmas.whole c.events_keep.ensures }
