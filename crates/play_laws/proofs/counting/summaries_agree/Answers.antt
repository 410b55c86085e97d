use Rattle.play_laws.proofs.OneSummary.{none_expunged, all_stored, agreed}
use Rattle.play_laws.proofs.counting.summaries_agree.Goals as goal

pub returns : goal.returns
returns c = record { no_expunge = none_expunged; stored = all_stored; summary = agreed }
