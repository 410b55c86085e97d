use Rattle.script_read.proofs.SpelledRanges.{spelled_ranged, spelled_keys, timed_ranged, timed_keys}
use Rattle.script_read.proofs.laws.scripts_are_ranged.Goals as goal

pub returns : goal.returns
returns c = record { ranged = spelled_ranged; keys = spelled_keys; timed = timed_ranged; timed_keys = timed_keys }
