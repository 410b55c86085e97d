use Rattle.preload_set.proofs.Loaders.{loader_timed, loader_events, loader_plain}
use Rattle.preload_set.proofs.LoaderRanges.{crew_ranged, crew_keys}
use Rattle.preload_set.proofs.laws.loaders_only_store.Goals as goal

pub returns-clause-timed : goal.returns-clause-timed
returns-clause-timed c = loader_timed

pub returns-clause-events : goal.returns-clause-events
returns-clause-events c = loader_events

pub returns-clause-patterns : goal.returns-clause-patterns
returns-clause-patterns c = loader_plain

pub returns-clause-ranged : goal.returns-clause-ranged
returns-clause-ranged c = crew_ranged

pub returns-clause-keys : goal.returns-clause-keys
returns-clause-keys c = crew_keys
