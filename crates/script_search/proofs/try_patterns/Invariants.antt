use Rattle.script_search.specs.ReadPatterns.{IsReadableScript}
use Rattle.script_search.proofs.ReadablePatterns.{First}
use Rattle.script_search.proofs.try_patterns.Given as goal

abbrev pub invariant-loop-worker : goal.invariant-loop-worker
invariant-loop-worker g l = First IsReadableScript l.scripts l.worker
