use Rattle.script_read.specs.declared.script.Step.{Step}
use Rattle.script_read.specs.Patterns.{call_pattern}
use Rattle.script_search.specs.ReadPatterns.{IsReadable}
use Rattle.script_search.proofs.ReadablePatterns.{First}
use Rattle.script_search.proofs.try_script.Given as goal

abbrev pub invariant-loop-number : goal.invariant-loop-number
invariant-loop-number g l = First (λ (step : Step). IsReadable (call_pattern step.call)) l.script l.number
