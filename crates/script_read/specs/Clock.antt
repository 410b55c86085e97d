-- The moments of calls, as a clock sees them.
use Rattle.std.specs.Prelude.{ℕ, List, map}
use Rattle.apcu_model.specs.declared.conf.Clock.{Clock}
use Rattle.apcu_model.specs.declared.conf.Clock.TheVariants as clocks
use Rattle.script_read.specs.declared.call.Call.{Call}
use Rattle.script_read.specs.declared.effect.Moments.{Moments}
use Rattle.script_read.specs.declared.script.Step.{Step}

-- ---- while lines are read

-- both are 0 when a script begins
abbrev pub at_first : Moments
at_first = record { t = 0; start = 0 }

-- a request's start is a moment too
abbrev pub request_moments : ℕ → Moments
request_moments u = record { t = u; start = u }

abbrev pub step_at : Moments → Call → Step
step_at m call = record { t = m.t; start = m.start; call = call }

-- ---- while they are played

-- the moment of the call: that of its line, or the start of its request
abbrev pub moment_under : Clock → Step → ℕ
moment_under clocks.Line step = step.t
moment_under clocks.Request step = step.start

-- the call at that moment
abbrev pub timed_step : Clock → Step → Step
timed_step clock step = record step { t = moment_under clock step }

-- a script, and all scripts, as the clock sees them
abbrev pub timed : Clock → List Step → List Step
timed clock script = map (timed_step clock) script

abbrev pub all_timed : Clock → List (List Step) → List (List Step)
all_timed clock scripts = map (timed clock) scripts
