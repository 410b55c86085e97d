-- What the program is called for, besides the shape of its cache and its clock.
use Rattle.std.specs.Prelude.{◌≡◌, ℕ, ◌≤◌, Bool, true, false, not, ◌&&◌, ◌==◌, nat_le}
use Rattle.std.specs.Prelude.{if◌then◌else◌, Option, Some, None, is_none, IfSome}
use Rattle.apcu_model.specs.declared.conf.Conf.{Conf}
use Rattle.apcu_model.specs.declared.limits.TheConstants.{LONGEST_INPUT, MOST_WORKERS}
use Rattle.conf_read.specs.declared.task.Task.{Task}
use Rattle.conf_read.specs.declared.task.Task.TheVariants.{Play, Generate, Verify}
use Rattle.conf_read.specs.declared.task.Choices.{Choices}

-- one segment of at least 8 MB, of which the slots take at most 32 KB: what generated scripts store
-- fits into it
abbrev pub is_large : Conf → Bool
is_large conf = conf.segments == 1 && (nat_le 1048576 conf.words && nat_le conf.slots 4096)

-- no bundle and no map, which belong to a play of the input's scripts
abbrev pub is_plain : Choices → Bool
is_plain choices = is_none choices.bundle && choices.map == 0

-- a task unless something excludes it
abbrev pub task_if : Bool → Task → Option Task
task_if true task = Some task
task_if false task = None

-- A number makes scripts of this many workers with this many calls each; a length is the number of
-- bytes of scripts by which an output is judged; without either the input's scripts are played.
-- Only one of the three is possible, and the options of a play are possible with no other.
abbrev pub task_by : Conf → Option ℕ → ℕ → ℕ → Option ℕ → Choices → Option Task
task_by conf None crew each None choices = Some (Play choices.bundle (not (choices.map == 0)))
task_by conf None crew each (Some scripts) choices = task_if (is_plain choices) (Verify scripts)
task_by conf (Some seed) crew each judged choices =
    task_if (is_large conf && (is_none judged && is_plain choices)) (Generate seed crew each)

-- the cache's shape suits the task, and its numbers are in their bounds
abbrev pub SuitsTask : Conf → Task → Type 0
SuitsTask conf (Play bundle map) = IfSome bundle (λ n. n ≤ LONGEST_INPUT)
SuitsTask conf (Generate seed crew each) =
    (conf.segments ≡ 1) × (1048576 ≤ conf.words) × (conf.slots ≤ 4096)
    × (1 ≤ crew) × (crew ≤ MOST_WORKERS) × (each ≤ 1000000)
SuitsTask conf (Verify scripts) = scripts ≤ LONGEST_INPUT
