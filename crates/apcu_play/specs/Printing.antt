-- The output of a play.
use Rattle.std.specs.Prelude.{◌≡◌, ℕ, Bool, List, ◌++◌, Option, Some, None}
use Rattle.apcu_model.specs.declared.conf.Clock.{Clock}
use Rattle.apcu_model.specs.declared.conf.Conf.{Conf}
use Rattle.apcu_model.specs.declared.journal.Mark.{Mark}
use Rattle.cache_core.specs.CoreCache.{cache_of}
use Rattle.script_read.specs.declared.script.Step.{Step}
use Rattle.script_read.specs.Clock.{all_timed}
use Rattle.script_read.specs.Play.{IsLegal, IsCompletePlay}
use Rattle.crew_play.specs.declared.play.Left.{Left}
use Rattle.reply_text.specs.Output.{journal_lines}
use Rattle.seg_report.specs.Lines.{map_text}
use Rattle.run_verify.specs.declared.verifying.Verdict.{Verdict}
use Rattle.run_verify.specs.Verdicts.{verdict_of}
use Rattle.script_search.specs.ReadPatterns.{AreReadable}
use Rattle.apcu_play.specs.declared.status.Status.{Status}
use Rattle.apcu_play.specs.Tasks.{LoadsFirst, played_text, verdict_text, ending_for}

-- what follows the workers' lines: the journal's, and the map of the cache if one is left
abbrev pub printed_rest : List Mark → Option Left → List ℕ
printed_rest marks None = journal_lines marks
printed_rest marks (Some left) = journal_lines marks ++ map_text (cache_of left.core)

-- This is printed of some journal of the crew that is legal and complete, with a loader first if a
-- bundle is loaded, and with a map after it or without.
pub record PrintsCrew (conf : Conf) (clock : Clock) (bundle : Option ℕ) (map : Bool)
    (crew : List (List Step)) (printed : List ℕ) : Type 0 where
  pub journal : List Mark
  pub legal : IsLegal conf (all_timed clock crew) journal
  pub complete : IsCompletePlay conf (all_timed clock crew) journal
  pub first : LoadsFirst bundle crew journal
  pub text : printed ≡ played_text map conf (all_timed clock crew) journal

-- This is the line of the verdict on an output, and a run that has written it ends so. Each pattern
-- of the scripts is valid.
pub record PrintsVerdict (conf : Conf) (clock : Clock) (scripts : List (List Step))
    (output : List ℕ) (ends : Status) (printed : List ℕ) : Type 0 where
  pub verdict : Verdict
  pub readable : AreReadable scripts
  pub judged : verdict ≡ verdict_of conf (all_timed clock scripts) output
  pub text : printed ≡ verdict_text verdict
  pub ended : ends ≡ ending_for verdict
