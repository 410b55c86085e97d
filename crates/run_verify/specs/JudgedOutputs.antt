-- How far an output was judged.
use Rattle.std.specs.Prelude.{◌≡◌, ℕ, ◌≤◌, List, ◌++◌, length, drop, Some}
use Rattle.std.specs.List.{flat_map}
use Rattle.apcu_model.specs.declared.conf.Conf.{Conf}
use Rattle.apcu_model.specs.declared.journal.Mark.{Mark}
use Rattle.script_read.specs.declared.script.Step.{Step}
use Rattle.script_read.specs.Play.{Play, played}
use Rattle.reply_text.specs.Output.{mark_line}
use Rattle.run_verify.specs.Verdicts.{judged, lines_of, verdict_of}

-- The journal part of the output, from `part` on, was judged up to `at`: its k lines so far print
-- marks that led to this play, and the verdict is that of the lines from there on.
pub record IsJudgedTo (conf : Conf) (scripts : List (List Step)) (output : List ℕ)
    (part at k : ℕ) (p : Play) : Type 0 where
  pub marks : List Mark
  pub many : length marks ≡ k
  pub led : played conf scripts marks ≡ Some p
  pub within : at ≤ length output
  pub printed : drop part output ≡ flat_map mark_line marks ++ drop at output
  pub verdict : verdict_of conf scripts output
      ≡ judged conf scripts output k marks p (lines_of (drop at output))
