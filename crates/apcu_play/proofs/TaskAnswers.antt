-- What was printed for a task, and how the run then ends.
use Rattle.std.proofs.Common.{◌≡◌, ◌≢◌, ◌<◌, ◌≤◌, ℕ, List, length, drop, Option, Some, None, Result, Ok, Err, inl, inr, refl, sym, ap, subst, ⊎_elim, ◌∙◌, true, false}
use Rattle.std.specs.Prelude.{Bool, IfOk, IfErr, ◌⊎◌}
use Rattle.io_edges.specs.Reading.{HasTakenWithin}
use Rattle.conf_read.specs.declared.settings.Settings.{Settings}
use Rattle.conf_read.specs.declared.task.Task.{Task}
use Rattle.conf_read.specs.declared.task.Task.TheVariants.{Play, Generate, Verify}
use Rattle.notation.specs.declared.fault.Reason.{Reason}
use Rattle.script_read.specs.declared.script.Step.{Step}
use Rattle.script_read.specs.Budgets.{all_events, most_events}
use Rattle.script_read.specs.Clock.{all_timed}
use Rattle.run_verify.specs.declared.verifying.Verdict.{Verdict}
use Rattle.run_verify.specs.declared.verifying.Verdict.TheVariants.{Yes, NoJournal, Event, Byte}
use Rattle.run_verify.specs.Verdicts.{verdict_of}
use Rattle.apcu_model.specs.declared.limits.TheConstants.{LONGEST_INPUT}
use Rattle.apcu_play.specs.declared.status.Status.{Status}
use Rattle.apcu_play.specs.declared.status.Status.TheVariants.{Done, WriteFault, Differs}
use Rattle.apcu_play.specs.Causes.{AnswersBytes}
use Rattle.apcu_play.specs.Ended.{Sourced, Sunk, IsEnding}
use Rattle.apcu_play.specs.Inputs.{AreCrew, AreFew, AreInFront}
use Rattle.apcu_play.specs.Printing.{PrintsCrew, PrintsVerdict}
use Rattle.apcu_play.specs.Run.{WasWritten}
use Rattle.apcu_play.specs.Tasks.{AnswersTask, LeavesInput, WasRead, ending_for}
use Rattle.apcu_play.proofs.TakenInput.{was_taken, none_taken}

verdict_ends : (v : Verdict) (ends : Status) → ends ≡ ending_for v → (ends ≡ Done) ⊎ (ends ≡ Differs)
verdict_ends Yes ends is = inl is
verdict_ends NoJournal ends is = inr is
verdict_ends (Event k) ends is = inr is
verdict_ends (Byte place) ends is = inr is

-- a run whose answer was written whole is done, or its output differs
pub ends_two : (s : Settings) (task : Task) (ends : Status) (before after : Option (List ℕ)) (printed : List ℕ) → AnswersTask s task ends before after printed → (ends ≡ Done) ⊎ (ends ≡ Differs)
ends_two s (Play bundle map) ends before after printed a = inl a.0
ends_two s (Generate seed crew each) ends before after printed a = inl a.0
ends_two s (Verify len) ends before after printed a = verdict_ends a.verdict ends a.ended

-- what was taken for it
pub answered_within : (s : Settings) (task : Task) (ends status : Status) (before after : Option (List ℕ)) (reads_before reads_after : ℕ) (printed : List ℕ) → AnswersTask s task ends before after printed
    → LeavesInput task status before after reads_before reads_after → HasTakenWithin before after LONGEST_INPUT
answered_within s (Play bundle map) ends status before after reads_before reads_after printed a unread = was_taken before after a.1.input a.1.read
answered_within s (Generate seed crew each) ends status before after reads_before reads_after printed a unread =
    subst (λ o. HasTakenWithin before o LONGEST_INPUT) (sym unread.left) (none_taken before LONGEST_INPUT)
answered_within s (Verify len) ends status before after reads_before reads_after printed a unread = was_taken before after a.input a.read

-- it was written whole
pub whole_ends : (may_refuse : Bool → List ℕ → Type 0) (s : Settings) (input : Sourced) (out : Sunk) (printed : List ℕ) (ends status : Status) (place : ℕ) (reason : Reason) → status ≡ ends
    → AnswersTask s s.task ends input.before input.after printed → WasWritten true printed out.before out.after out.writes_before out.writes_after → IsEnding may_refuse s input out status place reason
whole_ends may_refuse s input out printed ends status place reason is a w =
    ⊎_elim
    (λ done. subst (λ st. IsEnding may_refuse s input out st place reason) (sym (is ∙ done))
    (record { printed = printed; answer = subst (λ st. AnswersTask s s.task st input.before input.after printed) done a; written = w.0 }))
    (λ differs. subst (λ st. IsEnding may_refuse s input out st place reason) (sym (is ∙ differs))
    (record { printed = printed; answer = subst (λ st. AnswersTask s s.task st input.before input.after printed) differs a; written = w.0 }))
    (ends_two s s.task ends input.before input.after printed a)

-- only the first of it was
pub part_ends : (may_refuse : Bool → List ℕ → Type 0) (s : Settings) (input : Sourced) (out : Sunk) (printed : List ℕ) (ends status : Status) (place : ℕ) (reason : Reason) → status ≡ WriteFault
    → AnswersTask s s.task ends input.before input.after printed → WasWritten false printed out.before out.after out.writes_before out.writes_after → IsEnding may_refuse s input out status place reason
part_ends may_refuse s input out printed ends status place reason is a w =
    subst (λ st. IsEnding may_refuse s input out st place reason) (sym is)
    (record { printed = printed; count = w.0; answer = (ends, a); fewer = w.1; written = w.2 }, w.3)

-- a write that fails brings nothing that only a read brings
pub unread_cut : (task : Task) (ends : Status) (before after : Option (List ℕ)) (reads_before reads_after : ℕ) → LeavesInput task ends before after reads_before reads_after → LeavesInput task WriteFault before after reads_before reads_after
unread_cut (Play bundle map) ends before after reads_before reads_after unread = tt
unread_cut (Generate seed crew each) ends before after reads_before reads_after unread = record { left = unread.left; faults = unread.faults; no_script = λ h. cc; no_read_fault = λ h. cc; no_too_long = λ h. cc; no_pattern = λ h. cc }
unread_cut (Verify len) ends before after reads_before reads_after unread = tt

-- at the same status the same is left
pub leaves_at : (task : Task) (one other : Status) (before after : Option (List ℕ)) (reads_before reads_after : ℕ) → other ≡ one → LeavesInput task one before after reads_before reads_after → LeavesInput task other before after reads_before reads_after
leaves_at task one other before after reads_before reads_after is unread = subst (λ st. LeavesInput task st before after reads_before reads_after) (sym is) unread

-- ---- of the bytes that were read

pub input_answers : (s : Settings) (bundle : Option ℕ) (map : Bool) (bytes : List ℕ) (crew : List (List Step)) (ends : Status) (printed : List ℕ) → ends ≡ Done → AreCrew bundle bytes crew → AreFew bundle s.conf crew
    → PrintsCrew s.conf s.clock bundle map crew printed → AnswersBytes s (Play bundle map) bytes ends printed
input_answers s bundle map bytes crew ends printed done are few p before after read = (
  done,
  record {
    input = bytes;
    scripts = crew;
    journal = p.journal;
    read = read;
    spelled = are;
    few = few;
    legal = p.legal;
    complete = p.complete;
    first = p.first;
    text = p.text;
  },
)

pub output_answers : (s : Settings) (len : ℕ) (bytes output : List ℕ) (scripts : List (List Step)) (ends : Status) (printed : List ℕ) → AreInFront len bytes scripts → output ≡ drop len bytes → all_events s.conf.slots scripts ≤ most_events
    → PrintsVerdict s.conf s.clock scripts output ends printed → AnswersBytes s (Verify len) bytes ends printed
output_answers s len bytes output scripts ends printed are behind few p before after read = record {
  input = bytes;
  scripts = scripts;
  verdict = p.verdict;
  read = read;
  spelled = are;
  few = few;
  readable = p.readable;
  judged = p.judged ∙ ap (verdict_of s.conf (all_timed s.clock scripts)) behind;
  text = p.text;
  ended = p.ended;
}
