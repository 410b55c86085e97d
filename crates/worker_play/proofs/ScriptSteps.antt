-- Scripts, call by call.
use Rattle.std.proofs.Common.{◌≡◌, ℕ, suc, ◌-◌, ◌<◌, List, [], ◌∷◌, ◌++◌, length, take, refl, sym, ap, subst, ◌∙◌, append_assoc, length-append, arith}
use Rattle.std.specs.Prelude.{Contains}
use Rattle.std.proofs.Math.Seq.{take-append_seam}
use Rattle.std.proofs.lemmas.List.{append-nil}
use Rattle.apcu_model.specs.declared.conf.Clock.{Clock}
use Rattle.apcu_model.specs.declared.conf.Conf.{Conf}
use Rattle.apcu_model.specs.declared.request.Reply.{Reply}
use Rattle.pin_table.specs.Values.{PassView}
use Rattle.script_read.specs.declared.script.Step.{Step}
use Rattle.script_read.specs.Budgets.{events_in}
use Rattle.script_read.specs.Clock.{moment_under, timed, timed_step}
use Rattle.script_read.specs.Grammar.{ends_line}
use Rattle.script_read.specs.Play.{next_of}
use Rattle.reply_text.specs.Lines.{call_text, before, call_lines, script_lines}
use Rattle.worker_play.specs.declared.script.Lines.{Lines}
use Rattle.worker_play.specs.declared.script.Lines.TheVariants.{Kept, Dropped}
use Rattle.worker_play.specs.Goes.{Reaches, Tells, left_of}
use Rattle.worker_play.specs.Turns.{Turn, Over, turns_at, turns_of}
use Rattle.worker_play.proofs.PassProgress.{Midway, goes_on, more_asked, ends}
use Rattle.worker_play.proofs.Turns.{call_few, events_step, in_turn_first, over_goes_on, turns_step}

own_before : (own later : List Reply) → before later (own ++ later) ≡ own
own_before own later =
    let n : length (own ++ later) - length later ≡ length own = omega (arith, length-append own later) in
    ap (λ k. take k (own ++ later)) n ∙ take-append_seam own later

-- the line of a call, and those of the calls after it
lines_step : (conf : Conf) (step : Step) (steps : List Step) (own later : List Reply) → turns_at step.t (next_of conf step.call) own ≡ Over []
    → script_lines conf (step ∷ steps) (own ++ later) ≡ (call_text step.call own ++ ends_line) ++ script_lines conf steps later
lines_step conf step steps own later over =
    ap (call_lines step.call (own ++ later) (script_lines conf steps)) (over_goes_on conf step.t step.call own over later)
    ∙ ap (λ (l : List Reply). call_text step.call l ++ ends_line ++ script_lines conf steps later) (own_before own later)

-- what a step asks its script wants
abbrev as_step : (conf : Conf) (workers : ℕ) (o q : PassView) (step : Step) (steps : List Step) → Reaches conf workers o q (turns_at step.t (next_of conf step.call)) → Reaches conf workers o q (turns_of conf (step ∷ steps))
as_step conf workers o q step steps r = record {
  made = r.made;
  replies = r.replies;
  in_turn = in_turn_first conf step steps r.made r.replies r.in_turn;
  goes = r.goes;
}

-- what is left of the lines so far and of one more, before those behind them
lines_left : (lines : Lines) (out line rest new : List ℕ) → new ≡ left_of lines (out ++ line) → left_of lines (out ++ (line ++ rest)) ≡ left_of lines (new ++ rest)
lines_left Kept out line rest new is = sym (append_assoc out line rest) ∙ ap (λ (l : List ℕ). l ++ rest) (sym is)
lines_left Dropped out line rest new is = refl

-- one step more
pub step_goes_on : (conf : Conf) (workers : ℕ) (p o q : PassView) (turns : List Reply → Turn) (step : Step) (steps : List Step) (lines : Lines) (told : List Reply → List ℕ) (out written new : List ℕ)
    → Midway conf workers p o turns (turns_of conf (step ∷ steps)) told (λ later. left_of lines (out ++ script_lines conf (step ∷ steps) later))
    → Tells conf workers o q (turns_at step.t (next_of conf step.call)) (λ replies. out ++ (call_text step.call replies ++ ends_line)) written → new ≡ left_of lines written
    → Midway conf workers p q turns (turns_of conf steps) told (λ later. left_of lines (new ++ script_lines conf steps later))
step_goes_on conf workers p o q turns step steps lines told out written new m t is =
    goes_on conf workers p o q turns (turns_of conf (step ∷ steps)) (turns_of conf steps) told (λ later. left_of lines (out ++ script_lines conf (step ∷ steps) later)) (λ later. left_of lines (new ++ script_lines conf steps later)) m
    (as_step conf workers o q step steps t.asked) (turns_step conf step steps t.asked.replies t.over)
    (λ later. ap (λ (l : List ℕ). left_of lines (out ++ l)) (lines_step conf step steps t.asked.replies later t.over)
    ∙ lines_left lines out (call_text step.call t.asked.replies ++ ends_line) (script_lines conf steps later) new (is ∙ ap (left_of lines) t.is))

-- the step that was broken off
pub step_breaks : {A : Type 0} (conf : Conf) (workers : ℕ) (p o q : PassView) (turns : List Reply → Turn) (step : Step) (steps : List Step) (told to_tell : List Reply → A)
    → Midway conf workers p o turns (turns_of conf (step ∷ steps)) told to_tell → Reaches conf workers o q (turns_at step.t (next_of conf step.call)) → Reaches conf workers p q turns
step_breaks conf workers p o q turns step steps told to_tell m r = more_asked conf workers p o q turns (turns_of conf (step ∷ steps)) m.0 m.1 (as_step conf workers o q step steps r)

-- enough events are left for the steps after one
pub left_after : (conf : Conf) (workers : ℕ) (o q : PassView) (t : ℕ) (step : Step) (steps : List Step) → Reaches conf workers o q (turns_at t (next_of conf step.call)) → events_in conf.slots (step ∷ steps) < o.known.left
    → events_in conf.slots steps < q.known.left
left_after conf workers o q t step steps r enough =
    omega (arith, r.goes.left, enough, call_few conf t step.call r.made r.replies r.in_turn, events_step conf.slots step steps)

-- where nothing more is left than there is, nothing less is
left_again : (lines : Lines) (text : List ℕ) → left_of lines (left_of lines text) ≡ left_of lines text
left_again Kept text = refl
left_again Dropped text = refl

pub left_whole : (lines : Lines) (written new : List ℕ) → new ≡ left_of lines written → left_of lines new ≡ new
left_whole lines written new is = ap (left_of lines) is ∙ (left_again lines written ∙ sym is)

pub none_left : (lines : Lines) → left_of lines [] ≡ []
none_left Kept = refl
none_left Dropped = refl

-- all steps were met
pub steps_end : (conf : Conf) (workers : ℕ) (p q : PassView) (turns : List Reply → Turn) (lines : Lines) (told : List Reply → List ℕ) (out : List ℕ) → Midway conf workers p q turns (turns_of conf []) told (λ later. left_of lines (out ++ script_lines conf [] later))
    → left_of lines out ≡ out → Tells conf workers p q turns told out
steps_end conf workers p q turns lines told out m whole =
    subst (λ (l : List ℕ). Tells conf workers p q turns told l) (ap (left_of lines) (append-nil out) ∙ whole) (ends conf workers p q turns (turns_of conf []) told (λ later. left_of lines (out ++ script_lines conf [] later)) m refl)

-- ---- steps at their moments under a clock

-- what is still to be requested and printed on the way through a script
abbrev pub OnTheWay : Conf → ℕ → PassView → PassView → Clock → List Step → List Step → Lines → List ℕ → Type 0
OnTheWay conf workers p q clock all rest lines out =
    Midway conf workers p q (turns_of conf (timed clock all)) (turns_of conf (timed clock rest)) (λ replies. left_of lines (script_lines conf (timed clock all) replies)) (λ later. left_of lines (out ++ script_lines conf (timed clock rest) later))

pub one_met : (conf : Conf) (workers : ℕ) (p o q : PassView) (clock : Clock) (all some : List Step) (step : Step) (rest : List Step) (lines : Lines) (out written new : List ℕ) (t : ℕ) → some ≡ step ∷ rest → OnTheWay conf workers p o clock all some lines out → t ≡ moment_under clock step
    → Tells conf workers o q (turns_at t (next_of conf step.call)) (λ replies. out ++ (call_text step.call replies ++ ends_line)) written → new ≡ left_of lines written → OnTheWay conf workers p q clock all rest lines new
one_met conf workers p o q clock all some step rest lines out written new t split way at told is =
    step_goes_on conf workers p o q (turns_of conf (timed clock all)) (timed_step clock step) (timed clock rest) lines (λ replies. left_of lines (script_lines conf (timed clock all) replies)) out written new
    (subst (λ (l : List Step). OnTheWay conf workers p o clock all l lines out) split way)
    (subst (λ (m : ℕ). Tells conf workers o q (turns_at m (next_of conf step.call)) (λ replies. out ++ (call_text step.call replies ++ ends_line)) written) at told) is

pub broken_off : (conf : Conf) (workers : ℕ) (p o q : PassView) (clock : Clock) (all some : List Step) (step : Step) (rest : List Step) (lines : Lines) (out : List ℕ) (t : ℕ) → some ≡ step ∷ rest → OnTheWay conf workers p o clock all some lines out → t ≡ moment_under clock step
    → Reaches conf workers o q (turns_at t (next_of conf step.call)) → Reaches conf workers p q (turns_of conf (timed clock all))
broken_off conf workers p o q clock all some step rest lines out t split way at reached =
    step_breaks conf workers p o q (turns_of conf (timed clock all)) (timed_step clock step) (timed clock rest) (λ replies. left_of lines (script_lines conf (timed clock all) replies)) (λ later. left_of lines (out ++ script_lines conf (timed clock (step ∷ rest)) later))
    (subst (λ (l : List Step). OnTheWay conf workers p o clock all l lines out) split way)
    (subst (λ (m : ℕ). Reaches conf workers o q (turns_at m (next_of conf step.call))) at reached)

pub all_met : (conf : Conf) (workers : ℕ) (p q : PassView) (clock : Clock) (all rest : List Step) (lines : Lines) (out : List ℕ) → rest ≡ [] → OnTheWay conf workers p q clock all rest lines out → left_of lines out ≡ out
    → Tells conf workers p q (turns_of conf (timed clock all)) (λ replies. left_of lines (script_lines conf (timed clock all) replies)) out
all_met conf workers p q clock all rest lines out none way whole =
    steps_end conf workers p q (turns_of conf (timed clock all)) lines (λ replies. left_of lines (script_lines conf (timed clock all) replies)) out
    (subst (λ (l : List Step). OnTheWay conf workers p q clock all l lines out) none way) whole

-- ---- steps among others

abbrev pub AreAmong : List Step → List Step → Type 0
AreAmong some all = (step : Step) → Contains some step → Contains all step

pub among_behind : (step : Step) (rest all : List Step) → AreAmong (step ∷ rest) all → AreAmong rest all
among_behind step rest all h = λ s c. h s (suc c.0, omega (arith, c.1), c.2)
