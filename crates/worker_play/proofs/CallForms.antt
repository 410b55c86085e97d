-- Calls by their form, and their lines.
use Rattle.std.proofs.Common.{◌≡◌, ℕ, List, [], ◌∷◌, ◌++◌, sym, ap, subst, ◌∙◌, append_assoc}
use Rattle.apcu_model.specs.declared.conf.Conf.{Conf}
use Rattle.apcu_model.specs.declared.request.Reply.{Reply}
use Rattle.pin_table.specs.Values.{PassView}
use Rattle.script_read.specs.declared.call.Call.{Call}
use Rattle.script_read.specs.Play.{Wish, next_of}
use Rattle.reply_text.specs.Lines.{call_text}
use Rattle.worker_play.specs.Goes.{GoesOn, Reaches, Tells}
use Rattle.worker_play.specs.Turns.{Turn, Takes, Over, turns_at}
use Rattle.worker_play.proofs.PassProgress.{one_asked}

pub call_asks : (conf : Conf) (workers : ℕ) (p q : PassView) (t : ℕ) (call form : Call) → call ≡ form → Reaches conf workers p q (turns_at t (next_of conf form)) → Reaches conf workers p q (turns_at t (next_of conf call))
call_asks conf workers p q t call form is r = subst (λ (f : Call). Reaches conf workers p q (turns_at t (next_of conf f))) (sym is) r

pub call_tells : (conf : Conf) (workers : ℕ) (p q : PassView) (t : ℕ) (call form : Call) (out new : List ℕ) → call ≡ form → Tells conf workers p q (turns_at t (next_of conf form)) (λ replies. out ++ call_text form replies) new
    → Tells conf workers p q (turns_at t (next_of conf call)) (λ replies. out ++ call_text call replies) new
call_tells conf workers p q t call form out new is told = subst (λ (f : Call). Tells conf workers p q (turns_at t (next_of conf f)) (λ replies. out ++ call_text f replies) new) (sym is) told

-- a call that asks once
pub told_once : (conf : Conf) (workers : ℕ) (p q : PassView) (t : ℕ) (call form : Call) (w : Wish) (y : Reply) (out new : List ℕ) → call ≡ form → GoesOn conf workers p q (w ∷ []) (y ∷ [])
    → turns_at t (next_of conf form) [] ≡ Takes w → turns_at t (next_of conf form) (y ∷ []) ≡ Over [] → new ≡ out ++ call_text form (y ∷ [])
    → Tells conf workers p q (turns_at t (next_of conf call)) (λ replies. out ++ call_text call replies) new
told_once conf workers p q t call form w y out new is g first over text =
    call_tells conf workers p q t call form out new is (record { asked = one_asked conf workers p q (turns_at t (next_of conf form)) w y g first; over = over; is = text })

-- a line gets its end
pub line_ends : (conf : Conf) (workers : ℕ) (p q : PassView) (turns : List Reply → Turn) (told : List Reply → List ℕ) (out line new end : List ℕ) → Tells conf workers p q turns (λ replies. out ++ told replies) line → new ≡ line ++ end
    → Tells conf workers p q turns (λ replies. out ++ (told replies ++ end)) new
line_ends conf workers p q turns told out line new end t e = record {
  asked = t.asked;
  over = t.over;
  is = e ∙ (ap (λ (l : List ℕ). l ++ end) t.is ∙ append_assoc out (told t.asked.replies) end);
}
