-- Workers that end.
use Rattle.std.proofs.Common.{◌≡◌, ℕ, ◌+◌, ◌<◌, ◌≤◌, List, [], ◌∷◌, ◌++◌, map, Some, refl, sym, ap, subst, ◌∙◌, arith}
use Rattle.std.specs.Prelude.{Result, Ok, Err, IfOk, IfSome}
use Rattle.std.specs.Result.{result_ok}
use Rattle.apcu_model.specs.declared.conf.Clock.{Clock}
use Rattle.apcu_model.specs.declared.conf.Conf.{Conf}
use Rattle.apcu_model.specs.declared.request.Request.TheVariants as requests
use Rattle.apcu_model.specs.declared.request.Reply.{Reply}
use Rattle.apcu_model.specs.declared.request.Reply.TheVariants as replies
use Rattle.pin_table.specs.Values.{PassView}
use Rattle.script_read.specs.declared.script.Step.{Step}
use Rattle.script_read.specs.Budgets.{events_in, timed_events}
use Rattle.script_read.specs.Clock.{timed}
use Rattle.script_read.specs.Play.{Wish, wanted}
use Rattle.reply_text.specs.Lines.{script_lines}
use Rattle.play_laws.specs.Own.{own_replies, wish_in, AreInTurn, HasPlayed}
use Rattle.shared_cache.specs.Follows.{Follows}
use Rattle.worker_play.specs.declared.script.Lines.{Lines}
use Rattle.worker_play.specs.Goes.{wish, KnowsOwnEvents, GoesOn, Reaches, Tells, left_of}
use Rattle.worker_play.specs.Ends.{PlaysOut, AskedInTurn, HasMade}
use Rattle.worker_play.specs.Turns.{turns_of}
use Rattle.worker_play.proofs.PassProgress.{OwnLaws, more, one}
use Rattle.worker_play.proofs.Turns.{script_few, in_turn_one, in_turn_more, in_turn_wanted, ends_wanted, lines_more}

-- an event is left for the end
pub one_left : (conf : Conf) (workers : ℕ) (p q : PassView) (clock : Clock) (script : List Step) → Reaches conf workers p q (turns_of conf (timed clock script)) → events_in conf.slots script < p.known.left → 1 ≤ q.known.left
one_left conf workers p q clock script r enough =
    omega (arith, enough, r.goes.left, script_few conf (timed clock script) r.made r.replies r.in_turn, timed_events conf.slots clock script)

-- no more was taken than all calls may make
pub few_taken : (conf : Conf) (workers : ℕ) (p q : PassView) (clock : Clock) (script : List Step) → Reaches conf workers p q (turns_of conf (timed clock script)) → p.known.left ≤ q.known.left + events_in conf.slots script
few_taken conf workers p q clock script r =
    omega (arith, r.goes.left, script_few conf (timed clock script) r.made r.replies r.in_turn, timed_events conf.slots clock script)

-- a worker that has made no event has no replies
pub unanswered : OwnLaws → (conf : Conf) (p : PassView) → p.known.own ≡ [] → KnowsOwnEvents p → own_replies conf p.known.worker p.known.seen ≡ []
unanswered laws conf p none whole = laws.others conf p.known.worker [] p.known.seen (whole ∙ none)

-- a worker that asked nothing before has made these events, and then its end
record EndsAfter (conf : Conf) (q : PassView) (ws : List Wish) (rs : List Reply) : Type 0 where
  asked : map wish_in q.known.own ≡ ws ++ wish 0 requests.Retire ∷ []
  answered : own_replies conf q.known.worker q.known.seen ≡ rs ++ replies.Ended ∷ []

ends_after : OwnLaws → (conf : Conf) (workers : ℕ) (p o q : PassView) (ws : List Wish) (rs : List Reply) → p.known.own ≡ [] → own_replies conf p.known.worker p.known.seen ≡ []
    → GoesOn conf workers p o ws rs → Follows conf workers o q 0 requests.Retire replies.Ended → EndsAfter conf q ws rs
ends_after laws conf workers p o q ws rs none unanswered g f =
    let all = more conf workers p o q ws (wish 0 requests.Retire ∷ []) rs (replies.Ended ∷ []) g (one laws conf workers o q 0 requests.Retire requests.Retire replies.Ended f g.all_own refl) in
    record {
      asked = all.own ∙ ap (λ (l : List _). map wish_in l ++ (ws ++ wish 0 requests.Retire ∷ [])) none;
      answered = all.replies_are ∙ ap (λ (l : List Reply). l ++ (rs ++ replies.Ended ∷ [])) unanswered;
    }

-- the worker that has asked all that its calls want
plays_out : (conf : Conf) (workers : ℕ) (p o q : PassView) (lines : Lines) (script : List Step) (text : List ℕ) → (t : Tells conf workers p o (turns_of conf script) (λ replies. left_of lines (script_lines conf script replies)) text) → EndsAfter conf q t.asked.made t.asked.replies → PlaysOut conf lines script q text
plays_out conf workers p o q lines script text t e =
    let end : wanted conf [] [] ≡ Some (wish 0 requests.Retire) = refl in
    let all : HasPlayed conf script (t.asked.made ++ wish 0 requests.Retire ∷ []) (t.asked.replies ++ replies.Ended ∷ []) = record {
      in_turn = in_turn_more (wanted conf script) (wanted conf []) t.asked.made (wish 0 requests.Retire ∷ []) t.asked.replies (replies.Ended ∷ [])
          (in_turn_wanted conf script t.asked.made t.asked.replies t.asked.in_turn) (in_turn_one (wanted conf []) (wish 0 requests.Retire) replies.Ended end)
          (λ later. ends_wanted conf script t.asked.replies [] later t.over);
      done = ends_wanted conf script t.asked.replies [] (replies.Ended ∷ []) t.over;
    } in
    record {
      played = subst (λ (rs : List Reply). HasPlayed conf script (map wish_in q.known.own) rs) (sym e.answered)
          (subst (λ (ws : List Wish). HasPlayed conf script ws (t.asked.replies ++ replies.Ended ∷ [])) (sym e.asked) all);
      is = t.is ∙ ap (left_of lines) (sym (lines_more conf script t.asked.replies [] (replies.Ended ∷ []) t.over) ∙ ap (script_lines conf script) (sym e.answered));
    }

-- where the play came to its end
pub plays_out_if : {E : Type 0} → OwnLaws → (conf : Conf) (workers : ℕ) (p o q : PassView) (lines : Lines) (script : List Step) (r : Result (List ℕ) E) → p.known.own ≡ [] → own_replies conf p.known.worker p.known.seen ≡ []
    → IfOk r (λ out. Tells conf workers p o (turns_of conf script) (λ replies. left_of lines (script_lines conf script replies)) out) → Follows conf workers o q 0 requests.Retire replies.Ended → IfSome (result_ok r) (λ text. PlaysOut conf lines script q text)
plays_out_if laws conf workers p o q lines script (Ok text) none unanswered t f = plays_out conf workers p o q lines script text t (ends_after laws conf workers p o q t.asked.made t.asked.replies none unanswered t.asked.goes f)
plays_out_if laws conf workers p o q lines script (Err e) none unanswered t f = tt

-- a worker that ends wherever it was
pub has_asked : OwnLaws → (conf : Conf) (workers : ℕ) (p o q : PassView) (script : List Step) → p.known.own ≡ [] → own_replies conf p.known.worker p.known.seen ≡ []
    → Reaches conf workers p o (turns_of conf script) → Follows conf workers o q 0 requests.Retire replies.Ended → AskedInTurn conf script q
has_asked laws conf workers p o q script none unanswered r f =
    let e = ends_after laws conf workers p o q r.made r.replies none unanswered r.goes f in
    record { made = r.made; replies = r.replies; in_turn = r.in_turn; asked = e.asked; answered = e.answered }

-- ---- before its end

-- the worker that has made all its calls, and nothing before
pub has_made : {A : Type 0} (conf : Conf) (workers : ℕ) (p q : PassView) (script : List Step) (told : List Reply → A) (a : A) → p.known.own ≡ [] → own_replies conf p.known.worker p.known.seen ≡ [] → Tells conf workers p q (turns_of conf script) told a → HasMade conf script q
has_made conf workers p q script told a none unanswered t =
    let g = t.asked.goes in
    let asked : t.asked.made ≡ map wish_in q.known.own = sym (g.own ∙ ap (λ (l : List _). map wish_in l ++ t.asked.made) none) in
    let answered : t.asked.replies ≡ own_replies conf q.known.worker q.known.seen = sym (g.replies_are ∙ ap (λ (l : List Reply). l ++ t.asked.replies) unanswered) in
    record {
      in_turn = subst (λ (rs : List Reply). AreInTurn (wanted conf script) (map wish_in q.known.own) rs) answered
          (subst (λ (ws : List Wish). AreInTurn (wanted conf script) ws t.asked.replies) asked (in_turn_wanted conf script t.asked.made t.asked.replies t.asked.in_turn));
      done = λ later. ap (λ (l : List Reply). wanted conf script (l ++ later)) (sym answered) ∙ ends_wanted conf script t.asked.replies [] later t.over;
    }
