-- What the events of a journal come to.
use Rattle.std.proofs.Common.{◌≡◌, suc, Bool, true, false, if◌then◌else◌, List, [], ◌∷◌, ◌++◌, length, Option, Some, None, refl, ap, subst}
use Rattle.std.specs.Prelude.{unwrap_or}
use Rattle.std.specs.Option.{option_and_then}
use Rattle.apcu_model.specs.declared.conf.Conf.{Conf}
use Rattle.apcu_model.specs.declared.request.Event.{Event}
use Rattle.apcu_model.specs.declared.journal.Mark.{Mark}
use Rattle.apcu_model.specs.History.{Stage, after_event, after_events, is_legal_mask}
use Rattle.script_read.specs.declared.script.Step.{Step}
use Rattle.script_read.specs.Play.{Wish, Play, wish_of, event_of, after_wish, marked, played_from}
use Rattle.play_laws.specs.JournalEvents.{events_from}

-- the stage after them, and how many there are
pub told_stage : (conf : Conf) (scripts : List (List Step)) (p q : Play) (marks : List Mark) → played_from conf scripts p marks ≡ Some q
    → (after_events p.stage (events_from conf scripts p marks) ≡ q.stage) × (length (events_from conf scripts p marks) ≡ length marks)
told_stage conf scripts p q [] e = (let same : p ≡ q = cc e in ap (λ (x : Play). x.stage) same, refl)
told_stage conf scripts p q (mark ∷ marks) e = go (is_legal_mask (length scripts) mark.worker p.stage mark.mask) (wish_of conf scripts p mark.worker) (λ wish. told_stage conf scripts (after_wish p mark wish) q marks) e
  where
    go : (b : Bool) (o : Option Wish)
        → ((wish : Wish) → played_from conf scripts (after_wish p mark wish) marks ≡ Some q
        → (after_events (after_wish p mark wish).stage (events_from conf scripts (after_wish p mark wish) marks) ≡ q.stage) × (length (events_from conf scripts (after_wish p mark wish) marks) ≡ length marks))
        → option_and_then (λ (x : Play). played_from conf scripts x marks) (if b then option_and_then (λ wish. Some (after_wish p mark wish)) o else None) ≡ Some q
        → (after_events p.stage (unwrap_or (option_and_then (λ wish. Some (event_of mark wish ∷ events_from conf scripts (after_wish p mark wish) marks)) o) []) ≡ q.stage)
        × (length (unwrap_or (option_and_then (λ wish. Some (event_of mark wish ∷ events_from conf scripts (after_wish p mark wish) marks)) o) []) ≡ length (mark ∷ marks))
    go false o later e = absurd (cc e)
    go true None later e = absurd (cc e)
    go true (Some wish) later e = let r = later wish e in (r.0, ap suc r.1)

-- the play of a longer journal goes on from that of its first part
pub played-joined : (conf : Conf) (scripts : List (List Step)) (o p q : Play) (before between : List Mark) → played_from conf scripts o before ≡ Some p → played_from conf scripts o (before ++ between) ≡ Some q
    → played_from conf scripts p between ≡ Some q
played-joined conf scripts o p q [] between first whole = let same : o ≡ p = cc first in subst (λ x. played_from conf scripts x between ≡ Some q) same whole
played-joined conf scripts o p q (mark ∷ before) between first whole = go (marked conf scripts o mark) (λ x. played-joined conf scripts x p q before between) first whole
  where
    go : (r : Option Play) → ((x : Play) → played_from conf scripts x before ≡ Some p → played_from conf scripts x (before ++ between) ≡ Some q → played_from conf scripts p between ≡ Some q)
        → option_and_then (λ (x : Play). played_from conf scripts x before) r ≡ Some p → option_and_then (λ (x : Play). played_from conf scripts x (before ++ between)) r ≡ Some q → played_from conf scripts p between ≡ Some q
    go None later a b = absurd (cc a)
    go (Some x) later a b = later x a b

-- the stage after some events and more
pub stage-joined : (m : Stage) (before between : List Event) → after_events m (before ++ between) ≡ after_events (after_events m before) between
stage-joined m [] between = refl
stage-joined m (e ∷ before) between = stage-joined (after_event m e) before between
