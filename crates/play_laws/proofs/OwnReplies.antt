-- One worker's own replies.
use Rattle.std.proofs.Common.{◌≡◌, ℕ, suc, Bool, true, false, cond, List, [], ◌∷◌, ◌++◌, length, refl, ap, ◌∙◌}
use Rattle.std.specs.Prelude.{◌==◌}
use Rattle.std.proofs.lemmas.List.{append-nil}
use Rattle.apcu_model.specs.declared.conf.Conf.{Conf}
use Rattle.apcu_model.specs.declared.request.Event.{Event}
use Rattle.apcu_model.specs.declared.request.Reply.{Reply}
use Rattle.apcu_model.specs.History.{Stage, start_of, stage_of, reply_in, after_event, after_events}
use Rattle.pin_table.specs.Events.{events_of}
use Rattle.play_laws.specs.Own.{own_replies_from, own_replies}

-- a choice between a list with one more in front and without it, joined to another
cond_joined : {A : Type 0} (b : Bool) (x : A) (xs ys : List A) → cond b (x ∷ (xs ++ ys)) (xs ++ ys) ≡ cond b (x ∷ xs) xs ++ ys
cond_joined true x xs ys = refl
cond_joined false x xs ys = refl

-- the replies of a longer history: those of its first part, then those of the rest, which begins where the first
-- part ends
pub replies-joined : (w : ℕ) (m : Stage) (es more : List Event)
    → own_replies_from w m (es ++ more) ≡ own_replies_from w m es ++ own_replies_from w (after_events m es) more
replies-joined w m [] more = refl
replies-joined w m (e ∷ es) more =
    let n = after_event m e in
    ap (λ (r : List Reply). cond (e.worker == w) (reply_in m e ∷ r) r) (replies-joined w n es more)
    ∙ cond_joined (e.worker == w) (reply_in m e) (own_replies_from w n es) (own_replies_from w (after_events n es) more)

pub one-more : (conf : Conf) (w : ℕ) (history : List Event) (e : Event)
    → own_replies conf w (history ++ e ∷ []) ≡ own_replies conf w history ++ cond (e.worker == w) (reply_in (stage_of conf history) e ∷ []) []
one-more conf w history e = replies-joined w (start_of conf) history (e ∷ [])

-- events of others are answered nothing of this worker's
none_of_others : (w : ℕ) (m : Stage) (es : List Event) → events_of w es ≡ [] → own_replies_from w m es ≡ []
none_of_others w m [] none = refl
none_of_others w m (e ∷ es) none = go (e.worker == w) none (none_of_others w (after_event m e) es)
  where
    go : (b : Bool) → cond b (e ∷ events_of w es) (events_of w es) ≡ [] → (events_of w es ≡ [] → own_replies_from w (after_event m e) es ≡ [])
        → cond b (reply_in m e ∷ own_replies_from w (after_event m e) es) (own_replies_from w (after_event m e) es) ≡ []
    go true nothing later = absurd cc
    go false nothing later = later nothing

pub others-add-none : (conf : Conf) (w : ℕ) (history between : List Event) → events_of w between ≡ []
    → own_replies conf w (history ++ between) ≡ own_replies conf w history
others-add-none conf w history between none =
    replies-joined w (start_of conf) history between
    ∙ (ap (λ (r : List Reply). own_replies conf w history ++ r) (none_of_others w (stage_of conf history) between none)
    ∙ append-nil (own_replies conf w history))

-- a reply for each event
replies_count : (w : ℕ) (m : Stage) (es : List Event) → length (own_replies_from w m es) ≡ length (events_of w es)
replies_count w m [] = refl
replies_count w m (e ∷ es) = go (e.worker == w) (replies_count w (after_event m e) es)
  where
    go : (b : Bool) → length (own_replies_from w (after_event m e) es) ≡ length (events_of w es)
        → length (cond b (reply_in m e ∷ own_replies_from w (after_event m e) es) (own_replies_from w (after_event m e) es)) ≡ length (cond b (e ∷ events_of w es) (events_of w es))
    go true later = ap suc later
    go false later = later

pub length-own_replies : (conf : Conf) (w : ℕ) (history : List Event) → length (own_replies conf w history) ≡ length (events_of w history)
length-own_replies conf w history = replies_count w (start_of conf) history
