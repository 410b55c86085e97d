-- Calls that are done: a fact that proofs of the crates above cite.
use Rattle.std.proofs.Common.{◌≡◌, ℕ, Bool, true, false, List, [], ◌∷◌, ◌++◌, refl, ap, ◌∙◌}
use Rattle.std.specs.Prelude.{nat_lt, if◌then◌else◌}
use Rattle.apcu_model.specs.declared.conf.Conf.{Conf}
use Rattle.apcu_model.specs.declared.request.Request.{Request}
use Rattle.apcu_model.specs.declared.request.Reply.{Reply}
use Rattle.script_read.specs.declared.call.Call.{Call}
use Rattle.script_read.specs.Play.{Asking, Each, Steps, Asks, Leaves, asking_of, asks_each}
use Rattle.script_read.specs.Play.{slot_after, asks_steps, asks_so, next_of}

-- what is left, and what comes after it
left_with : (a b more : List Reply) → Leaves a ≡ Leaves b → Leaves (a ++ more) ≡ Leaves (b ++ more)
left_with a b more done =
    let same : a ≡ b = cc (done) in ap (λ (l : List Reply). Leaves (l ++ more)) same

each_leaves : (asked : List Request) (replies others more : List Reply)
    → asks_each asked replies ≡ Leaves others
    → asks_each asked (replies ++ more) ≡ Leaves (others ++ more)
each_leaves [] replies others more done = left_with replies others more done
each_leaves (request ∷ asked) [] others more done = absurd (cc (done))
each_leaves (request ∷ asked) (reply ∷ replies) others more done =
    each_leaves asked replies others more done

no_slots_left : (slots : ℕ) (ask : ℕ → Request) (from : ℕ) (replies : List Reply)
    → nat_lt from slots ≡ false → asks_steps slots ask from replies ≡ Leaves replies
no_slots_left slots ask from [] end =
    ap (λ (b : Bool). if b then Asks (ask from) else Leaves []) end
no_slots_left slots ask from (reply ∷ replies) end =
    ap (λ (b : Bool). if b then asks_steps slots ask (slot_after slots from reply) replies
    else Leaves (reply ∷ replies)) end

steps_leave : (slots : ℕ) (ask : ℕ → Request) (from : ℕ) (replies others more : List Reply)
    → asks_steps slots ask from replies ≡ Leaves others
    → asks_steps slots ask from (replies ++ more) ≡ Leaves (others ++ more)
steps_leave slots ask from [] others more done =
    by_test (nat_lt from slots) (no_slots_left slots ask from more) done
  where
    by_test : (b : Bool) → (b ≡ false → asks_steps slots ask from more ≡ Leaves more)
        → (if b then Asks (ask from) else Leaves []) ≡ Leaves others
        → asks_steps slots ask from more ≡ Leaves (others ++ more)
    by_test true none done = absurd (cc (done))
    by_test false none done = none refl ∙ left_with [] others more done
steps_leave slots ask from (reply ∷ replies) others more done =
    by_test (nat_lt from slots)
    (steps_leave slots ask (slot_after slots from reply) replies others more) done
  where
    by_test : (b : Bool)
        → (asks_steps slots ask (slot_after slots from reply) replies ≡ Leaves others
        → asks_steps slots ask (slot_after slots from reply) (replies ++ more)
        ≡ Leaves (others ++ more))
        → (if b then asks_steps slots ask (slot_after slots from reply) replies
        else Leaves (reply ∷ replies)) ≡ Leaves others
        → (if b then asks_steps slots ask (slot_after slots from reply) (replies ++ more)
        else Leaves (reply ∷ (replies ++ more))) ≡ Leaves (others ++ more)
    by_test true on done = on done
    by_test false on done = left_with (reply ∷ replies) others more done

so_leaves : (slots : ℕ) (asking : Asking) (replies others more : List Reply)
    → asks_so slots asking replies ≡ Leaves others
    → asks_so slots asking (replies ++ more) ≡ Leaves (others ++ more)
so_leaves slots (Each asked) replies others more done = each_leaves asked replies others more done
so_leaves slots (Steps ask) replies others more done =
    steps_leave slots ask 0 replies others more done

-- a call that is done stays done, and leaves the replies that come after
pub leaves_more : (conf : Conf) (call : Call) (replies others more : List Reply)
    → next_of conf call replies ≡ Leaves others
    → next_of conf call (replies ++ more) ≡ Leaves (others ++ more)
leaves_more conf call replies others more done =
    so_leaves conf.slots (asking_of call) replies others more done
