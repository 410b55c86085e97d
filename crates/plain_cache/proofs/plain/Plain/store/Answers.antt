use Rattle.std.proofs.Common.{◌≡◌, Bool, [], ap, ◌∙◌, arith}
use Rattle.std.proofs.lemmas.Result.{IfOk-weaker, on_ok_weaker}
use Rattle.std.proofs.lemmas.Grind.{common_steps}
use Rattle.apcu_model.specs.declared.request.Reply.TheVariants.{Flag}
use Rattle.apcu_model.specs.Cache.{Cache}
use Rattle.apcu_model.specs.Change.{inserted}
use Rattle.plain_cache.specs.States.{cache_in}
use Rattle.apcu_model.specs.Sequential.{is_stored}
use Rattle.plain_cache.proofs.plain.Plain.store.Goals as goal

pub invariant_of-self : goal.invariant_of-self
invariant_of-self c = grind (arith, common_steps)

pub returns-clause-reply : goal.returns-clause-reply
returns-clause-reply c =
    let a = c.args in
    let s = cache_in c.self.inside.state in
    IfOk-weaker c.store.result (λ (b : Bool). b ≡ is_stored (inserted [] a.key a.value a.ttl a.exclusive a.t s).answer) _
    (λ (b : Bool) (e : b ≡ is_stored (inserted [] a.key a.value a.ttl a.exclusive a.t s).answer). ap Flag (e
    ∙ ap (λ (m : Cache). is_stored (inserted [] a.key a.value a.ttl a.exclusive a.t m).answer) c.self.view_is))
    c.store.ensures.reply

pub returns-clause-after : goal.returns-clause-after
returns-clause-after c =
    let a = c.args in
    let s = cache_in c.self.inside.state in
    on_ok_weaker c.store.result
    (λ (e : cache_in c.store.new.self ≡ (inserted [] a.key a.value a.ttl a.exclusive a.t s).cache). e
    ∙ ap (λ (m : Cache). (inserted [] a.key a.value a.ttl a.exclusive a.t m).cache) c.self.view_is)
    c.store.ensures.after

pub returns-clause-err : goal.returns-clause-err
returns-clause-err c = grind (arith, common_steps)
