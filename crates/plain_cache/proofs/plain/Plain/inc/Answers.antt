use Rattle.std.proofs.Common.{◌≡◌, ℤ, [], ap, ◌∙◌, w64, to_z, of_z, arith}
use Rattle.std.specs.Prelude.{Option}
use Rattle.std.proofs.lemmas.Int.{to_z-of_z}
use Rattle.std.proofs.lemmas.Result.{IfOk-weaker, on_ok_weaker}
use Rattle.std.proofs.lemmas.Grind.{common_steps}
use Rattle.apcu_model.specs.Cache.{Cache}
use Rattle.apcu_model.specs.Counters.{counted}
use Rattle.plain_cache.specs.States.{cache_in}
use Rattle.apcu_model.specs.Sequential.{number_reply}
use Rattle.plain_cache.proofs.plain.Plain.inc.Goals as goal

pub invariant_of-self : goal.invariant_of-self
invariant_of-self c = grind (arith, common_steps)

pub returns-clause-reply : goal.returns-clause-reply
returns-clause-reply c =
    let a = c.args in
    let s = cache_in c.self.inside.state in
    let z = to_z w64 (of_z w64 a.step) in
    IfOk-weaker c.count.result (λ (n : Option ℤ). n ≡ (counted [] a.key.now z a.ttl a.t s).number) _
    (λ (n : Option ℤ) (e : n ≡ (counted [] a.key.now z a.ttl a.t s).number). ap number_reply (e
    ∙ ap (λ (step : ℤ). (counted [] a.key.now step a.ttl a.t s).number) (to_z-of_z w64 a.step c.ranges.step)
    ∙ ap (λ (m : Cache). (counted [] a.key.now a.step a.ttl a.t m).number) c.self.view_is))
    c.count.ensures.reply

pub returns-clause-after : goal.returns-clause-after
returns-clause-after c =
    let a = c.args in
    let s = cache_in c.self.inside.state in
    let z = to_z w64 (of_z w64 a.step) in
    on_ok_weaker c.count.result
    (λ (e : cache_in c.count.new.self ≡ (counted [] a.key.now z a.ttl a.t s).cache). e
    ∙ ap (λ (step : ℤ). (counted [] a.key.now step a.ttl a.t s).cache) (to_z-of_z w64 a.step c.ranges.step)
    ∙ ap (λ (m : Cache). (counted [] a.key.now a.step a.ttl a.t m).cache) c.self.view_is)
    c.count.ensures.after

pub returns-clause-err : goal.returns-clause-err
returns-clause-err c = grind (arith, common_steps)
