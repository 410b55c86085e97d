use Rattle.std.proofs.Common.{◌≡◌, ◌-◌, ◌≤◌, sym, subst, arith, suc, ℕ, length, ◌∙◌}
use Rattle.std.specs.Prelude.{Some}
use Rattle.std.specs.Result.{result_ok}
use Rattle.pin_table.specs.Values.{PassView}
use Rattle.script_read.specs.Clock.{timed, all_timed}
use Rattle.worker_play.specs.Ends.{Ends}
use Rattle.worker_play.specs.declared.script.Lines.TheVariants.{Kept}
use Rattle.crew_play.specs.Crew.{AllEnd, EndsBefore}
use Rattle.crew_play.proofs.Crews.{all_with, refusable_with}
use Rattle.crew_play.proofs.FirstEvents.{last_ends_first}
use Rattle.crew_play.proofs.order.play_all.Goals as goal

pub returns-in-Together-clause-all : goal.returns-in-Together-clause-all
returns-in-Together-clause-all g c =
    let ended = c.play_crew-ended.result.1.ended in
    let texts = c.play_crew-ended.result.2.items in
    subst (λ n. AllEnd g.N.TableName.table g.N.TableName.conf (all_timed c.args.cast.now.clock c.args.cast.now.scripts.now) n ended texts) c.len-count.ensures c.play_crew-ended.ensures.all

pub returns-in-Some-clause-all : goal.returns-in-Some-clause-all
returns-in-Some-clause-all g c =
    let table = g.N.TableName.table in
    let conf = g.N.TableName.conf in
    let clock = c.args.cast.now.clock in
    let scripts = c.args.cast.now.scripts.now in
    let front = c.play_crew-first.result in
    let script = c.last_worker-pass.result.1.now in
    let text = c.play_out-end.result.1 in
    let end = c.in-Some.end in
    let n : ℕ = c.len-count.result - 1 in
    let some : 1 ≤ length scripts = c.requires.some c.in-LastFirst.is in
    let count : suc n ≡ length scripts = omega (arith, some, c.len-count.ensures) in
    let found : Some end ≡ Some c.play_out-end.result.0 = sym c.in-Some.is ∙ c.play_crew-first.ensures.same in
    let same : end ≡ c.play_out-end.result.0 = cc (found) in
    let one : Ends table conf n Kept (timed clock script) c.play_out-end.result.0 (result_ok text) =
    subst (λ w. Ends table conf w Kept (timed clock script) c.play_out-end.result.0 (result_ok text)) c.last_worker-pass.ensures.worker
    c.play_out-end.ensures.ends in
    all_with table conf clock scripts n (length scripts) front.1.ended c.push.new.self.ended front.2.items c.push_reserved.new.self.items script end text
    count c.last_worker-pass.ensures.script c.play_crew-first.ensures.all (subst (λ (b : PassView). Ends table conf n Kept (timed clock script) b (result_ok text)) (sym same) one) c.push.ensures.ended c.push_reserved.ensures.items

pub returns-in-Some-clause-pattern : goal.returns-in-Some-clause-pattern
returns-in-Some-clause-pattern g c =
    let front = c.play_crew-first.result in
    refusable_with (g.M.Maker.may_refuse c.args.cast.now.maker.now) c.args.cast.now.scripts.now (c.len-count.result - 1) front.2.items c.push_reserved.new.self.items c.last_worker-pass.result.1.now c.play_out-end.result.1
    c.last_worker-pass.ensures.script c.play_crew-first.ensures.pattern
    c.play_out-end.ensures.pattern c.push_reserved.ensures.items

pub returns-in-Some-clause-first : goal.returns-in-Some-clause-first
returns-in-Some-clause-first g c = λ _.
    let scripts = c.args.cast.now.scripts.now in
    let end = c.in-Some.end in
    let n : ℕ = c.len-count.result - 1 in
    let some : 1 ≤ length scripts = c.requires.some c.in-LastFirst.is in
    let count : suc n ≡ length scripts = omega (arith, some, c.len-count.ensures) in
    let found : Some end ≡ Some c.play_out-end.result.0 = sym c.in-Some.is ∙ c.play_crew-first.ensures.same in
    let same : end ≡ c.play_out-end.result.0 = cc (found) in
    let before : EndsBefore n c.play_out-end.result.0 = c.play_crew-first.ensures.first in
    last_ends_first n (length scripts) c.play_crew-first.result.1.ended c.push.new.self.ended end count c.play_crew-first.ensures.all.have_ended c.push.ensures.ended
    (subst (λ (b : PassView). EndsBefore n b) (sym same) before)
