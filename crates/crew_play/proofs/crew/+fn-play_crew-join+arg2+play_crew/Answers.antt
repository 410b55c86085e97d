use Rattle.std.proofs.Common.{◌≡◌, ◌-◌, sym, subst, arith, suc, ℕ, [], ◌∙◌}
use Rattle.std.specs.Prelude.{List, Result, Option, IfSome}
use Rattle.std.specs.Result.{result_ok}
use Rattle.pin_table.specs.Values.{PassView}
use Rattle.pin_table.specs.Events.{events_of}
use Rattle.script_read.specs.Clock.{timed, all_timed}
use Rattle.worker_play.specs.Ends.{Ends}
use Rattle.worker_play.specs.declared.script.Lines.TheVariants.{Kept}
use Rattle.worker_play.specs.declared.script.PlayFault.{PlayFault}
use Rattle.crew_play.specs.Crew.{AllEnd, EndsBefore}
use Rattle.crew_play.proofs.Crews.{all_none, all_with, refusable_with}
use Rattle.crew_play.proofs.FirstEvents.{some_before_none, some_before_more}
use Rattle.crew_play.proofs.crew.+fn-play_crew-join+arg2+play_crew.Goals as goal

pub returns-then-count-eq0-clause-all : goal.returns-then-count-eq0-clause-all
returns-then-count-eq0-clause-all g t c =
    let table = g.N.TableName.table in
    let conf = g.N.TableName.conf in
    let scripts = all_timed c.args.cast.now.clock c.args.cast.now.scripts.now in
    subst (λ (n : ℕ). AllEnd table conf scripts n c.args.ended.ended c.args.texts.items) (sym c.if-count-eq0.true)
    (subst (λ (l : List PassView). AllEnd table conf scripts 0 l c.args.texts.items) (sym {A = List PassView} c.requires.none_ended)
    (subst (λ (l : List (Result (List ℕ) PlayFault)). AllEnd table conf scripts 0 [] l) (sym {A = List (Result (List ℕ) PlayFault)} c.requires.no_text)
    (all_none table conf scripts)))

pub returns-then-count-eq0-clause-first : goal.returns-then-count-eq0-clause-first
returns-then-count-eq0-clause-first g t c = some_before_none c.args.count c.args.first c.if-count-eq0.true

pub returns-clause-all : goal.returns-clause-all
returns-clause-all g t c =
    let table = g.N.TableName.table in
    let conf = g.N.TableName.conf in
    let script = c.last_worker-pass.result.1.now in
    let front = c.join-front.result.0 in
    let last = c.join-front.result.1 in
    let n : ℕ = c.args.count - 1 in
    let count : suc n ≡ c.args.count = omega (arith, c.if-count-eq0.false) in
    let its : c.behind-pass.result.0.known.worker ≡ n = c.behind-pass.ensures.worker ∙ c.last_worker-pass.ensures.worker in
    let one : Ends table conf n Kept (timed c.args.cast.now.clock script) last.0 (result_ok last.1) =
    subst (λ v. Ends table conf v Kept (timed c.args.cast.now.clock script) last.0 (result_ok last.1)) its c.join-front.ensures.second.0 in
    all_with table conf c.args.cast.now.clock c.args.cast.now.scripts.now n c.args.count front.1.ended c.push.new.self.ended front.2.items c.push_reserved.new.self.items script last.0 last.1
    count c.last_worker-pass.ensures.script c.join-front.ensures.first.0 one c.push.ensures.ended c.push_reserved.ensures.items

pub returns-clause-pattern : goal.returns-clause-pattern
returns-clause-pattern g t c =
    let front = c.join-front.result.0 in
    refusable_with (g.M.Maker.may_refuse c.args.cast.now.maker.now) c.args.cast.now.scripts.now (c.args.count - 1) front.2.items c.push_reserved.new.self.items c.last_worker-pass.result.1.now c.join-front.result.1.1
    c.last_worker-pass.ensures.script c.join-front.ensures.first.1 c.join-front.ensures.second.1 c.push_reserved.ensures.items

pub returns-clause-first : goal.returns-clause-first
returns-clause-first g t c =
    let n : ℕ = c.args.count - 1 in
    let count : suc n ≡ c.args.count = omega (arith, c.if-count-eq0.false) in
    let one : IfSome c.args.first (λ (e : PassView). events_of n e.known.seen ≡ []) =
    subst (λ w. IfSome c.args.first (λ (e : PassView). events_of w e.known.seen ≡ [])) c.last_worker-pass.ensures.worker c.behind-pass.ensures.first in
    let before : IfSome c.args.first (λ (e : PassView). EndsBefore n e) =
    subst (λ (o : Option PassView). IfSome o (λ (e : PassView). EndsBefore n e)) c.behind-pass.ensures.same c.join-front.ensures.first.5 in
    some_before_more n c.args.count c.args.first count before one
