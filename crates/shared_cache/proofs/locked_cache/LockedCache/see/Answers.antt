use Rattle.std.proofs.Common.{◌≡◌, ◌∙◌, sym, ap, subst, Some, None}
use mathlib.Core.List.{IsPrefix}
use Rattle.apcu_model.specs.History.{start_of, all_legal}
use Rattle.pin_table.specs.declared.views.Known.{Known}
use Rattle.pin_table.specs.declared.views.WriterState.{WriterState}
use Rattle.pin_table.specs.Events.{events_of}
use Rattle.pin_table.specs.Views.{taken_in, rested, with_hand, seen_all}
use Rattle.shared_cache.specs.Meeting.{Sees}
use Rattle.shared_cache.proofs.CopyEvents.{unchanged}
use Rattle.shared_cache.proofs.locked_cache.LockedCache.see.Goals as goal
use Rattle.shared_cache.proofs.locked_cache.LockedCache.see.Given as given

table : (g : given.Over) (c : goal.After-give_seen g) → c.writer-w.result.seat.now.table ≡ g.N.TableName.table
table g c = c.writer-w.result.same_table ∙ (c.writer-w.ensures.table ∙ c.requires.table)

state : (g : given.Over) (c : goal.After-give_seen g) → c.give_seen.new.self.1.0.state ≡ rested (taken_in c.self.inside.seat.state c.args.pass.known) (with_hand c.self.inside.seat.state.log None)
state g c = c.give_seen.ensures.state ∙ ap (λ (x : WriterState). rested x (with_hand x.log None)) c.writer-w.ensures.state

pub invariant_of-self : goal.invariant_of-self
invariant_of-self g c =
    unchanged c.lower_laws.ensures _ _ _ c.self.inside.seat c.give_seen.new.self.1.0 c.self.inside.core c.self.inside.journal c.args.pass.known.worker c.self.invariant
    (c.give_seen.ensures.table ∙ table g c) (ap (λ (x : WriterState). x.words) (state g c)) (ap (λ (x : WriterState). x.log) (state g c)) (ap (λ (x : WriterState). x.windows) (state g c))
    (state g c ∙ sym (ap (λ (x : WriterState). rested x x.log) (state g c)))

pub returns-clause-sees : goal.returns-clause-sees
returns-clause-sees g c =
    let k : c.give_seen.result.known ≡ seen_all (with_hand c.self.inside.seat.state.log (Some c.args.pass.known)) = c.give_seen.ensures.known ∙ ap (λ (x : WriterState). seen_all x.log) c.writer-w.ensures.state in
    let own : c.give_seen.result.known.own ≡ c.args.pass.known.own = ap (λ (x : Known). x.own) k in
    let who : c.give_seen.result.known.worker ≡ c.args.pass.known.worker = ap (λ (x : Known). x.worker) k in
    let all : Sees _ _ c.args.pass c.give_seen.result c.self.inside.seat.state.log.history = record {
      table = c.give_seen.ensures.pass ∙ (table g c ∙ sym c.requires.pass.table);
      worker = who;
      left = ap (λ (x : Known). x.left) k;
      own = own;
      seen = ap (λ (x : Known). x.seen) k;
      before = c.writer-w.ensures.seen;
      all_own = ap (λ v. events_of v c.self.inside.seat.state.log.history) who ∙ (c.writer-w.ensures.own ∙ sym own);
      legal = c.self.invariant.legal;
    } in subst (Sees _ _ c.args.pass c.give_seen.result) c.self.view_is all

pub returns-clause-same : goal.returns-clause-same
returns-clause-same g c = ap (λ (x : WriterState). x.log.history) (state g c) ∙ c.self.view_is
