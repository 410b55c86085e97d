use Rattle.std.proofs.Common.{◌≡◌, ◌∙◌, sym, ap, subst, Some, None}
use mathlib.Core.List.{IsPrefix}
use Rattle.apcu_model.specs.History.{start_of, all_legal}
use Rattle.pin_table.specs.declared.views.Known.{Known}
use Rattle.pin_table.specs.declared.views.WriterState.{WriterState}
use Rattle.pin_table.specs.Events.{events_of}
use Rattle.pin_table.specs.Views.{taken_in, rested, with_hand, seen_all}
use Rattle.shared_cache.proofs.CopyEvents.{unchanged}
use Rattle.shared_cache.proofs.locked_cache.LockedCache.learn.Goals as goal
use Rattle.shared_cache.proofs.locked_cache.LockedCache.learn.Given as given

-- the state as the event begins that does not take place
begun : (g : given.Over) (c : goal.After-give_seen g) → c.writer-w.result.seat.now.state ≡ taken_in c.self.inside.seat.state c.args.pass.known
begun g c = c.writer-w.ensures.state ∙ ap (λ (x : WriterState). taken_in x c.args.pass.known) (c.learn-ended.ensures.state ∙ sym c.self.invariant.resting)

table : (g : given.Over) (c : goal.After-give_seen g) → c.writer-w.result.seat.now.table ≡ g.N.TableName.table
table g c = c.writer-w.result.same_table ∙ (c.writer-w.ensures.table ∙ c.requires.table)

pub invariant_of-self : goal.invariant_of-self
invariant_of-self g c =
    let state : c.give_seen.new.self.1.0.state ≡ rested (taken_in c.self.inside.seat.state c.args.pass.known) (with_hand c.self.inside.seat.state.log None) =
    c.give_seen.ensures.state ∙ ap (λ (x : WriterState). rested x (with_hand x.log None)) (begun g c) in
    unchanged c.lower_laws.ensures _ _ _ c.self.inside.seat c.give_seen.new.self.1.0 c.self.inside.core c.self.inside.journal c.args.pass.known.worker c.self.invariant
    (c.give_seen.ensures.table ∙ table g c) (ap (λ (x : WriterState). x.words) state) (ap (λ (x : WriterState). x.log) state) (ap (λ (x : WriterState). x.windows) state)
    (state ∙ sym (ap (λ (x : WriterState). rested x x.log) state))

pub returns-clause-learns : goal.returns-clause-learns
returns-clause-learns g c =
    let h : c.learn-ended.new.seat.state.log.history ≡ c.self.inside.seat.state.log.history = ap (λ (x : WriterState). x.log.history) (c.learn-ended.ensures.state ∙ sym c.self.invariant.resting) in
    let k : c.give_seen.result.known ≡ seen_all (with_hand c.self.inside.seat.state.log (Some c.args.pass.known)) = c.give_seen.ensures.known ∙ ap (λ (x : WriterState). seen_all x.log) (begun g c) in
    let seen : c.give_seen.result.known.seen ≡ c.self.inside.seat.state.log.history = ap (λ (x : Known). x.seen) k in
    let own : c.give_seen.result.known.own ≡ c.args.pass.known.own = ap (λ (x : Known). x.own) k in
    let who : c.give_seen.result.known.worker ≡ c.args.pass.known.worker = ap (λ (x : Known). x.worker) k in
    record {
      table = c.give_seen.ensures.pass ∙ (table g c ∙ sym c.requires.pass.table);
      worker = who;
      left = ap (λ (x : Known). x.left) k;
      own = own;
      before = subst (IsPrefix c.args.pass.known.seen) (h ∙ sym seen) c.writer-w.ensures.seen;
      other = subst (IsPrefix c.args.ended.known.seen) (sym seen) c.learn-ended.ensures.seen;
      all_own = ap (λ v. events_of v c.give_seen.result.known.seen) who ∙ (ap (events_of c.args.pass.known.worker) (seen ∙ sym h) ∙ (c.writer-w.ensures.own ∙ sym own));
      legal = ap (all_legal _ (start_of g.N.TableName.conf)) seen ∙ c.self.invariant.legal;
    }
