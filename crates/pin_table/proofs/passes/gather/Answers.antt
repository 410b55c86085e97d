use Rattle.std.proofs.Common.{◌≡◌, [], ◌∷◌, ◌++◌, ap, sym, ◌∙◌, subst}
use Rattle.pin_table.specs.Lists.{known_list, AllOf}
use Rattle.pin_table.proofs.PassLists.{known_snoc, all_front}
use Rattle.pin_table.proofs.passes.gather.Goals as goal

pub loop-e-preserved : goal.loop-e-preserved
loop-e-preserved c =
    let popped : c.loop-e.ended.ended ≡ c.pop.new.self.ended ++ c.in-Some.e ∷ [] = c.in-Some.ensures.some in
    let all = all_front c.args.table.now c.pop.new.self.ended c.in-Some.e (subst (AllOf c.args.table.now) popped c.loop-e.invariant.tables) in
    let k = known_snoc c.pop.new.self.ended c.in-Some.e c.loop-e.seat.state.log.closed in
    let d = c.take_in.ensures.state in
    record {
      table = c.take_in.ensures.table ∙ c.loop-e.invariant.table;
      words = ap (λ v. v.words) d ∙ c.loop-e.invariant.words;
      history = ap (λ v. v.log.history) d ∙ c.loop-e.invariant.history;
      made = ap (λ v. v.log.made) d ∙ c.loop-e.invariant.made;
      hand = ap (λ v. v.log.hand) d ∙ c.loop-e.invariant.hand;
      closed = rw (ap (λ v. v.log.closed) d, c.e.view_is) (sym k ∙ (ap (λ l. known_list l ++ c.loop-e.seat.state.log.closed) (sym popped) ∙ c.loop-e.invariant.closed));
      tables = all.0;
    }
