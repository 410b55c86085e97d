use Rattle.std.proofs.Common.{ℕ, ◌≤◌, ◌+◌, ◌++◌, List, ◌∷◌, length, map, drop, ap, ◌∙◌, subst, arith, Bor}
use Rattle.std.specs.Prelude.{codes}
use Rattle.std.proofs.Math.ListN.{drop_of_length-le}
use Rattle.php_graph.specs.declared.kind.Kind.{Kind}
use Rattle.apcu_model.specs.declared.request.Request.TheVariants.{Store}
use Rattle.reply_text.specs.Replies.{undone, array_text, all_with}
use Rattle.worker_play.specs.Turns.{asks_at}
use Rattle.worker_play.proofs.PassProgress.{Midway, on_ok}
use Rattle.worker_play.proofs.SeveralKeys.{undone_begins, undone_goes_on, undone_ends, printed, drop_item, two_left, rest_left, reached_one}
use Rattle.worker_play.proofs.calls.store_all.Goals as goal

pub loop-pair-init : goal.loop-pair-init
loop-pair-init g c = record {
  table = c.requires.table;
  whole = c.requires.whole;
  left = c.requires.left;
  midway = undone_begins _ _ _ _ _ _ (ap (λ (l : List _). map (λ key. key.now) l) c.new-refused.ensures.items) c.requires.whole;
}

pub store-next-requires-clause-pass : goal.store-next-requires-clause-pass
store-next-requires-clause-pass g c =
    let all : List (List ℕ × List Kind) = c.args.pairs.now in
    record {
      table = c.loop-pair.invariant.table;
      left = two_left (drop c.loop-pair.pair-index all) c.pair-item.result (drop (c.loop-pair.pair-index + 1) all) _ (drop_item all c.loop-pair.pair-index c.pair-item.result c.loop-pair-test.true c.pair-item.is) c.loop-pair.invariant.left;
    }

pub returns-in-Err-clause-reaches : goal.returns-in-Err-clause-reaches
returns-in-Err-clause-reaches g c =
    let all : List (List ℕ × List Kind) = c.args.pairs.now in
    let split = drop_item all c.loop-pair.pair-index c.pair-item.result c.loop-pair-test.true c.pair-item.is in
    let m = subst (λ (l : List (List ℕ × List Kind)). Midway g.N.TableName.conf (length g.N.TableName.budgets) c.args.pass c.loop-pair.held (asks_at c.args.t (map (λ pair. Store pair.0 pair.1 c.args.ttl c.args.exclusive) all)) (asks_at c.args.t (map (λ pair. Store pair.0 pair.1 c.args.ttl c.args.exclusive) l)) (undone (map (λ pair. pair.0) all)) (λ later. map (λ key. key.now) c.loop-pair.refused.items ++ undone (map (λ pair. pair.0) l) later)) split c.loop-pair.invariant.midway in
    reached_one _ _ _ _ _ _ _ _ _ _ (undone (map (λ pair. pair.0) all)) (λ later. map (λ key. key.now) c.loop-pair.refused.items ++ undone (map (λ pair. pair.0) (c.pair-item.result ∷ (drop (c.loop-pair.pair-index + 1) all))) later) m c.store-next.ensures

pub loop-pair-preserved : goal.loop-pair-preserved
loop-pair-preserved g c =
    let all : List (List ℕ × List Kind) = c.args.pairs.now in
    let split = drop_item all c.loop-pair.pair-index c.pair-item.result c.loop-pair-test.true c.pair-item.is in
    let m = subst (λ (l : List (List ℕ × List Kind)). Midway g.N.TableName.conf (length g.N.TableName.budgets) c.args.pass c.loop-pair.held (asks_at c.args.t (map (λ pair. Store pair.0 pair.1 c.args.ttl c.args.exclusive) all)) (asks_at c.args.t (map (λ pair. Store pair.0 pair.1 c.args.ttl c.args.exclusive) l)) (undone (map (λ pair. pair.0) all)) (λ later. map (λ key. key.now) c.loop-pair.refused.items ++ undone (map (λ pair. pair.0) l) later)) split c.loop-pair.invariant.midway in
    record {
      table = c.store-next.ensures.table ∙ c.loop-pair.invariant.table;
      whole = c.store-next.ensures.all_own;
      left = rest_left (drop c.loop-pair.pair-index all) c.pair-item.result (drop (c.loop-pair.pair-index + 1) all) _ _ split c.loop-pair.invariant.left c.store-next.ensures.left;
      midway = undone_goes_on _ _ _ _ _ _ _ _ _ (undone (map (λ pair. pair.0) all)) (map (λ key. key.now) c.loop-pair.refused.items) _ c.pair-item.result.0 (map (λ pair. pair.0) (drop (c.loop-pair.pair-index + 1) all)) _ m c.store-next.ensures c.in_default.ensures;
    }

pub returns-clause-reaches : goal.returns-clause-reaches
returns-clause-reaches g c = c.loop-pair.invariant.midway.0

pub returns-clause-line : goal.returns-clause-line
returns-clause-line g c =
    let all : List (List ℕ × List Kind) = c.args.pairs.now in
    let past : length all ≤ c.loop-pair.pair-index = omega (arith, c.loop-pair-test.false) in
    let m = subst (λ (l : List (List ℕ × List Kind)). Midway g.N.TableName.conf (length g.N.TableName.budgets) c.args.pass c.loop-pair.held (asks_at c.args.t (map (λ pair. Store pair.0 pair.1 c.args.ttl c.args.exclusive) all)) (asks_at c.args.t (map (λ pair. Store pair.0 pair.1 c.args.ttl c.args.exclusive) l)) (undone (map (λ pair. pair.0) all)) (λ later. map (λ key. key.now) c.loop-pair.refused.items ++ undone (map (λ pair. pair.0) l) later)) (drop_of_length-le all past) c.loop-pair.invariant.midway in
    let t = undone_ends _ _ _ _ _ c.args.t (undone (map (λ pair. pair.0) all)) (map (λ key. key.now) c.loop-pair.refused.items) m in
    let text = λ (keys : List (List ℕ)). c.args.out.now ++ array_text (all_with (codes "i:-1;") keys) in
    on_ok c.write_each.result (λ e. printed _ _ _ _ _ _ _ text _ t (e ∙ ap (λ (l : List (Bor (List ℕ))). text (map (λ key. key.now) l)) c.deref.ensures.value)) c.write_each.ensures
