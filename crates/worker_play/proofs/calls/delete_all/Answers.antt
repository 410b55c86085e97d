use Rattle.std.proofs.Common.{ℕ, ◌≤◌, ◌+◌, ◌++◌, List, ◌∷◌, length, map, drop, ap, ◌∙◌, subst, arith, Bor}
use Rattle.std.proofs.Math.ListN.{drop_of_length-le}
use Rattle.apcu_model.specs.declared.request.Request.TheVariants.{Delete}
use Rattle.reply_text.specs.Replies.{undone, array_text, numbered}
use Rattle.worker_play.specs.Turns.{asks_at}
use Rattle.worker_play.proofs.PassProgress.{Midway, on_ok}
use Rattle.worker_play.proofs.SeveralKeys.{undone_begins, undone_goes_on, undone_ends, printed, drop_item, two_left, rest_left, reached_one}
use Rattle.worker_play.proofs.calls.delete_all.Goals as goal

pub loop-key-init : goal.loop-key-init
loop-key-init g c = record {
  table = c.requires.table;
  whole = c.requires.whole;
  left = c.requires.left;
  midway = undone_begins _ _ _ _ _ _ (ap (λ (l : List _). map (λ key. key.now) l) c.new-kept.ensures.items) c.requires.whole;
}

pub delete-next-requires-clause-pass : goal.delete-next-requires-clause-pass
delete-next-requires-clause-pass g c =
    let all : List (List ℕ) = c.args.keys.now in
    record {
      table = c.loop-key.invariant.table;
      left = two_left (drop c.loop-key.key-index all) c.key-item.result (drop (c.loop-key.key-index + 1) all) _ (drop_item all c.loop-key.key-index c.key-item.result c.loop-key-test.true c.key-item.is) c.loop-key.invariant.left;
    }

pub returns-in-Err-clause-reaches : goal.returns-in-Err-clause-reaches
returns-in-Err-clause-reaches g c =
    let all : List (List ℕ) = c.args.keys.now in
    let split = drop_item all c.loop-key.key-index c.key-item.result c.loop-key-test.true c.key-item.is in
    let m = subst (λ (l : List (List ℕ)). Midway g.N.TableName.conf (length g.N.TableName.budgets) c.args.pass c.loop-key.held (asks_at c.args.t (map Delete all)) (asks_at c.args.t (map Delete l)) (undone all) (λ later. map (λ key. key.now) c.loop-key.kept.items ++ undone l later)) split c.loop-key.invariant.midway in
    reached_one _ _ _ _ _ _ _ _ _ _ (undone all) (λ later. map (λ key. key.now) c.loop-key.kept.items ++ undone (c.key-item.result ∷ (drop (c.loop-key.key-index + 1) all)) later) m c.delete-next.ensures

pub loop-key-preserved : goal.loop-key-preserved
loop-key-preserved g c =
    let all : List (List ℕ) = c.args.keys.now in
    let split = drop_item all c.loop-key.key-index c.key-item.result c.loop-key-test.true c.key-item.is in
    let m = subst (λ (l : List (List ℕ)). Midway g.N.TableName.conf (length g.N.TableName.budgets) c.args.pass c.loop-key.held (asks_at c.args.t (map Delete all)) (asks_at c.args.t (map Delete l)) (undone all) (λ later. map (λ key. key.now) c.loop-key.kept.items ++ undone l later)) split c.loop-key.invariant.midway in
    record {
      table = c.delete-next.ensures.table ∙ c.loop-key.invariant.table;
      whole = c.delete-next.ensures.all_own;
      left = rest_left (drop c.loop-key.key-index all) c.key-item.result (drop (c.loop-key.key-index + 1) all) _ _ split c.loop-key.invariant.left c.delete-next.ensures.left;
      midway = undone_goes_on _ _ _ _ _ _ _ _ _ (undone all) (map (λ key. key.now) c.loop-key.kept.items) _ c.key-item.result (drop (c.loop-key.key-index + 1) all) _ m c.delete-next.ensures c.in_default.ensures;
    }

pub returns-clause-reaches : goal.returns-clause-reaches
returns-clause-reaches g c = c.loop-key.invariant.midway.0

pub returns-clause-line : goal.returns-clause-line
returns-clause-line g c =
    let all : List (List ℕ) = c.args.keys.now in
    let past : length all ≤ c.loop-key.key-index = omega (arith, c.loop-key-test.false) in
    let m = subst (λ (l : List (List ℕ)). Midway g.N.TableName.conf (length g.N.TableName.budgets) c.args.pass c.loop-key.held (asks_at c.args.t (map Delete all)) (asks_at c.args.t (map Delete l)) (undone all) (λ later. map (λ key. key.now) c.loop-key.kept.items ++ undone l later)) (drop_of_length-le all past) c.loop-key.invariant.midway in
    let t = undone_ends _ _ _ _ _ c.args.t (undone all) (map (λ key. key.now) c.loop-key.kept.items) m in
    let text = λ (keys : List (List ℕ)). c.args.out.now ++ array_text (numbered 0 keys) in
    on_ok c.write_numbered.result (λ e. printed _ _ _ _ _ _ _ text _ t (e ∙ ap (λ (l : List (Bor (List ℕ))). text (map (λ key. key.now) l)) c.deref.ensures.value)) c.write_numbered.ensures
