use Rattle.std.proofs.Common.{◌≡◌, ℕ, ◌≤◌, ◌+◌, ◌++◌, Bool, List, length, map, drop, ap, ap₂, ◌∙◌, subst, arith}
use Rattle.std.specs.Prelude.{◌&&◌}
use Rattle.std.specs.List.{list_all}
use Rattle.std.proofs.Math.ListN.{drop_of_length-le}
use Rattle.php_graph.specs.declared.kind.Kind.{Kind}
use Rattle.simple_pool.specs.Names.{is_good_key, is_good_name, pool_key}
use Rattle.reply_text.specs.Replies.{flag_text}
use Rattle.worker_play.specs.Pools.{put_as, put_of, put_done}
use Rattle.worker_play.specs.Turns.{asks_at}
use Rattle.worker_play.proofs.PassProgress.{Midway, begins, on_ok}
use Rattle.worker_play.proofs.SeveralKeys.{printed, drop_item, two_left, rest_left}
use Rattle.worker_play.proofs.PoolKeys.{asked_as, first_good, put_goes_on, puts_end}
use Rattle.worker_play.proofs.pools.put_all.Goals as goal

pub loop-pair-init : goal.loop-pair-init
loop-pair-init g c = record {
  table = c.requires.table;
  whole = c.requires.whole;
  left = c.requires.left;
  good = c.requires.good;
  midway = begins _ _ _ _ (list_all (put_done c.args.life)) c.requires.whole;
}

pub pool_key-requires-clause-name : goal.pool_key-requires-clause-name
pool_key-requires-clause-name g c = ap is_good_name c.as_slice.ensures.bytes ∙ c.requires.named

pub pool_key-requires-clause-key : goal.pool_key-requires-clause-key
pool_key-requires-clause-key g c =
    let pairs : List (List ℕ × List Kind) = c.args.pairs.now in
    let split = drop_item pairs c.loop-pair.pair-index c.pair-item.result c.loop-pair-test.true c.pair-item.is in
    ap is_good_key c.as_slice-in-loop-pair.ensures.bytes ∙ (first_good (λ (pair : List ℕ × List Kind). is_good_key pair.0) _ _ _ split c.loop-pair.invariant.good).0

pub returns-in-Err-clause-reaches : goal.returns-in-Err-clause-reaches
returns-in-Err-clause-reaches g c = c.loop-pair.invariant.midway.0

pub put-next-requires-clause-pass : goal.put-next-requires-clause-pass
put-next-requires-clause-pass g c =
    let pairs : List (List ℕ × List Kind) = c.args.pairs.now in
    record {
      table = c.loop-pair.invariant.table;
      left = two_left (drop c.loop-pair.pair-index pairs) c.pair-item.result (drop (c.loop-pair.pair-index + 1) pairs) _ (drop_item pairs c.loop-pair.pair-index c.pair-item.result c.loop-pair-test.true c.pair-item.is) c.loop-pair.invariant.left;
    }

pub loop-pair-preserved : goal.loop-pair-preserved
loop-pair-preserved g c =
    let pairs : List (List ℕ × List Kind) = c.args.pairs.now in
    let rest : List (List ℕ × List Kind) = drop (c.loop-pair.pair-index + 1) pairs in
    let done = list_all (put_done c.args.life) in
    let split = drop_item pairs c.loop-pair.pair-index c.pair-item.result c.loop-pair-test.true c.pair-item.is in
    let m = subst (λ (l : List (List ℕ × List Kind)). Midway g.N.TableName.conf (length g.N.TableName.budgets) c.args.pass c.loop-pair.held (asks_at c.args.t (map (put_of c.args.pool.now c.args.life) pairs)) (asks_at c.args.t (map (put_of c.args.pool.now c.args.life) l)) done (λ later. c.loop-pair.all && done later)) split c.loop-pair.invariant.midway in
    let made : c.in-Ok.own ≡ pool_key c.args.pool.now c.pair-item.result.0 = c.in-Ok.ensures ∙ ap₂ pool_key c.as_slice.ensures.bytes c.as_slice-in-loop-pair.ensures.bytes in
    let put = c.put-next.ensures in
    let asked = asked_as _ _ _ _ _ _ _ _ (ap (λ key. put_as key c.pair-item.result.1 c.args.life) made) put.1 in
    record {
      table = asked.table ∙ c.loop-pair.invariant.table;
      whole = asked.all_own;
      left = rest_left (drop c.loop-pair.pair-index pairs) c.pair-item.result rest _ _ split c.loop-pair.invariant.left asked.left;
      good = (first_good (λ (pair : List ℕ × List Kind). is_good_key pair.0) _ _ _ split c.loop-pair.invariant.good).1;
      midway = put_goes_on _ _ _ _ _ _ _ _ _ put.0 c.args.life done c.loop-pair.all _ _ m asked put.2 c.both-all.ensures;
    }

pub returns-clause-reaches : goal.returns-clause-reaches
returns-clause-reaches g c = c.loop-pair.invariant.midway.0

pub returns-clause-line : goal.returns-clause-line
returns-clause-line g c =
    let pairs : List (List ℕ × List Kind) = c.args.pairs.now in
    let done = list_all (put_done c.args.life) in
    let past : length pairs ≤ c.loop-pair.pair-index = omega (arith, c.loop-pair-test.false) in
    let m = subst (λ (l : List (List ℕ × List Kind)). Midway g.N.TableName.conf (length g.N.TableName.budgets) c.args.pass c.loop-pair.held (asks_at c.args.t (map (put_of c.args.pool.now c.args.life) pairs)) (asks_at c.args.t (map (put_of c.args.pool.now c.args.life) l)) done (λ later. c.loop-pair.all && done later)) (drop_of_length-le pairs past) c.loop-pair.invariant.midway in
    let t = puts_end _ _ _ _ _ c.args.t done c.args.life c.loop-pair.all m in
    on_ok c.write_flag.result (λ e. printed _ _ _ _ _ _ _ (λ (all : Bool). c.args.out.now ++ flag_text all) _ t e) c.write_flag.ensures
