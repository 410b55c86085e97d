use Rattle.std.proofs.Common.{◌≡◌, ℕ, ◌≤◌, ◌+◌, ◌++◌, true, List, [], length, map, drop, refl, ap, ap₂, ◌∙◌, subst, arith}
use Rattle.std.proofs.Math.ListN.{drop_of_length-le}
use Rattle.apcu_model.specs.declared.request.Reply.{Reply}
use Rattle.apcu_model.specs.declared.request.Request.TheVariants.{Delete}
use Rattle.simple_pool.specs.Names.{is_good_key, is_good_name, pool_key}
use Rattle.reply_text.specs.Replies.{flag_text}
use Rattle.worker_play.specs.Turns.{asks_at}
use Rattle.worker_play.proofs.PassProgress.{Midway, begins, ends, on_ok}
use Rattle.worker_play.proofs.SeveralKeys.{key_goes_on, printed, drop_item, two_left, rest_left}
use Rattle.worker_play.proofs.PoolKeys.{asked_as, first_good}
use Rattle.worker_play.proofs.pools.drop_all.Goals as goal

pub loop-key-init : goal.loop-key-init
loop-key-init g c = record {
  table = c.requires.table;
  whole = c.requires.whole;
  left = c.requires.left;
  good = c.requires.good;
  midway = begins _ _ _ _ (λ replies. c.args.out.now ++ flag_text true) c.requires.whole;
}

pub pool_key-requires-clause-name : goal.pool_key-requires-clause-name
pool_key-requires-clause-name g c = ap is_good_name c.as_slice.ensures.bytes ∙ c.requires.named

pub pool_key-requires-clause-key : goal.pool_key-requires-clause-key
pool_key-requires-clause-key g c =
    let keys : List (List ℕ) = c.args.keys.now in
    let split = drop_item keys c.loop-key.key-index c.key-item.result c.loop-key-test.true c.key-item.is in
    ap is_good_key c.as_slice-in-loop-key.ensures.bytes ∙ (first_good is_good_key _ _ _ split c.loop-key.invariant.good).0

pub returns-in-Err-clause-reaches : goal.returns-in-Err-clause-reaches
returns-in-Err-clause-reaches g c = c.loop-key.invariant.midway.0

pub delete-next-requires-clause-pass : goal.delete-next-requires-clause-pass
delete-next-requires-clause-pass g c =
    let keys : List (List ℕ) = c.args.keys.now in
    record {
      table = c.loop-key.invariant.table;
      left = two_left (drop c.loop-key.key-index keys) c.key-item.result (drop (c.loop-key.key-index + 1) keys) _ (drop_item keys c.loop-key.key-index c.key-item.result c.loop-key-test.true c.key-item.is) c.loop-key.invariant.left;
    }

pub loop-key-preserved : goal.loop-key-preserved
loop-key-preserved g c =
    let keys : List (List ℕ) = c.args.keys.now in
    let rest : List (List ℕ) = drop (c.loop-key.key-index + 1) keys in
    let own : List ℕ → List ℕ = pool_key c.args.pool.now in
    let told = λ (replies : List Reply). c.args.out.now ++ flag_text true in
    let split = drop_item keys c.loop-key.key-index c.key-item.result c.loop-key-test.true c.key-item.is in
    let m = subst (λ (l : List (List ℕ)). Midway g.N.TableName.conf (length g.N.TableName.budgets) c.args.pass c.loop-key.held (asks_at c.args.t (map (λ key. Delete (own key)) keys)) (asks_at c.args.t (map (λ key. Delete (own key)) l)) told told) split c.loop-key.invariant.midway in
    let made : c.in-Ok.own ≡ own c.key-item.result = c.in-Ok.ensures ∙ ap₂ pool_key c.as_slice.ensures.bytes c.as_slice-in-loop-key.ensures.bytes in
    let asked = asked_as _ _ _ _ _ _ _ _ (ap Delete made) c.delete-next.ensures in
    record {
      table = asked.table ∙ c.loop-key.invariant.table;
      whole = asked.all_own;
      left = rest_left (drop c.loop-key.key-index keys) c.key-item.result rest _ _ split c.loop-key.invariant.left asked.left;
      good = (first_good is_good_key _ _ _ split c.loop-key.invariant.good).1;
      midway = key_goes_on _ _ _ _ _ _ _ _ _ _ told told told m asked (λ later. refl);
    }

pub returns-clause-reaches : goal.returns-clause-reaches
returns-clause-reaches g c = c.loop-key.invariant.midway.0

pub returns-clause-line : goal.returns-clause-line
returns-clause-line g c =
    let keys : List (List ℕ) = c.args.keys.now in
    let own : List ℕ → List ℕ = pool_key c.args.pool.now in
    let told = λ (replies : List Reply). c.args.out.now ++ flag_text true in
    let past : length keys ≤ c.loop-key.key-index = omega (arith, c.loop-key-test.false) in
    let m = subst (λ (l : List (List ℕ)). Midway g.N.TableName.conf (length g.N.TableName.budgets) c.args.pass c.loop-key.held (asks_at c.args.t (map (λ key. Delete (own key)) keys)) (asks_at c.args.t (map (λ key. Delete (own key)) l)) told told) (drop_of_length-le keys past) c.loop-key.invariant.midway in
    let t = ends _ _ _ _ _ (asks_at c.args.t []) told told m refl in
    on_ok c.write_flag.result (λ e. printed _ _ _ _ _ _ _ (λ (l : List ℕ). l) _ t e) c.write_flag.ensures
