use Rattle.std.proofs.Common.{ℕ, ◌≤◌, ◌+◌, ◌++◌, List, [], ◌∷◌, length, map, drop, ap, ◌∙◌, subst, arith}
use Rattle.std.specs.Prelude.{codes}
use Rattle.std.proofs.Math.ListN.{drop_of_length-le}
use Rattle.apcu_model.specs.declared.request.Request.TheVariants.{Exists}
use Rattle.reply_text.specs.Replies.{all_noted, there_in, array_text, all_with}
use Rattle.worker_play.specs.Turns.{asks_at}
use Rattle.worker_play.proofs.PassProgress.{Midway, on_ok}
use Rattle.worker_play.proofs.SeveralKeys.{noted_begins, noted_goes_on, noted_ends, printed, drop_item, two_left, rest_left, reached_one}
use Rattle.worker_play.proofs.calls.look_for_all.Goals as goal

pub loop-key-init : goal.loop-key-init
loop-key-init g c = record {
  table = c.requires.table;
  whole = c.requires.whole;
  left = c.requires.left;
  midway = noted_begins _ _ _ _ _ _ _ c.new-there.ensures c.requires.whole;
}

pub exists-next-requires-clause-pass : goal.exists-next-requires-clause-pass
exists-next-requires-clause-pass g c =
    let keys : List (List ℕ) = c.args.keys.now in
    record {
      table = c.loop-key.invariant.table;
      left = two_left (drop c.loop-key.key-index keys) c.key-item.result (drop (c.loop-key.key-index + 1) keys) _ (drop_item keys c.loop-key.key-index c.key-item.result c.loop-key-test.true c.key-item.is) c.loop-key.invariant.left;
    }

pub returns-in-Err-clause-reaches : goal.returns-in-Err-clause-reaches
returns-in-Err-clause-reaches g c =
    let keys : List (List ℕ) = c.args.keys.now in
    let split = drop_item keys c.loop-key.key-index c.key-item.result c.loop-key-test.true c.key-item.is in
    let m = subst (λ (l : List (List ℕ)). Midway g.N.TableName.conf (length g.N.TableName.budgets) c.args.pass c.loop-key.held (asks_at c.args.t (map Exists keys)) (asks_at c.args.t (map Exists l)) (all_noted there_in [] keys) (all_noted there_in c.loop-key.there l)) split c.loop-key.invariant.midway in
    reached_one _ _ _ _ _ _ _ _ _ _ (all_noted there_in [] keys) (all_noted there_in c.loop-key.there (c.key-item.result ∷ drop (c.loop-key.key-index + 1) keys)) m c.exists-next.ensures

pub loop-key-preserved : goal.loop-key-preserved
loop-key-preserved g c =
    let keys : List (List ℕ) = c.args.keys.now in
    let split = drop_item keys c.loop-key.key-index c.key-item.result c.loop-key-test.true c.key-item.is in
    let m = subst (λ (l : List (List ℕ)). Midway g.N.TableName.conf (length g.N.TableName.budgets) c.args.pass c.loop-key.held (asks_at c.args.t (map Exists keys)) (asks_at c.args.t (map Exists l)) (all_noted there_in [] keys) (all_noted there_in c.loop-key.there l)) split c.loop-key.invariant.midway in
    record {
      table = c.exists-next.ensures.table ∙ c.loop-key.invariant.table;
      whole = c.exists-next.ensures.all_own;
      left = rest_left (drop c.loop-key.key-index keys) c.key-item.result (drop (c.loop-key.key-index + 1) keys) _ _ split c.loop-key.invariant.left c.exists-next.ensures.left;
      midway = noted_goes_on _ _ _ _ _ _ _ _ _ _ there_in (all_noted there_in [] keys) c.loop-key.there _ c.key-item.result (drop (c.loop-key.key-index + 1) keys) m c.exists-next.ensures c.in_default.ensures;
    }

pub returns-clause-reaches : goal.returns-clause-reaches
returns-clause-reaches g c = c.loop-key.invariant.midway.0

pub returns-clause-line : goal.returns-clause-line
returns-clause-line g c =
    let keys : List (List ℕ) = c.args.keys.now in
    let past : length keys ≤ c.loop-key.key-index = omega (arith, c.loop-key-test.false) in
    let m = subst (λ (l : List (List ℕ)). Midway g.N.TableName.conf (length g.N.TableName.budgets) c.args.pass c.loop-key.held (asks_at c.args.t (map Exists keys)) (asks_at c.args.t (map Exists l)) (all_noted there_in [] keys) (all_noted there_in c.loop-key.there l)) (drop_of_length-le keys past) c.loop-key.invariant.midway in
    let t = noted_ends _ _ _ _ _ c.args.t there_in (all_noted there_in [] keys) c.loop-key.there m in
    let text = λ (notes : List (List ℕ × Unit {0})). c.args.out.now ++ array_text (all_with (codes "b:1;") (map (λ note. note.0) notes)) in
    on_ok c.write_flags.result (λ e. printed _ _ _ _ _ _ _ text _ t (e ∙ ap text c.as_slice.ensures)) c.write_flags.ensures
