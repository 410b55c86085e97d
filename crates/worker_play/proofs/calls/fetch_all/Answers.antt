use Rattle.std.proofs.Common.{ℕ, ◌≤◌, ◌+◌, ◌++◌, List, [], ◌∷◌, length, map, drop, ap, ◌∙◌, subst, append_assoc, arith}
use Rattle.std.specs.Prelude.{codes}
use Rattle.std.proofs.Math.ListN.{drop_of_length-le}
use Rattle.php_graph.specs.declared.kind.Kind.{Kind}
use Rattle.apcu_model.specs.declared.request.Request.TheVariants.{Fetch}
use Rattle.reply_text.specs.Replies.{all_noted, value_in, array_text, value_members}
use Rattle.worker_play.specs.Turns.{asks_at}
use Rattle.worker_play.proofs.PassProgress.{Midway, on_ok, of_ok}
use Rattle.worker_play.proofs.SeveralKeys.{noted_begins, noted_goes_on, noted_ends, printed, drop_item, two_left, rest_left, reached_one}
use Rattle.std.proofs.lemmas.Grind.{common_steps}
use Rattle.reply_text.proofs.MemberCounts.{all_noted_len}
use Rattle.worker_play.proofs.calls.fetch_all.Goals as goal

pub loop-key-init : goal.loop-key-init
loop-key-init g c = record {
  table = c.requires.table;
  whole = c.requires.whole;
  left = c.requires.left;
  midway = noted_begins _ _ _ _ _ _ _ c.new-values.ensures c.requires.whole;
}

pub fetch-next-requires-clause-pass : goal.fetch-next-requires-clause-pass
fetch-next-requires-clause-pass g c =
    let keys : List (List ℕ) = c.args.keys.now in
    record {
      table = c.loop-key.invariant.table;
      left = two_left (drop c.loop-key.key-index keys) c.key-item.result (drop (c.loop-key.key-index + 1) keys) _ (drop_item keys c.loop-key.key-index c.key-item.result c.loop-key-test.true c.key-item.is) c.loop-key.invariant.left;
    }

pub returns-in-Err-clause-reaches : goal.returns-in-Err-clause-reaches
returns-in-Err-clause-reaches g c =
    let keys : List (List ℕ) = c.args.keys.now in
    let split = drop_item keys c.loop-key.key-index c.key-item.result c.loop-key-test.true c.key-item.is in
    let m = subst (λ (l : List (List ℕ)). Midway g.N.TableName.conf (length g.N.TableName.budgets) c.args.pass c.loop-key.held (asks_at c.args.when.t (map Fetch keys)) (asks_at c.args.when.t (map Fetch l)) (all_noted value_in [] keys) (all_noted value_in c.loop-key.values l)) split c.loop-key.invariant.midway in
    reached_one _ _ _ _ _ _ _ _ _ _ (all_noted value_in [] keys) (all_noted value_in c.loop-key.values (c.key-item.result ∷ drop (c.loop-key.key-index + 1) keys)) m c.fetch-next.ensures.1

pub loop-key-preserved : goal.loop-key-preserved
loop-key-preserved g c =
    let keys : List (List ℕ) = c.args.keys.now in
    let split = drop_item keys c.loop-key.key-index c.key-item.result c.loop-key-test.true c.key-item.is in
    let m = subst (λ (l : List (List ℕ)). Midway g.N.TableName.conf (length g.N.TableName.budgets) c.args.pass c.loop-key.held (asks_at c.args.when.t (map Fetch keys)) (asks_at c.args.when.t (map Fetch l)) (all_noted value_in [] keys) (all_noted value_in c.loop-key.values l)) split c.loop-key.invariant.midway in
    record {
      table = c.fetch-next.ensures.1.table ∙ c.loop-key.invariant.table;
      whole = c.fetch-next.ensures.1.all_own;
      left = rest_left (drop c.loop-key.key-index keys) c.key-item.result (drop (c.loop-key.key-index + 1) keys) _ _ split c.loop-key.invariant.left c.fetch-next.ensures.1.left;
      midway = noted_goes_on _ _ _ _ _ _ _ _ _ _ value_in (all_noted value_in [] keys) c.loop-key.values _ c.key-item.result (drop (c.loop-key.key-index + 1) keys) m c.fetch-next.ensures.1 (of_ok c.note_value.result _ c.in_default.is (c.note_value.ensures c.fetch-next.ensures.0 c.fetch-next.ensures.2));
    }

pub returns-clause-reaches : goal.returns-clause-reaches
returns-clause-reaches g c = c.loop-key.invariant.midway.0

pub returns-clause-line : goal.returns-clause-line
returns-clause-line g c =
    let keys : List (List ℕ) = c.args.keys.now in
    let past : length keys ≤ c.loop-key.key-index = omega (arith, c.loop-key-test.false) in
    let m = subst (λ (l : List (List ℕ)). Midway g.N.TableName.conf (length g.N.TableName.budgets) c.args.pass c.loop-key.held (asks_at c.args.when.t (map Fetch keys)) (asks_at c.args.when.t (map Fetch l)) (all_noted value_in [] keys) (all_noted value_in c.loop-key.values l)) (drop_of_length-le keys past) c.loop-key.invariant.midway in
    let t = noted_ends _ _ _ _ _ c.args.when.t value_in (all_noted value_in [] keys) c.loop-key.values m in
    let text = λ (notes : List (List ℕ × List Kind)). c.args.out.now ++ (array_text (value_members 1 notes) ++ codes "b:1;") in
    on_ok c.write_found.result (λ e. printed _ _ _ _ _ _ _ text _ t (e ∙ append_assoc c.args.out.now (array_text (value_members 1 c.loop-key.values)) (codes "b:1;"))) c.write_found.ensures

pub write_found-requires : goal.write_found-requires
write_found-requires g c =
    let keys : List (List ℕ) = c.args.keys.now in
    let past : length keys ≤ c.loop-key.key-index = omega (arith, c.loop-key-test.false) in
    let m = subst (λ (l : List (List ℕ)). Midway g.N.TableName.conf (length g.N.TableName.budgets) c.args.pass c.loop-key.held (asks_at c.args.when.t (map Fetch keys)) (asks_at c.args.when.t (map Fetch l)) (all_noted value_in [] keys) (all_noted value_in c.loop-key.values l)) (drop_of_length-le keys past) c.loop-key.invariant.midway in
    let t = noted_ends _ _ _ _ _ c.args.when.t value_in (all_noted value_in [] keys) c.loop-key.values m in
    let few = all_noted_len value_in [] keys t.asked.replies in
    let same = ap length t.is in
    grind (arith, common_steps, few, same, c.requires.few)
