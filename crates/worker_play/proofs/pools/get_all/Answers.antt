use Rattle.std.proofs.Common.{◌≡◌, ℕ, ◌≤◌, ◌+◌, ◌++◌, List, [], ◌∷◌, length, map, drop, ap, ap₂, ◌∙◌, subst, arith}
use Rattle.std.proofs.Math.ListN.{drop_of_length-le}
use Rattle.php_graph.specs.declared.kind.Kind.{Kind}
use Rattle.apcu_model.specs.declared.request.Request.TheVariants.{Fetch}
use Rattle.simple_pool.specs.Names.{is_good_key, is_good_name, pool_key}
use Rattle.reply_text.specs.PoolReplies.{got_in}
use Rattle.reply_text.specs.Replies.{all_noted, array_text, value_members}
use Rattle.reply_text.proofs.MemberCounts.{all_noted_len}
use Rattle.worker_play.specs.Pools.{answers_noted}
use Rattle.worker_play.specs.Turns.{asks_at}
use Rattle.worker_play.specs.declared.answers.Answer.{Answer}
use Rattle.worker_play.proofs.PassProgress.{Midway, on_ok, of_ok}
use Rattle.worker_play.proofs.SeveralKeys.{noted_begins, noted_goes_on, noted_ends, printed, drop_item, two_left, rest_left, reached_one}
use Rattle.worker_play.proofs.PoolKeys.{asked_as, first_good, answers_read, answers_len, read_len}
use Rattle.worker_play.proofs.pools.get_all.Goals as goal

pub loop-key-init : goal.loop-key-init
loop-key-init g c = record {
  table = c.requires.table;
  whole = c.requires.whole;
  left = c.requires.left;
  good = c.requires.good;
  midway = noted_begins _ _ _ _ (got_in c.args.default.now) _ _ (ap answers_noted c.new-answers.ensures) c.requires.whole;
}

pub pool_key-requires-clause-name : goal.pool_key-requires-clause-name
pool_key-requires-clause-name g c = ap is_good_name c.as_slice.ensures.bytes ∙ c.requires.named

pub pool_key-requires-clause-key : goal.pool_key-requires-clause-key
pool_key-requires-clause-key g c =
    let keys : List (List ℕ) = c.args.keys.now in
    let split = drop_item keys c.loop-key.key-index c.key-item.result c.loop-key-test.true c.key-item.is in
    ap is_good_key c.as_slice-in-loop-key.ensures.bytes ∙ (first_good is_good_key _ _ _ split c.loop-key.invariant.good).0

pub returns-in-Err-clause-reaches : goal.returns-in-Err-clause-reaches
returns-in-Err-clause-reaches g c = c.loop-key.invariant.midway.0

pub fetch-next-requires-clause-pass : goal.fetch-next-requires-clause-pass
fetch-next-requires-clause-pass g c =
    let keys : List (List ℕ) = c.args.keys.now in
    record {
      table = c.loop-key.invariant.table;
      left = two_left (drop c.loop-key.key-index keys) c.key-item.result (drop (c.loop-key.key-index + 1) keys) _ (drop_item keys c.loop-key.key-index c.key-item.result c.loop-key-test.true c.key-item.is) c.loop-key.invariant.left;
    }

pub returns-in-Err-note_answer-clause-reaches : goal.returns-in-Err-note_answer-clause-reaches
returns-in-Err-note_answer-clause-reaches g c =
    let keys : List (List ℕ) = c.args.keys.now in
    let rest : List (List ℕ) = drop (c.loop-key.key-index + 1) keys in
    let own : List ℕ → List ℕ = pool_key c.args.pool.now in
    let told = all_noted (got_in c.args.default.now) in
    let split = drop_item keys c.loop-key.key-index c.key-item.result c.loop-key-test.true c.key-item.is in
    let m = subst (λ (l : List (List ℕ)). Midway g.N.TableName.conf (length g.N.TableName.budgets) c.args.pass c.loop-key.held (asks_at c.args.when.t (map (λ key. Fetch (own key)) keys)) (asks_at c.args.when.t (map (λ key. Fetch (own key)) l)) (told [] keys) (told (answers_noted c.loop-key.answers) l)) split c.loop-key.invariant.midway in
    let made : c.in-Ok.own ≡ own c.key-item.result = c.in-Ok.ensures ∙ ap₂ pool_key c.as_slice.ensures.bytes c.as_slice-in-loop-key.ensures.bytes in
    reached_one _ _ _ _ _ _ _ _ _ _ (told [] keys) (told (answers_noted c.loop-key.answers) (c.key-item.result ∷ rest)) m (asked_as _ _ _ _ _ _ _ _ (ap Fetch made) c.fetch-next.ensures.1)

pub loop-key-preserved : goal.loop-key-preserved
loop-key-preserved g c =
    let keys : List (List ℕ) = c.args.keys.now in
    let rest : List (List ℕ) = drop (c.loop-key.key-index + 1) keys in
    let own : List ℕ → List ℕ = pool_key c.args.pool.now in
    let told = all_noted (got_in c.args.default.now) in
    let split = drop_item keys c.loop-key.key-index c.key-item.result c.loop-key-test.true c.key-item.is in
    let m = subst (λ (l : List (List ℕ)). Midway g.N.TableName.conf (length g.N.TableName.budgets) c.args.pass c.loop-key.held (asks_at c.args.when.t (map (λ key. Fetch (own key)) keys)) (asks_at c.args.when.t (map (λ key. Fetch (own key)) l)) (told [] keys) (told (answers_noted c.loop-key.answers) l)) split c.loop-key.invariant.midway in
    let made : c.in-Ok.own ≡ own c.key-item.result = c.in-Ok.ensures ∙ ap₂ pool_key c.as_slice.ensures.bytes c.as_slice-in-loop-key.ensures.bytes in
    let asked = asked_as _ _ _ _ _ _ _ _ (ap Fetch made) c.fetch-next.ensures.1 in
    record {
      table = asked.table ∙ c.loop-key.invariant.table;
      whole = asked.all_own;
      left = rest_left (drop c.loop-key.key-index keys) c.key-item.result rest _ _ split c.loop-key.invariant.left asked.left;
      good = (first_good is_good_key _ _ _ split c.loop-key.invariant.good).1;
      midway = noted_goes_on _ _ _ _ _ _ _ _ _ _ (got_in c.args.default.now) (told [] keys) (answers_noted c.loop-key.answers) _ c.key-item.result rest m asked (of_ok c.note_answer.result _ c.in_default.is (c.note_answer.ensures c.fetch-next.ensures.0 c.fetch-next.ensures.2));
    }

pub returns-clause-reaches : goal.returns-clause-reaches
returns-clause-reaches g c = c.loop-key.invariant.midway.0

pub write_values-requires : goal.write_values-requires
write_values-requires g c =
    let keys : List (List ℕ) = c.args.keys.now in
    let own : List ℕ → List ℕ = pool_key c.args.pool.now in
    let told = all_noted (got_in c.args.default.now) in
    let past : length keys ≤ c.loop-key.key-index = omega (arith, c.loop-key-test.false) in
    let m = subst (λ (l : List (List ℕ)). Midway g.N.TableName.conf (length g.N.TableName.budgets) c.args.pass c.loop-key.held (asks_at c.args.when.t (map (λ key. Fetch (own key)) keys)) (asks_at c.args.when.t (map (λ key. Fetch (own key)) l)) (told [] keys) (told (answers_noted c.loop-key.answers) l)) (drop_of_length-le keys past) c.loop-key.invariant.midway in
    let t = noted_ends _ _ _ _ _ c.args.when.t (got_in c.args.default.now) (told [] keys) (answers_noted c.loop-key.answers) m in
    let few = all_noted_len (got_in c.args.default.now) [] keys t.asked.replies in
    let same = ap (length {A = List ℕ × List Kind}) t.is in
    let shown = ap (length {A = List ℕ × Answer}) c.as_slice-2.ensures in
    omega (arith, few, same, shown, answers_len c.loop-key.answers, read_len c.as_slice-2.result.now, c.requires.few)

pub returns-clause-line : goal.returns-clause-line
returns-clause-line g c =
    let keys : List (List ℕ) = c.args.keys.now in
    let own : List ℕ → List ℕ = pool_key c.args.pool.now in
    let told = all_noted (got_in c.args.default.now) in
    let past : length keys ≤ c.loop-key.key-index = omega (arith, c.loop-key-test.false) in
    let m = subst (λ (l : List (List ℕ)). Midway g.N.TableName.conf (length g.N.TableName.budgets) c.args.pass c.loop-key.held (asks_at c.args.when.t (map (λ key. Fetch (own key)) keys)) (asks_at c.args.when.t (map (λ key. Fetch (own key)) l)) (told [] keys) (told (answers_noted c.loop-key.answers) l)) (drop_of_length-le keys past) c.loop-key.invariant.midway in
    let t = noted_ends _ _ _ _ _ c.args.when.t (got_in c.args.default.now) (told [] keys) (answers_noted c.loop-key.answers) m in
    let text = λ (notes : List (List ℕ × List Kind)). c.args.out.now ++ array_text (value_members 1 notes) in
    let read = answers_read c.as_slice-2.result.now ∙ ap answers_noted c.as_slice-2.ensures in
    on_ok c.write_values.result (λ e. printed _ _ _ _ _ _ _ text _ t (e ∙ ap text read)) c.write_values.ensures
