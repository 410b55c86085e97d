use Rattle.std.proofs.Common.{◌≡◌, ℕ, ◌+◌, ◌≤◌, List, [], ◌∷◌, ◌++◌, drop, length, sym, ap, ◌∙◌, arith}
use Rattle.std.specs.List.{flat_map}
use Rattle.std.proofs.Math.ListN.{drop_of_length-le}
use Rattle.notation.specs.Notation.{array_head}
use Rattle.apcu_model.specs.declared.items.ItemRow.{ItemRow}
use Rattle.apcu_model.specs.declared.request.Reply.{Reply}
use Rattle.reply_text.specs.Replies.{members_text}
use Rattle.reply_text.specs.Items.{items_in, item_members}
use Rattle.reply_text.proofs.MemberCounts.{on_ok, array_ends}
use Rattle.reply_text.proofs.ItemTexts.{items_len, rest_from, step_goes}
use Rattle.reply_text.proofs.walks.write_walk.Goals as goal

pub loop-step-preserved : goal.loop-step-preserved
loop-step-preserved c =
    let rows_in = λ (steps : List Reply). flat_map items_in steps in
    let i : ℕ = c.loop-step.step-index in
    let steps : List Reply = c.args.steps.now in
    let rest : List Reply = drop (i + 1) steps in
    let n : ℕ = c.loop-step.reached.key in
    let base : ℕ = c.loop-step.reached.base in
    let rows : List ItemRow = c.items_of.result.now in
    let split : drop i steps ≡ c.step-item.result ∷ rest = rest_from steps i c.step-item.result c.loop-step-test.true c.step-item.is in
    let all : rows ++ rows_in rest ≡ rows_in (drop i steps) = ap (λ (l : List ItemRow). l ++ rows_in rest) c.items_of.ensures ∙ ap rows_in (sym split) in
    record {
      text = step_goes c.args.fields n base c.in_ok-reached.reached.key c.in_ok-reached.reached.base rows (rows_in rest) c.loop-step.out c.write_items.new.out
          c.in_ok-reached.ensures.text c.in_ok-reached.ensures.key c.in_ok-reached.ensures.base
          ∙ (ap (λ (l : List ItemRow). c.loop-step.out ++ members_text (item_members c.args.fields n base l)) all ∙ c.loop-step.invariant.text);
      fits = c.in_ok-reached.ensures.fits;
    }

pub returns : goal.returns
returns c =
    let rows_in = λ (steps : List Reply). flat_map items_in steps in
    let all : List ItemRow = rows_in c.args.steps.now in
    let rest : List Reply = drop c.loop-step.step-index c.args.steps.now in
    let past : length c.args.steps.now ≤ c.loop-step.step-index = omega (arith, c.loop-step-test.false) in
    let none : rest ≡ [] = drop_of_length-le c.args.steps.now past in
    let count : c.in_ok-count_items.field-0 ≡ length (item_members c.args.fields 0 1 all) = c.in_ok-count_items.ensures ∙ sym (items_len c.args.fields 0 1 all) in
    let text = λ (l : List Reply). members_text (item_members c.args.fields c.loop-step.reached.key c.loop-step.reached.base (rows_in l)) in
    on_ok c.push.result
    (array_ends c.args.out.now (array_head (length (item_members c.args.fields 0 1 all))) c.write_head.new.out c.loop-step.out c.push.new.self
    (members_text (item_members c.args.fields 0 1 all)) (text rest)
    (c.in_ok-write_head.ensures ∙ ap (λ (n : ℕ). c.args.out.now ++ array_head n) count)
    c.loop-step.invariant.text (ap text none))
    c.push.ensures.ok
