use Rattle.std.proofs.lemmas.Grind.{common_steps}
use Rattle.std.proofs.Common.{◌≡◌, ℕ, ◌+◌, ◌≤◌, List, [], ◌++◌, map, drop, length, sym, ap, ◌∙◌, arith}
use Rattle.std.proofs.Math.ListN.{drop_of_length-le}
use Rattle.notation.specs.Notation.{array_head}
use Rattle.reply_text.specs.Replies.{members_text, value_members}
use Rattle.reply_text.specs.Items.{NamedValue, chosen_from}
use Rattle.reply_text.specs.Fields.{field_value}
use Rattle.reply_text.proofs.MemberCounts.{members_len, array_ends}
use Rattle.reply_text.proofs.fields.write_chosen.Goals as goal

pub returns-clause-text : goal.returns-clause-text
returns-clause-text c =
    let all : List NamedValue = chosen_from 0 c.args.fields (map field_value c.args.all.now) in
    let rest : List NamedValue = chosen_from c.loop-bit.bit c.args.fields (map field_value (drop c.loop-bit.bit c.args.all.now)) in
    let past : length c.args.all.now ≤ c.loop-bit.bit = omega (arith, c.loop-bit-test.false) in
    let none : rest ≡ [] = ap (λ l. chosen_from c.loop-bit.bit c.args.fields (map field_value l)) (drop_of_length-le c.args.all.now past) in
    let count : c.chosen_count.result ≡ length (value_members (c.args.base + 1) all) = c.chosen_count.ensures ∙ sym (members_len (c.args.base + 1) all) in
    array_ends c.args.out.now (array_head (length (value_members (c.args.base + 1) all))) c.write_head.new.out c.loop-bit.out c.push.new.self
    (members_text (value_members (c.args.base + 1) all)) (members_text (value_members c.loop-bit.next rest))
    (c.in_ok-write_head.ensures ∙ ap (λ (n : ℕ). c.args.out.now ++ array_head n) count)
    c.loop-bit.invariant.text (ap (λ (l : List NamedValue). members_text (value_members c.loop-bit.next l)) none)
    c.in_ok-push.ensures.ok

pub chosen_count-requires : goal.chosen_count-requires
chosen_count-requires c = grind (arith, common_steps)

pub write_head-requires : goal.write_head-requires
write_head-requires c = grind (arith, common_steps)

pub returns-in_err-write_head-clause-text : goal.returns-in_err-write_head-clause-text
returns-in_err-write_head-clause-text c = grind (arith, common_steps)

pub returns-in_err-write_head-clause-next : goal.returns-in_err-write_head-clause-next
returns-in_err-write_head-clause-next c = grind (arith, common_steps)

pub overflow_add-next : goal.overflow_add-next
overflow_add-next c = grind (arith, common_steps)

pub loop-bit-init : goal.loop-bit-init
loop-bit-init c = grind (arith, common_steps)

pub offset_bounds-all-bit : goal.offset_bounds-all-bit
offset_bounds-all-bit c = grind (arith, common_steps)

pub bounds-all-bit : goal.bounds-all-bit
bounds-all-bit c = grind (arith, common_steps)

pub write_field-requires-clause-bit : goal.write_field-requires-clause-bit
write_field-requires-clause-bit c = grind (arith, common_steps)

pub write_field-requires-clause-base : goal.write_field-requires-clause-base
write_field-requires-clause-base c = grind (arith, common_steps)

pub returns-in_err-next-clause-text : goal.returns-in_err-next-clause-text
returns-in_err-next-clause-text c = grind (arith, common_steps)

pub returns-in_err-next-clause-next : goal.returns-in_err-next-clause-next
returns-in_err-next-clause-next c = grind (arith, common_steps)

pub loop-bit-smaller : goal.loop-bit-smaller
loop-bit-smaller c = grind (arith, common_steps)

pub loop-bit-preserved : goal.loop-bit-preserved
loop-bit-preserved c = grind (arith, common_steps)

pub push-requires : goal.push-requires
push-requires c = grind (arith, common_steps)

pub returns-in_err-push-clause-text : goal.returns-in_err-push-clause-text
returns-in_err-push-clause-text c = grind (arith, common_steps)

pub returns-in_err-push-clause-next : goal.returns-in_err-push-clause-next
returns-in_err-push-clause-next c = grind (arith, common_steps)

pub returns-clause-next : goal.returns-clause-next
returns-clause-next c = grind (arith, common_steps)
