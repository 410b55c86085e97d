use Rattle.std.proofs.Common.{◌≡◌, ℕ, ◌≤◌, List, [], ◌++◌, map, drop, length, sym, ap, ◌∙◌, arith}
use Rattle.std.proofs.Math.ListN.{drop_of_length-le}
use Rattle.std.proofs.lemmas.List.{length-map}
use Rattle.php_graph.specs.declared.kind.Kind.{Kind}
use Rattle.notation.specs.Notation.{array_head}
use Rattle.reply_text.specs.Replies.{members_text, value_members}
use Rattle.reply_text.proofs.MemberCounts.{members_len, on_ok, array_ends}
use Rattle.reply_text.proofs.replies.write_values.Goals as goal

pub returns : goal.returns
returns g c =
    let all : List (List ℕ × List Kind) = map (λ value. (value.0.now, g.V.Value.kinds_of value.1)) c.args.values.now in
    let rest : List (List ℕ × List Kind) = map (λ value. (value.0.now, g.V.Value.kinds_of value.1)) (drop c.loop-value.value-index c.args.values.now) in
    let past : length c.args.values.now ≤ c.loop-value.value-index = omega (arith, c.loop-value-test.false) in
    let none : rest ≡ [] = ap (map (λ value. (value.0.now, g.V.Value.kinds_of value.1))) (drop_of_length-le c.args.values.now past) in
    let count : length c.args.values.now ≡ length (value_members 1 all) = sym (members_len 1 all ∙ length-map c.args.values.now (λ value. (value.0.now, g.V.Value.kinds_of value.1))) in
    on_ok c.push.result
    (array_ends c.args.out.now (array_head (length (value_members 1 all))) c.write_head.new.out c.loop-value.out c.push.new.self (members_text (value_members 1 all))
    (members_text (value_members c.loop-value.base rest))
    (c.in_ok-write_head.ensures ∙ ap (λ (n : ℕ). c.args.out.now ++ array_head n) count)
    c.loop-value.invariant.text (ap (λ (l : List (List ℕ × List Kind)). members_text (value_members c.loop-value.base l)) none))
    c.push.ensures.ok
