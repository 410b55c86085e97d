use Rattle.std.proofs.lemmas.Grind.{common_steps}
use Rattle.std.proofs.Common.{◌≡◌, ℕ, ◌≤◌, List, [], ◌++◌, map, drop, length, sym, ap, ◌∙◌, arith}
use Rattle.std.proofs.Math.ListN.{drop_of_length-le}
use Rattle.std.proofs.lemmas.List.{length-map}
use Rattle.notation.specs.Notation.{array_head}
use Rattle.reply_text.specs.Replies.{members_text, numbered}
use Rattle.reply_text.proofs.MemberCounts.{numbered_len, on_ok, array_ends}
use Rattle.reply_text.proofs.replies.write_numbered.Goals as goal

pub returns : goal.returns
returns c =
    let all : List (List ℕ) = map (λ string. string.now) c.args.strings.now in
    let rest : List (List ℕ) = map (λ string. string.now) (drop c.loop-i.i c.args.strings.now) in
    let past : length c.args.strings.now ≤ c.loop-i.i = omega (arith, c.loop-i-test.false) in
    let none : rest ≡ [] = ap (map (λ string. string.now)) (drop_of_length-le c.args.strings.now past) in
    let count : length c.args.strings.now ≡ length (numbered 0 all) = sym (numbered_len 0 all ∙ length-map c.args.strings.now (λ string. string.now)) in
    on_ok c.push.result
    (array_ends c.args.out.now (array_head (length (numbered 0 all))) c.write_head.new.out c.loop-i.out c.push.new.self (members_text (numbered 0 all)) (members_text (numbered c.loop-i.i rest))
    (c.in_ok-write_head.ensures ∙ ap (λ (n : ℕ). c.args.out.now ++ array_head n) count)
    c.loop-i.invariant (ap (λ (l : List (List ℕ)). members_text (numbered c.loop-i.i l)) none))
    c.push.ensures.ok

pub write_head-requires : goal.write_head-requires
write_head-requires c = grind (arith, common_steps)

pub returns-in_err-write_head : goal.returns-in_err-write_head
returns-in_err-write_head c = grind (arith, common_steps)

pub loop-i-init : goal.loop-i-init
loop-i-init c = grind (arith, common_steps)

pub offset_bounds-strings-i : goal.offset_bounds-strings-i
offset_bounds-strings-i c = grind (arith, common_steps)

pub bounds-strings-i : goal.bounds-strings-i
bounds-strings-i c = grind (arith, common_steps)

pub new-digits-requires : goal.new-digits-requires
new-digits-requires c = grind (arith, common_steps)

pub as_bytes-requires : goal.as_bytes-requires
as_bytes-requires c = grind (arith, common_steps)

pub write_key-requires : goal.write_key-requires
write_key-requires c = grind (arith, common_steps)

pub returns-in_err-write_key : goal.returns-in_err-write_key
returns-in_err-write_key c = grind (arith, common_steps)

pub as_slice-requires : goal.as_slice-requires
as_slice-requires c = grind (arith, common_steps)

pub write_string-requires : goal.write_string-requires
write_string-requires c = grind (arith, common_steps)

pub returns-in_err-write_string : goal.returns-in_err-write_string
returns-in_err-write_string c = grind (arith, common_steps)

pub loop-i-smaller : goal.loop-i-smaller
loop-i-smaller c = grind (arith, common_steps)

pub loop-i-preserved : goal.loop-i-preserved
loop-i-preserved c = grind (arith, common_steps)

pub push-requires : goal.push-requires
push-requires c = grind (arith, common_steps)
