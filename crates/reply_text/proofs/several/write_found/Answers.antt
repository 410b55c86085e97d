use Rattle.std.proofs.Common.{ℕ, List, [], ◌++◌, length, ap, ◌∙◌, append_assoc, arith}
use Rattle.std.specs.Prelude.{codes}
use Rattle.std.specs.Borrow.{Bor}
use Rattle.php_graph.specs.declared.kind.Kind.{Kind}
use Rattle.reply_text.specs.Replies.{all_noted, value_in, array_text, value_members}
use Rattle.reply_text.specs.Notes.{lent_notes}
use Rattle.reply_text.proofs.MemberCounts.{all_noted_len, on_ok}
use Rattle.reply_text.proofs.SeveralKeys.{lent_len, told_len, both_read}
use Rattle.reply_text.proofs.several.write_found.Goals as goal

pub write_values-requires : goal.write_values-requires
write_values-requires c =
    let few = all_noted_len value_in [] c.args.keys.now c.args.replies.now in
    let shown = ap (length {A = List ℕ × List Kind}) c.in_ok-notes.ensures in
    let told = ap (length {A = List ℕ × Bor (List Kind)}) c.as_slice.ensures in
    omega (arith, few, shown, told, lent_len c.in_ok-notes.notes, told_len c.as_slice.result.now, c.requires.few)

pub returns : goal.returns
returns c =
    let notes : List (List ℕ × List Kind) = all_noted value_in [] c.args.keys.now c.args.replies.now in
    let same = both_read c.as_slice.result.now ∙ (ap lent_notes c.as_slice.ensures ∙ c.in_ok-notes.ensures) in
    let text = λ (ns : List (List ℕ × List Kind)). c.args.out.now ++ array_text (value_members 1 ns) in
    on_ok c.write_flag.result
    (λ e. e ∙ (ap (λ (l : List ℕ). l ++ codes "b:1;") (c.in_ok-write_values.ensures ∙ ap text same) ∙ append_assoc c.args.out.now (array_text (value_members 1 notes)) (codes "b:1;")))
    c.write_flag.ensures
