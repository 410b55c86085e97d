use Rattle.std.proofs.Common.{◌≡◌, ◌+◌, List, ◌++◌, subst}
use Rattle.std.specs.Prelude.{OnOk, IfOk}
use Rattle.reply_text.specs.Replies.{array_text, value_members}
use Rattle.reply_text.specs.Items.{NamedValue, numbers_of, chosen_from, told_of}
use Rattle.reply_text.proofs.walks.write_item.Goals as goal

pub returns-clause-text : goal.returns-clause-text
unfolding told_of
returns-clause-text c =
    let text : List NamedValue → Type 0 = λ all. OnOk c.write_chosen.result (c.write_chosen.new.out ≡ c.args.out.now ++ array_text (value_members (c.args.base + 1) (chosen_from 0 c.args.fields all))) in
    subst text c.fields_of.ensures c.write_chosen.ensures.text

pub returns-clause-next : goal.returns-clause-next
unfolding told_of
returns-clause-next c =
    let next : List NamedValue → Type 0 = λ all. IfOk c.write_chosen.result (λ n. n ≡ c.args.base + (1 + numbers_of (chosen_from 0 c.args.fields all))) in
    subst next c.fields_of.ensures c.write_chosen.ensures.next
