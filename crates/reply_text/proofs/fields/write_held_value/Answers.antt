use Rattle.std.proofs.Common.{◌≡◌, ℕ, List, ◌++◌, sym, ap, ◌∙◌, subst}
use Rattle.std.specs.Prelude.{OnOk}
use Rattle.reply_text.specs.Fields.{held_value}
use Rattle.notation.specs.Notation.{text_from}
use Rattle.reply_text.specs.declared.fields.Held.{Held}
use Rattle.reply_text.proofs.ItemTexts.{number_place, string_place, null_place}
use Rattle.reply_text.proofs.fields.write_held_value.Goals as goal

pub returns-in-Text : goal.returns-in-Text
returns-in-Text c =
    subst (λ (t : List ℕ). OnOk c.write_string.result (c.write_string.new.out ≡ c.args.out.now ++ t))
    (sym (string_place c.args.base c.in-Text.bytes.now) ∙ ap (λ (held : Held). text_from c.args.base (held_value held)) (sym c.in-Text.is))
    c.write_string.ensures

pub returns-in-Number : goal.returns-in-Number
returns-in-Number c =
    subst (λ (t : List ℕ). OnOk c.write_count.result (c.write_count.new.out ≡ c.args.out.now ++ t))
    (sym (number_place c.args.base c.in-Number.n) ∙ ap (λ (held : Held). text_from c.args.base (held_value held)) (sym c.in-Number.is))
    c.write_count.ensures

pub returns-in-Value : goal.returns-in-Value
returns-in-Value c =
    subst (λ (t : List ℕ). OnOk c.write_value.result (c.write_value.new.out ≡ c.args.out.now ++ t))
    (ap (λ (held : Held). text_from c.args.base (held_value held)) (sym c.in-Value.is))
    c.write_value.ensures.ok

pub returns-in-Null : goal.returns-in-Null
returns-in-Null c =
    subst (λ (t : List ℕ). OnOk c.push.result (c.push.new.self ≡ c.args.out.now ++ t))
    (sym (null_place c.args.base) ∙ ap (λ (held : Held). text_from c.args.base (held_value held)) (sym c.in-Null.is))
    c.push.ensures.ok
