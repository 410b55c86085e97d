use Rattle.std.proofs.Common.{◌≡◌, ◌<◌, ◌≤◌, Bool, true, false, cond, List, length, map, refl, ap, ◌∙◌, arith}
use mir.Val.{bool_byte}
use Rattle.std.specs.Prelude.{◌==◌}
use Rattle.std.specs.Int.{bit_at}
use Rattle.std.proofs.lemmas.List.{length-map}
use Rattle.reply_text.specs.Items.{NamedValue}
use Rattle.reply_text.specs.Fields.{field_value}
use Rattle.reply_text.proofs.ItemTexts.{field_count}
use Rattle.reply_text.proofs.fields.chosen_count.Goals as goal

as_number : (b : Bool) → bool_byte b ≡ cond b 1 0
as_number true = refl
as_number false = refl

at_most_one : (b : Bool) → cond b 1 0 ≤ 1
at_most_one true = omega arith
at_most_one false = omega arith

pub loop-bit-preserved : goal.loop-bit-preserved
loop-bit-preserved c =
    let all : List NamedValue = map field_value c.args.all.now in
    let set : Bool = bit_at c.args.fields.0 c.loop-bit.bit == 1 in
    let within : c.loop-bit.bit < length all = omega (arith, length-map c.args.all.now field_value) in
    let step = field_count c.args.fields all c.loop-bit.bit within in
    let one : c.from-count.result ≡ cond set 1 0 = c.from-count.ensures ∙ (ap bool_byte c.is_chosen.ensures ∙ as_number set) in
    let few : cond set 1 0 ≤ 1 = at_most_one set in
    record { count = omega (arith, step, one); low = omega (arith, one, few) }
