use Rattle.std.proofs.Common.{◌≡◌, ℕ, ◌+◌, ◌≤◌, List, [], ◌∷◌, ◌++◌, drop, length, refl, sym, ap, ◌∙◌, arith}
use Rattle.std.specs.List.{sum_by}
use Rattle.std.specs.Fmt.{decimal}
use Rattle.std.proofs.Math.ListN.{drop_of_length-le}
use Rattle.std.proofs.lemmas.List.{append-nil}
use Rattle.std.proofs.lemmas.List.Sums.{sum_by-cons}
use Rattle.apcu_model.specs.declared.items.ItemRow.{ItemRow}
use Rattle.reply_text.specs.Replies.{members_text}
use Rattle.reply_text.specs.Items.{item_numbers, item_members}
use Rattle.reply_text.proofs.ItemTexts.{rest_from, item_goes}
use Rattle.reply_text.proofs.walks.write_items.Goals as goal

pub loop-row-init : goal.loop-row-init
loop-row-init c = record { text = refl; key = omega arith; base = refl; fits = c.requires }

pub loop-row-preserved : goal.loop-row-preserved
loop-row-preserved c =
    let i = c.loop-row.row-index in
    let rows : List ItemRow = c.args.rows.now in
    let row : ItemRow = c.row-item.result in
    let rest : List ItemRow = drop (i + 1) rows in
    let n : ℕ = c.loop-row.reached.key in
    let base : ℕ = c.loop-row.reached.base in
    let split : drop i rows ≡ row ∷ rest = rest_from rows i row c.loop-row-test.true c.row-item.is in
    let name : c.as_bytes.result.now ≡ decimal n = c.as_bytes.ensures.value ∙ c.format.ensures.text in
    let sum = sum_by-cons (item_numbers c.args.fields) row rest in
    let whole = ap (λ (l : List ItemRow). sum_by (item_numbers c.args.fields) l) split in
    record {
      text = item_goes c.args.fields n base c.in_ok-base.base row rest c.as_bytes.result.now c.loop-row.out c.write_key.new.out c.write_item.new.out
          name c.in_ok-write_key.ensures.ok c.in_ok-base.ensures.text c.in_ok-base.ensures.next
          ∙ (ap (λ (l : List ItemRow). c.loop-row.out ++ members_text (item_members c.args.fields n base l)) (sym split) ∙ c.loop-row.invariant.text);
      key = omega arith;
      base = omega (arith, c.in_ok-base.ensures.next, sum, whole);
      fits = omega (arith, c.in_ok-base.ensures.next);
    }

pub returns-clause-text : goal.returns-clause-text
returns-clause-text c =
    let past : length c.args.rows.now ≤ c.loop-row.row-index = omega (arith, c.loop-row-test.false) in
    let none : drop c.loop-row.row-index c.args.rows.now ≡ [] = drop_of_length-le c.args.rows.now past in
    let text = λ (l : List ItemRow). c.loop-row.out ++ members_text (item_members c.args.fields c.loop-row.reached.key c.loop-row.reached.base l) in
    sym (append-nil c.loop-row.out) ∙ (ap text (sym none) ∙ c.loop-row.invariant.text)

pub returns-clause-base : goal.returns-clause-base
returns-clause-base c =
    let past : length c.args.rows.now ≤ c.loop-row.row-index = omega (arith, c.loop-row-test.false) in
    let none : drop c.loop-row.row-index c.args.rows.now ≡ [] = drop_of_length-le c.args.rows.now past in
    let sum : sum_by (item_numbers c.args.fields) (drop c.loop-row.row-index c.args.rows.now) ≡ 0 = ap (λ (l : List ItemRow). sum_by (item_numbers c.args.fields) l) none in
    let all : c.loop-row.reached.base ≡ c.args.from.base + sum_by (item_numbers c.args.fields) c.args.rows.now = omega (arith, sum, c.loop-row.invariant.base) in
    all
