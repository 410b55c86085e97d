use Rattle.std.proofs.Common.{List, ℕ, ◌≡◌, ◌++◌, sym, subst, ap, ◌∙◌}
use Rattle.std.specs.Prelude.{OnOk}
use Rattle.std.specs.Fmt.{decimal}
use Rattle.std.proofs.lemmas.List.{append-nil}
use Rattle.script_read.specs.Grammar.{ends_line}
use Rattle.reply_text.specs.Output.{mask_text}
use Rattle.apcu_play.proofs.MaskTexts.{mask_text-zero}
use Rattle.apcu_play.proofs.journal.write_mark.Goals as goal

pub returns-then-mark-lt10 : goal.returns-then-mark-lt10
returns-then-mark-lt10 c =
    let none = ap (λ (m : ℕ). mask_text m 64) c.if-mark-eq0.true ∙ mask_text-zero 64 in
    let own = ap (λ (l : List ℕ). decimal c.args.mark.worker ++ l) none ∙ append-nil (decimal c.args.mark.worker) in
    subst (λ (l : List ℕ). OnOk c.write_digit.result (c.write_digit.new.out ≡ c.args.out.now ++ (l ++ ends_line))) (sym own) c.write_digit.ensures
