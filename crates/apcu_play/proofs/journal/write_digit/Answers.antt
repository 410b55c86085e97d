use Rattle.std.proofs.Common.{List, ℕ, ◌≡◌, ◌++◌, sym, subst}
use Rattle.std.specs.Prelude.{OnOk}
use Rattle.std.proofs.lemmas.Fmt.{decimal_digit}
use Rattle.script_read.specs.Grammar.{ends_line}
use Rattle.apcu_play.proofs.journal.write_digit.Goals as goal

pub returns : goal.returns
returns c =
    subst (λ (l : List ℕ). OnOk c.push.result (c.push.new.self ≡ c.args.out.now ++ (l ++ ends_line))) (sym (decimal_digit c.args.worker c.requires)) c.push.ensures.ok
