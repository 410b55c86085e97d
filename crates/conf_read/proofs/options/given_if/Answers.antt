use Rattle.std.proofs.Common.{◌≡◌, Option, Some, None, ap, option_map, rules, sym, ◌∙◌, ℕ}
use Rattle.clap.proofs.WalkLemmas.{first_value-rows}
use Rattle.std.specs.Borrow.{Bor}
use Rattle.clap.specs.Words.{Text, found_of}
use Rattle.conf_read.specs.Options.{read_or, reader_of}
use Rattle.conf_read.proofs.options.given_if.Goals as goal

-- what is read of the value that is found
read_so : (default : Option ℕ) (read : Text → Option ℕ) (text : Text) (n : Option ℕ) (first : Option Text) → n ≡ read text → Some text ≡ first →
    option_map Some n ≡ read_or default read first
read_so default read text n first is found = ap (option_map Some) is ∙ ap (read_or default read) found

pub returns-in_err-read-in-Some-clause-is : goal.returns-in_err-read-in-Some-clause-is
returns-in_err-read-in-Some-clause-is c =
    (search rules) ∙ read_so c.args.row.default (reader_of c.args.row.reader) c.in-Some.text.now None _ (search rules)
    (ap (option_map (λ (s : Bor Text). s.now)) (sym c.in-Some.is) ∙ c.get_str.ensures ∙ first_value-rows (found_of c.args.matches.now) c.args.row.name.now)

pub returns-in_ok-read-in-Some-clause-is : goal.returns-in_ok-read-in-Some-clause-is
returns-in_ok-read-in-Some-clause-is c =
    read_so c.args.row.default (reader_of c.args.row.reader) c.in-Some.text.now (Some c.in_ok-read-in-Some.field-0) _ (search rules)
    (ap (option_map (λ (s : Bor Text). s.now)) (sym c.in-Some.is) ∙ c.get_str.ensures ∙ first_value-rows (found_of c.args.matches.now) c.args.row.name.now)

pub returns-in-None-clause-is : goal.returns-in-None-clause-is
returns-in-None-clause-is c =
    ap (read_or c.args.row.default (reader_of c.args.row.reader)) (ap (option_map (λ (s : Bor Text). s.now)) (sym c.in-None.is) ∙ c.get_str.ensures ∙ first_value-rows (found_of c.args.matches.now) c.args.row.name.now)
