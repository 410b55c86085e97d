use Rattle.std.proofs.Common.{◌≡◌, ap, refl, sym, subst, ◌∙◌}
use Rattle.std.specs.String.{string_bytes}
use Rattle.clap.specs.Words.{HasKind, HasMatchesOf, fault_of, is_simple_and_free}
use Rattle.conf_read.specs.Options.{as_texts}
use Rattle.conf_read.proofs.CommandParse.{faulty, free, program_is_simple, same_error, some_texts}
use Rattle.conf_read.specs.declared.fault.ConfFault.TheVariants as fault
use Rattle.conf_read.proofs.command.matches_of.Goals as goal
use Rattle.conf_read.proofs.command.matches_of.Goals.{in-OutOfMemory, in_default}

pub returns-in-Ok-clause-free : goal.returns-in-Ok-clause-free
returns-in-Ok-clause-free c =
    let is = c.in_ok-command.ensures in
    let texts = as_texts c.args.words.now in
    let none = c.in-Ok.ensures.kinds (ap is_simple_and_free is ∙ program_is_simple) in
    free texts (some_texts string_bytes c.args.words.now (sym c.is_empty.ensures ∙ c.if-is_empty.false)) (ap (λ a. fault_of a texts) (sym is) ∙ none)

pub returns-after-kind-clause-fault : goal.returns-after-kind-clause-fault
returns-after-kind-clause-fault c is_usage =
    let is = c.in_ok-command.ensures in
    let found = c.in-Err.ensures.kinds (ap is_simple_and_free is ∙ program_is_simple) in
    faulty _ c.in-Err.error (subst (λ a. HasKind (fault_of a (as_texts c.args.words.now)) c.in-Err.error) is found)
    (elim c.match-kind.branch [ in-OutOfMemory w ↦ let bad : fault.Memory ≡ fault.Usage = sym w.result-is ∙ same_error c.match-kind.result fault.Usage is_usage in cc | in_default w ↦ λ memory. w.in_default.not-OutOfMemory (c.kind.ensures ∙ memory) ])

pub returns-in-Ok-clause-found : goal.returns-in-Ok-clause-found
returns-in-Ok-clause-found c =
    let at_program = subst (λ a. HasMatchesOf a (as_texts c.args.words.now) c.in-Ok.matches) c.in_ok-command.ensures c.in-Ok.ensures.matches in
    (at_program refl).0
