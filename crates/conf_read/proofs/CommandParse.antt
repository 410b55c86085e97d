-- The program's command is simple, and what a parse of it gives.
use Rattle.std.proofs.Common.{◌≡◌, ◌≢◌, ◌∙◌, ◌||◌, Bool, not, List, [], ◌∷◌, map, length, ◌==◌, Result, Err, ap₂, false, true, refl, ⊎_elim}
use Rattle.clap.specs.Words.{AddsArg, App, HasKind, IsAmong, Kinds, Text, app_of, fault_of, is_simple_and_free, kind_of, rule_of, with_rule}
use Rattle.clap.specs.declared.builder.arg.Arg.{Arg}
use Rattle.clap.specs.declared.builder.command.Command.{Command}
use Rattle.clap.specs.declared.error.Error.{Error}
use Rattle.clap.specs.declared.error.kind.ErrorKind.{ErrorKind}
use Rattle.clap.specs.declared.error.kind.ErrorKind.TheVariants.{OutOfMemory}
use Rattle.clap.proofs.OnLiterals.{clap_on_literals}
use Rattle.conf_read.specs.Command.{option_rule}
use Rattle.conf_read.specs.Options.{are_faulty, is_none_of, program}

pub program_is_simple : is_simple_and_free program ≡ true
unfolding clap_on_literals
program_is_simple = refl

-- a command with one option more
pub with_option : (c d : Command) (a : Arg) (app : App) (name : Text) → AddsArg c a d → a.global ≡ false → app_of c ≡ app →
    rule_of a ≡ option_rule name → app_of d ≡ with_rule app (option_rule name)
with_option c d a app name added local is rule = added.shape local ∙ ap₂ with_rule is rule

-- words that are some are some texts
pub some_texts : {A : Type 0} (f : A → Text) (words : List A) → (length words == 0) ≡ false → is_none_of (map f words) ≡ false
some_texts f [] some = absurd cc
some_texts f (x ∷ xs) some = refl

-- what an error is
pub same_error : {A B : Type 0} (x y : B) → ◌≡◌ {A = Result A B} (Err x) (Err y) → x ≡ y
same_error x y e = cc

some_kind : (k : ErrorKind) (ks : Kinds) → IsAmong k ks → is_none_of ks ≡ false
some_kind k [] h = absurd h
some_kind k (x ∷ xs) h = refl

or_not_false : (a b : Bool) → b ≡ false → (a || not b) ≡ true
or_not_false true b e = refl
or_not_false false b e = rw e refl

-- an error that is not for memory comes only where clap finds a fault
pub faulty : (words : List Text) (e : Error) → HasKind (fault_of program words) e → kind_of e ≢ OutOfMemory → are_faulty words ≡ true
faulty words e h never =
    or_not_false _ _ (⊎_elim (λ memory. absurd (never memory)) (some_kind (kind_of e) (fault_of program words)) h)

-- where a parse succeeds there is no fault
pub free : (words : List Text) → is_none_of words ≡ false → fault_of program words ≡ [] → are_faulty words ≡ false
free words some none = rw (some, none) refl
