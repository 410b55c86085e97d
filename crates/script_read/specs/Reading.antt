-- Reading scripts from left to right, to their end or to the first fault.
use Rattle.std.specs.Prelude.{ℕ, zero, suc, Bool, false, ◌&&◌, ◌||◌, not, ◌==◌, nat_le, nat_lt}
use Rattle.std.specs.Prelude.{if◌then◌else◌, List, [], ◌∷◌, length, take, drop, codes, Option, Some}
use Rattle.std.specs.Prelude.{None, Result, Ok, ℤ}
use Rattle.std.specs.List.{position_or_len}
use Rattle.std.specs.Str.{bytes_eq}
use Rattle.php_graph.specs.declared.kind.Kind.{Kind}
use Rattle.notation.specs.declared.fault.Reason.TheVariants as reasons
use Rattle.notation.specs.declared.fault.Fault.{Fault}
use Rattle.notation.specs.Marks.{◌>>=◌, fail}
use Rattle.notation.specs.Reading.{reading_of}
use Rattle.apcu_model.specs.declared.limits.TheConstants.{MOST_WORKERS}
use Rattle.apcu_model.specs.Levels.{Generator}
use Rattle.script_read.specs.declared.effect.Effect.{Effect}
use Rattle.script_read.specs.declared.effect.Effect.TheVariants.{Sets, Begins, Calls}
use Rattle.script_read.specs.declared.effect.Moments.{Moments}
use Rattle.script_read.specs.declared.script.Step.{Step}
use Rattle.script_read.specs.Arguments.{key, integer, ttl_in}
use Rattle.script_read.specs.Clock.{at_first, request_moments, step_at}
use Rattle.script_read.specs.GenParts.{literal_gen, entry_round}
use Rattle.script_read.specs.Table.{Form, Done, Need, May, Make, Refuse, form_of}
use Rattle.script_read.specs.Grammar.{entry_word, inner_levels}

-- ---- words

-- a byte that is neither a letter nor `_`
abbrev pub ends_word : ℕ → Bool
ends_word b = not ((nat_le 65 b && nat_le b 90) || ((nat_le 97 b && nat_le b 122) || b == 95))

-- the length of the longest run of letters and `_` in front
abbrev pub word_len : List ℕ → ℕ
word_len bytes = position_or_len ends_word bytes

abbrev pub line_word : List ℕ → List ℕ
line_word line = take (word_len line) line

-- what follows it
abbrev pub behind_word : List ℕ → List ℕ
behind_word line = drop (word_len line) line

-- ---- what is expected between arguments and after them

-- A space before an expected argument. It is missing if the line ends there.
unfoldable pub space_at : List ℕ → Result (List ℕ) Fault
space_at [] = fail reasons.End []
space_at (b ∷ rest) =
    if b == 32 then Ok rest
    else if b == 10 then fail reasons.Argument (b ∷ rest)
    else fail reasons.Separator (b ∷ rest)

-- an argument too many, whatever it is
abbrev pub one_more_at : List ℕ → Result (List ℕ) Fault
one_more_at [] = fail reasons.End []
one_more_at (b ∷ rest) = fail reasons.Argument (b ∷ rest)

-- the end of the line
unfoldable pub end_at : List ℕ → Result (List ℕ) Fault
end_at [] = fail reasons.End []
end_at (b ∷ rest) =
    if b == 10 then Ok rest
    else if b == 32 then one_more_at rest
    else fail reasons.Separator (b ∷ rest)

abbrev pub ends_here : List ℕ → Bool
ends_here [] = false
ends_here (b ∷ rest) = b == 10

-- ---- values as arguments

-- what was read, if it is something, with the bytes after it; otherwise a fault at the argument
abbrev pub chosen : {A : Type 0} → Option A → List ℕ → List ℕ → Result (A × List ℕ) Fault
chosen (Some x) argument rest = Ok (x, rest)
chosen None argument rest = fail reasons.Argument argument

abbrev pub choice_at : {A : Type 0} → (List Kind → Option A) → List ℕ → Result (A × List ℕ) Fault
choice_at choose argument = reading_of argument >>= λ v. chosen (choose v.0) argument v.1

-- the integer that the value is, if it is one
abbrev pub numbers_at : List ℕ → Result (Option ℤ × List ℕ) Fault
numbers_at bytes = reading_of bytes >>= λ v. Ok (integer v.0, v.1)

-- an expected argument, and one that may be left out
abbrev pub argument_at : {A : Type 0} → (List Kind → Option A) → List ℕ → Result (A × List ℕ) Fault
argument_at choose bytes = space_at bytes >>= λ argument. choice_at choose argument

abbrev pub optional_at : {A : Type 0}
    → A → (List Kind → Option A) → List ℕ → Result (A × List ℕ) Fault
optional_at default choose bytes =
    if ends_here bytes then Ok (default, bytes) else argument_at choose bytes

-- an expected argument, and the end of the line after it
abbrev pub last_argument_at : {A : Type 0}
    → (List Kind → Option A) → List ℕ → Result (A × List ℕ) Fault
last_argument_at choose bytes =
    argument_at choose bytes >>= λ x. end_at x.1 >>= λ rest. Ok (x.0, rest)

-- ---- generators

-- the expected byte inside a generator
unfoldable pub separator_at : ℕ → List ℕ → Result (List ℕ) Fault
separator_at separator [] = fail reasons.End []
separator_at separator (b ∷ rest) =
    if b == separator then Ok rest else fail reasons.Separator (b ∷ rest)

-- the end of an entry, with its ttl before it if it has one
unfoldable pub limit_at : List ℕ → Result (ℕ × List ℕ) Fault
limit_at [] = fail reasons.End []
limit_at (b ∷ rest) =
    if b == 41 then Ok (0, rest)
    else if b == 32
    then (choice_at ttl_in rest >>= λ t. separator_at 41 t.1 >>= λ after. Ok (t.0, after))
    else fail reasons.Separator (b ∷ rest)

-- a value in parentheses
unfoldable pub literal_at : List ℕ → Result (Generator × List ℕ) Fault
literal_at [] = fail reasons.End []
literal_at (b ∷ rest) =
    if b == 40
    then (reading_of rest >>= λ v. separator_at 41 v.1 >>= λ after. Ok (literal_gen v.0, after))
    else fail reasons.Argument (b ∷ rest)

-- an entry after its word, if this reads the generator inside it
abbrev pub entry_at : (List ℕ → Result (Generator × List ℕ) Fault)
    → List ℕ → Result (Generator × List ℕ) Fault
entry_at inner_at bytes = do
  k ← choice_at key bytes
  argument ← separator_at 32 k.1
  inner ← inner_at argument
  t ← limit_at inner.1
  Ok (entry_round k.0 t.0 inner.0, t.1)

-- an entry, not a value, begins here
abbrev pub begins_entry : List ℕ → Bool
begins_entry bytes = bytes_eq (take (length entry_word) bytes) entry_word

-- A generator in which this many entries may be nested. One more is refused at its parenthesis,
-- before anything of it is read.
unfoldable pub generator_at : ℕ → List ℕ → Result (Generator × List ℕ) Fault
generator_at zero bytes =
    if begins_entry bytes then fail reasons.Generator bytes else literal_at bytes
generator_at (suc levels) bytes =
    if begins_entry bytes
    then entry_at (generator_at levels) (drop (length entry_word) bytes)
    else literal_at bytes

-- an expected argument
abbrev pub gen_argument_at : List ℕ → Result (Generator × List ℕ) Fault
gen_argument_at bytes = space_at bytes >>= λ argument. generator_at inner_levels argument

-- ---- lines

-- What may follow, to the end of the line. The last argument began at the first of these bytes.
unfoldable pub rest_at : Form → List ℕ → List ℕ → Result (Effect × List ℕ) Fault
rest_at (Done e) last bytes = end_at bytes >>= λ after. Ok (e, after)
rest_at (Need next) last bytes = do
  argument ← space_at bytes
  v ← reading_of argument
  rest_at (next v.0) argument v.1
rest_at (May short next) last bytes =
    if ends_here bytes then rest_at short last bytes
    else (space_at bytes >>= λ argument.
    reading_of argument >>= λ v. rest_at (next v.0) argument v.1)
rest_at (Make next) last bytes = do
  argument ← space_at bytes
  gen ← generator_at inner_levels argument
  rest_at (next gen.0) argument gen.1
rest_at (Refuse reason) last bytes = fail reason last

-- the line `worker`, after this many scripts have begun
abbrev pub worker_at : ℕ → List ℕ → Result (List ℕ) Fault
worker_at begun line =
    if nat_lt begun MOST_WORKERS then end_at (behind_word line) else fail reasons.Workers line

-- what may follow a word, after this many scripts have begun: nothing before the first `worker`
abbrev pub form_after : ℕ → List ℕ → Form
form_after zero word = Refuse reasons.Line
form_after (suc begun) word = form_of word

abbrev pub line_at : ℕ → List ℕ → Result (Effect × List ℕ) Fault
line_at begun line = rest_at (form_after begun (line_word line)) line (behind_word line)

-- ---- scripts

abbrev pub is_worker : List ℕ → Bool
is_worker line = bytes_eq (line_word line) (codes "worker")

-- the steps that are still to come of a script, and the scripts after it
abbrev pub Rest : Type 0
Rest = List Step × List (List Step)

abbrev pub with_effect : Moments → (Moments → Result Rest Fault) → Effect → Result Rest Fault
with_effect m others (Sets u) = others (record m { t = u })
with_effect m others (Begins u) = others (request_moments u)
with_effect m others (Calls call) = others m >>= λ more. Ok (step_at m call ∷ more.0, more.1)

-- The lines up to the end of the bytes, at most this many, after this many scripts have begun, from
-- these moments on.
unfoldable pub lines_at : ℕ → ℕ → Moments → List ℕ → Result Rest Fault
lines_at lines begun m [] = Ok ([], [])
lines_at zero begun m (b ∷ rest) = Ok ([], [])
lines_at (suc lines) begun m (b ∷ rest) =
    if is_worker (b ∷ rest)
    then (worker_at begun (b ∷ rest) >>= λ after.
    lines_at lines (suc begun) at_first after >>= λ more. Ok ([], more.0 ∷ more.1))
    else (line_at begun (b ∷ rest) >>= λ e.
    with_effect m (λ later. lines_at lines begun later e.1) e.0)

-- All of the bytes. Each line takes at least one byte, so there are no more of them than bytes.
unfoldable pub scripts_at : List ℕ → Result (List (List Step)) Fault
scripts_at bytes = lines_at (length bytes) 0 at_first bytes >>= λ rest. Ok rest.1
