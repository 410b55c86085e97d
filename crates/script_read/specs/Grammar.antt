-- How scripts are spelled, and what the lines mean.
use Rattle.std.specs.Prelude.{◌≡◌, ℕ, zero, suc, ◌≤◌, List, [], ◌∷◌, ◌++◌, length, codes}
use Rattle.std.specs.Prelude.{Option, Some, None}
use Rattle.std.specs.Option.{option_and_then, option_map}
use Rattle.std.specs.List.{flat_map, AllByRecursion}
use Rattle.php_graph.specs.declared.kind.Kind.{Kind}
use Rattle.php_graph.specs.Graph.{IsGraph}
use Rattle.notation.specs.Notation.{text_of}
use Rattle.apcu_model.specs.declared.limits.TheConstants.{MOST_WORKERS}
use Rattle.apcu_model.specs.Levels.{Generator}
use Rattle.script_read.specs.declared.effect.Effect.{Effect}
use Rattle.script_read.specs.declared.effect.Effect.TheVariants.{Sets, Begins, Calls}
use Rattle.script_read.specs.declared.effect.Moments.{Moments}
use Rattle.script_read.specs.declared.script.Step.{Step}
use Rattle.script_read.specs.Arguments.{key, ttl_in}
use Rattle.script_read.specs.Clock.{at_first, request_moments, step_at}
use Rattle.script_read.specs.GenParts.{literal_gen, entry_round}
use Rattle.script_read.specs.Table.{Form, Done, Need, May, Make, form_of}

-- ---- what is written

-- a generator: a value, or an entry's key, the generator inside it, and its ttl if it has one
pub data WrittenGen : Type 0 where
  Literal : List Kind → WrittenGen
  Nested : List Kind → WrittenGen → WrittenGen
  Limited : List Kind → WrittenGen → List Kind → WrittenGen

pub data Argument : Type 0 where
  Plain : List Kind → Argument
  Making : WrittenGen → Argument

-- a word with its arguments
pub record Line : Type 0 where
  pub word : List ℕ
  pub arguments : List Argument

-- ---- its text

-- how an entry inside a generator begins
abbrev pub entry_word : List ℕ
entry_word = codes "(apcu_entry "

abbrev pub gen_text : WrittenGen → List ℕ
gen_text (Literal g) = codes "(" ++ (text_of g ++ codes ")")
gen_text (Nested k inner) =
    entry_word ++ (text_of k ++ (codes " " ++ (gen_text inner ++ codes ")")))
gen_text (Limited k inner t) =
    entry_word ++ (text_of k ++ (codes " "
    ++ (gen_text inner ++ (codes " " ++ (text_of t ++ codes ")")))))

abbrev pub argument_text : Argument → List ℕ
argument_text (Plain g) = text_of g
argument_text (Making written) = gen_text written

-- each after a space
abbrev pub arguments_text : List Argument → List ℕ
arguments_text [] = []
arguments_text (a ∷ more) = codes " " ++ (argument_text a ++ arguments_text more)

-- a line feed
abbrev pub ends_line : List ℕ
ends_line = codes "\n"

abbrev pub line_text : Line → List ℕ
line_text line = line.word ++ (arguments_text line.arguments ++ ends_line)

-- a script: the line `worker`, and the lines that follow it
abbrev pub script_text : List Line → List ℕ
script_text lines = codes "worker" ++ (ends_line ++ flat_map line_text lines)

-- ---- which values are written

abbrev pub IsWrittenGen : WrittenGen → Type 0
IsWrittenGen (Literal g) = IsGraph g
IsWrittenGen (Nested k inner) = IsGraph k × IsWrittenGen inner
IsWrittenGen (Limited k inner t) = IsGraph k × IsWrittenGen inner × IsGraph t

abbrev pub IsArgument : Argument → Type 0
IsArgument (Plain g) = IsGraph g
IsArgument (Making written) = IsWrittenGen written

abbrev pub AreArguments : List Argument → Type 0
AreArguments arguments = AllByRecursion IsArgument arguments

-- ---- what is meant

-- an entry, if its parts mean something
abbrev pub entry_meant : Option (List ℕ) → Option Generator → Option ℕ → Option Generator
entry_meant k inner t =
    option_and_then (λ bytes. option_and_then
    (λ gen. option_map (λ limit. entry_round bytes limit gen) t) inner) k

-- The value of a generator in which this many entries may be nested. A ttl that is left out is
-- none.
abbrev pub gen_meant : ℕ → WrittenGen → Option Generator
gen_meant levels (Literal g) = Some (literal_gen g)
gen_meant zero (Nested k inner) = None
gen_meant (suc levels) (Nested k inner) = entry_meant (key k) (gen_meant levels inner) (Some 0)
gen_meant zero (Limited k inner t) = None
gen_meant (suc levels) (Limited k inner t) =
    entry_meant (key k) (gen_meant levels inner) (ttl_in t)

-- how many entries may be nested inside the line's own
abbrev pub inner_levels : ℕ
inner_levels = 7

-- what the arguments say, by what may follow
abbrev pub effect_by : Form → List Argument → Option Effect
effect_by (Done e) [] = Some e
effect_by (Need next) (Plain g ∷ more) = effect_by (next g) more
effect_by (May short next) [] = effect_by short []
effect_by (May short next) (Plain g ∷ more) = effect_by (next g) more
effect_by (Make next) (Making written ∷ more) =
    option_and_then (λ gen. effect_by (next gen) more) (gen_meant inner_levels written)
effect_by _ _ = None

abbrev pub effect_of : Line → Option Effect
effect_of line = effect_by (form_of line.word) line.arguments

-- The steps of a script's lines, from these moments on. A line that sets the moment, or begins a
-- request, leaves no step.
abbrev pub steps_after : Moments → (Moments → Option (List Step)) → Effect → Option (List Step)
steps_after m others (Sets u) = others (record m { t = u })
steps_after m others (Begins u) = others (request_moments u)
steps_after m others (Calls call) = option_map (λ steps. step_at m call ∷ steps) (others m)

abbrev pub steps_of : Moments → List Line → Option (List Step)
steps_of m [] = Some []
steps_of m (line ∷ lines) =
    option_and_then (steps_after m (λ later. steps_of later lines)) (effect_of line)

-- each script's lines mean its steps, both moments being 0 at its start
abbrev pub Mean : List (List Line) → List (List Step) → Type 0
Mean [] [] = Unit {0}
Mean (lines ∷ others) (steps ∷ scripts) =
    (steps_of at_first lines ≡ Some steps) × Mean others scripts
Mean _ _ = ⊥

-- The bytes are these scripts, one after the other: they are the text of lines that mean them.
pub record AreScripts (bytes : List ℕ) (scripts : List (List Step)) : Type 0 where
  pub lines : List (List Line)
  pub text : bytes ≡ flat_map script_text lines
  pub values : AllByRecursion (AllByRecursion (λ line. AreArguments line.arguments)) lines
  pub meaning : Mean lines scripts
  pub workers : length scripts ≤ MOST_WORKERS
