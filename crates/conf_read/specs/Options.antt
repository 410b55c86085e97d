-- The options of the program, and what its arguments ask for by them.
use Rattle.std.specs.Prelude.{◌≡◌, ℕ, ◌+◌, ◌*◌, ◌%◌, ◌≤◌, Bool, true, false, not, ◌&&◌, ◌||◌, ◌==◌}
use Rattle.std.specs.Prelude.{nat_le, if◌then◌else◌, List, [], ◌∷◌, map, codes, Option, Some, None}
use Rattle.std.specs.Prelude.{String, string_bytes}
use Rattle.std.specs.Option.{option_map}
use Rattle.clap.specs.Words.{App, Row, Text, fault_of, first_of, matches_of, new_app}
use Rattle.apcu_model.specs.declared.conf.Clock.{Clock}
use Rattle.apcu_model.specs.declared.conf.Clock.TheVariants.{Line, Request}
use Rattle.apcu_model.specs.declared.conf.Conf.{Conf}
use Rattle.apcu_model.specs.declared.conf.TheConstants.{MOST_SEGMENTS, MOST_SLOTS}
use Rattle.apcu_model.specs.declared.limits.TheConstants.{LONGEST_INPUT, MOST_WORKERS}
use Rattle.conf_read.specs.declared.settings.Settings.{Settings}
use Rattle.conf_read.specs.declared.task.Task.{Task}
use Rattle.conf_read.specs.declared.options.Row.{Row as CodeRow}
use Rattle.conf_read.specs.declared.options.Reader.{Reader}
use Rattle.conf_read.specs.declared.options.Reader.TheVariants.{Size, Number}
use Rattle.conf_read.specs.Command.{with_options}
use Rattle.conf_read.specs.Numbers.{number_from, words_in_size}
use Rattle.conf_read.specs.Tasks.{task_by}

-- ---- the table

-- an option: its name, its default, if there is one, and how its value is read
pub record ProgramOption : Type 0 where
  pub name : Text
  pub default : Option ℕ
  pub read : Text → Option ℕ

-- the size of each segment, in words of 8 bytes: 32 MB
abbrev pub shm_size : ProgramOption
shm_size = record { name = codes "shm-size"; default = Some 4194304; read = words_in_size }

abbrev pub segments : ProgramOption
segments = record { name = codes "segments"; default = Some 1; read = number_from 1 MOST_SEGMENTS }

abbrev pub slots : ProgramOption
slots = record { name = codes "slots"; default = Some 4096; read = number_from 2 MOST_SLOTS }

-- in seconds; 0: no row expires
abbrev pub ttl : ProgramOption
ttl = record { name = codes "ttl"; default = Some 0; read = number_from 0 4294967295 }

-- whether a call's moment is the start of its request: 1 if it is
abbrev pub use_request_time : ProgramOption
use_request_time =
    record { name = codes "use-request-time"; default = Some 0; read = number_from 0 1 }

-- the number from which scripts are made; it has no default
abbrev pub generate : ProgramOption
generate =
    record { name = codes "generate"; default = None; read = number_from 0 18446744073709551615 }

-- how many workers they are for
abbrev pub workers : ProgramOption
workers = record { name = codes "workers"; default = Some 4; read = number_from 1 MOST_WORKERS }

-- and how many calls each of these makes
abbrev pub calls : ProgramOption
calls = record { name = codes "calls"; default = Some 1000; read = number_from 0 1000000 }

-- how many bytes of a bundle precede the scripts; it has no default
abbrev pub preload : ProgramOption
preload = record { name = codes "preload"; default = None; read = number_from 0 LONGEST_INPUT }

-- how many bytes of scripts precede an output that is to be judged
abbrev pub verify : ProgramOption
verify = record { name = codes "verify"; default = None; read = number_from 0 LONGEST_INPUT }

-- whether the map of the cache's words is printed after a play: 1 if it is
abbrev pub map_wanted : ProgramOption
map_wanted = record { name = codes "map"; default = Some 0; read = number_from 0 1 }

abbrev pub options : List ProgramOption
options =
    shm_size ∷ segments ∷ slots ∷ ttl ∷ use_request_time ∷ generate ∷ workers ∷ calls
    ∷ preload ∷ verify ∷ map_wanted ∷ []

abbrev pub names : List Text
names = map (λ o. o.name) options

abbrev pub program : App
program = with_options (new_app (codes "apcu_run")) names

-- ---- what the arguments ask for

infixl 10 ◌>>=◌
abbrev pub ◌>>=◌ : {A B : Type 0} → Option A → (A → Option B) → Option B
(Some x) >>= f = f x
None >>= f = None

abbrev pub read_or : Option ℕ → (Text → Option ℕ) → Option Text → Option (Option ℕ)
read_or default read None = Some default
read_or default read (Some text) = option_map Some (read text)

-- the value of an option in clap's rows: `None` if it is refused, and `Some None` if the option is
-- left out and has no default
abbrev pub given_if : ProgramOption → List Row → Option (Option ℕ)
given_if option rows = read_or option.default option.read (first_of option.name rows)

-- the value of an option that has a default
abbrev pub given : ProgramOption → List Row → Option ℕ
given option rows = given_if option rows >>= (λ n. n)

-- this many slots leave 16 words of the first segment for blocks, and this many segments of this
-- many words have 128 MB at most
abbrev pub is_in_order : ℕ → ℕ → ℕ → Bool
is_in_order words count chains =
    chains % 2 == 0 && (nat_le (chains + 16) words && nat_le (count * words) 16777216)

abbrev pub cache_with : ℕ → ℕ → ℕ → ℕ → Conf
cache_with words count chains seconds =
    record { words = count * words; slots = chains; ttl = seconds; segments = count }

-- the cache's shape: nothing if a value is out of its form or range, or two do not agree
abbrev pub conf_in : List Row → Option Conf
conf_in rows = do
  words ← given shm_size rows
  count ← given segments rows
  chains ← given slots rows
  seconds ← given ttl rows
  if is_in_order words count chains then Some (cache_with words count chains seconds) else None

-- 0 is the second of the call
abbrev pub clock_of : ℕ → Clock
clock_of number = if number == 0 then Line else Request

-- the task of the run, on a cache of this shape; every option is parsed in any run
abbrev pub task_in : Conf → List Row → Option Task
task_in shape rows = do
  seed ← given_if generate rows
  crew ← given workers rows
  each ← given calls rows
  bundle ← given_if preload rows
  judged ← given_if verify rows
  drawn ← given map_wanted rows
  task_by shape seed crew each judged (record { bundle = bundle; map = drawn })

-- what clap's rows ask for: nothing if they ask for no shape, another value is out of its form or
-- range, or the shape does not suit the task
abbrev pub settings_in : List Row → Option Settings
settings_in rows = do
  shape ← conf_in rows
  start ← given use_request_time rows
  task ← task_in shape rows
  Some (record { conf = shape; clock = clock_of start; task = task })

-- the program's arguments as texts
abbrev pub as_texts : {Z : Type 0} → List (String Z) → List Text
as_texts = map string_bytes

abbrev pub is_none_of : {A : Type 0} → List A → Bool
is_none_of [] = true
is_none_of (x ∷ xs) = false

-- there is no argument, or clap finds a fault: an unknown or a repeated option, a missing value, a
-- word that belongs to no option, a request for help
abbrev pub are_faulty : List Text → Bool
are_faulty words = is_none_of words || not (is_none_of (fault_of program words))

abbrev pub settings_told : List Text → Option Settings
settings_told words = if are_faulty words then None else settings_in (matches_of program words)

-- what the program is called for; nothing if its arguments are invalid, or a value is out of its
-- form or range
abbrev pub settings_of : {Z : Type 0} → List (String Z) → Option Settings
settings_of words = settings_told (as_texts words)

-- ---- the code's rows

abbrev pub reader_of : Reader → Text → Option ℕ
reader_of Size text = words_in_size text
reader_of (Number low high) text = number_from low high text

abbrev pub option_of : CodeRow → ProgramOption
option_of row =
    record { name = row.name.now; default = row.default; read = reader_of row.reader }

abbrev pub names_of : List CodeRow → List Text
names_of rows = map (λ row. row.name.now) rows

-- a number that the reader can return
abbrev pub IsWithin : Reader → ℕ → Type 0
IsWithin Size n = (n % 2 ≡ 0) × (32 ≤ n) × (n ≤ 16777216)
IsWithin (Number low high) n = (low ≤ n) × (n ≤ high)
