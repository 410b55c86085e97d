-- How an output is judged.
use Rattle.std.specs.Prelude.{ℕ, ◌+◌, ◌-◌, ◌*◌, ◌^◌, ◌==◌, ◌&&◌, ◌||◌, nat_lt, min, Bool, true}
use Rattle.std.specs.Prelude.{if◌then◌else◌, List, [], ◌∷◌, ◌++◌, take, drop, codes}
use Rattle.std.specs.Prelude.{Option, Some, None}
use Rattle.std.specs.Option.{option_and_then}
use Rattle.std.specs.Str.{bytes_eq}
use Rattle.apcu_model.specs.declared.conf.Conf.{Conf}
use Rattle.apcu_model.specs.declared.journal.Mark.{Mark}
use Rattle.apcu_model.specs.declared.limits.TheConstants.{MOST_WORKERS}
use Rattle.script_read.specs.declared.script.Step.{Step}
use Rattle.script_read.specs.Play.{Play, nothing_played, marked, are_done}
use Rattle.reply_text.specs.Lines.{texts_of}
use Rattle.reply_text.specs.Output.{worker_texts, mark_line, journal_lines}
use Rattle.run_verify.specs.declared.verifying.Verdict.{Verdict}
use Rattle.run_verify.specs.declared.verifying.Verdict.TheVariants.{Yes, NoJournal, Event, Byte}

-- ---- the journal part

-- what follows the line `journal` at the text's front, if it is there and no later one is
abbrev pub behind : List ℕ → Bool → Option (List ℕ) → Option (List ℕ)
behind text here (Some later) = Some later
behind text here None = if here then Some (drop 8 text) else None

-- What follows the last line `journal`: the last place of these eight bytes where a line begins.
-- The flag is whether a line begins at the text's front.
abbrev pub journal_from : Bool → List ℕ → Option (List ℕ)
journal_from begins [] = None
journal_from begins (byte ∷ bytes) =
    behind (byte ∷ bytes) (begins && bytes_eq (codes "journal\n") (take 8 (byte ∷ bytes)))
    (journal_from (byte == 10) bytes)

-- the journal part of an output, whose first line begins at its front
abbrev pub journal_part : List ℕ → Option (List ℕ)
journal_part output = journal_from true output

-- ---- lines

-- one more byte at the front of the first line
abbrev pub with_byte : ℕ → List (List ℕ) → List (List ℕ)
with_byte byte [] = (byte ∷ []) ∷ []
with_byte byte (line ∷ lines) = (byte ∷ line) ∷ lines

-- the lines of a text, each with its line feed; the last one may lack it
abbrev pub lines_of : List ℕ → List (List ℕ)
lines_of [] = []
lines_of (byte ∷ bytes) =
    if byte == 10 then (10 ∷ []) ∷ lines_of bytes else with_byte byte (lines_of bytes)

-- ---- marks

-- a number with one more digit; from `MOST_WORKERS` on, where no worker is, it stays there
abbrev pub digit_more : ℕ → ℕ → ℕ
digit_more n byte = min MOST_WORKERS (n * 10 + (byte - 48))

-- a mask with one more worker, which is above those in it
abbrev pub worker_more : ℕ → ℕ → ℕ
worker_more mask w = if nat_lt w MOST_WORKERS && nat_lt mask (2 ^ w) then mask + 2 ^ w else mask

-- one more number: the first is the worker's own, the others are those of the mask
abbrev pub number_more : Option Mark → ℕ → Option Mark
number_more None w = Some (record { worker = w; mask = 0 })
number_more (Some mark) w = Some (record mark { mask = worker_more mark.mask w })

-- the mark that the numbers of a text make; each ends at a space or a line feed, and n is the part
-- of the first that was read
abbrev pub numbers_from : ℕ → Option Mark → List ℕ → Option Mark
numbers_from n mark [] = mark
numbers_from n mark (byte ∷ bytes) =
    if byte == 32 || byte == 10 then numbers_from 0 (number_more mark n) bytes
    else numbers_from (digit_more n byte) mark bytes

-- a worker below `MOST_WORKERS`, if the line is spelled as the mark is printed
abbrev pub if_spelled : List ℕ → Option Mark → Option Mark
if_spelled line None = None
if_spelled line (Some mark) =
    if nat_lt mark.worker MOST_WORKERS && bytes_eq (mark_line mark) line then Some mark else None

-- The mark that a line spells: that of its numbers, if the mark is printed as this line. So the
-- numbers are canonical decimals below `MOST_WORKERS`, those of the mask rise, single spaces are
-- between them, and a line feed is at the end.
abbrev pub mark_of_line : List ℕ → Option Mark
mark_of_line line = if_spelled line (numbers_from 0 None line)

-- ---- the first difference

abbrev pub place_further : Option ℕ → Option ℕ
place_further None = None
place_further (Some p) = Some (p + 1)

-- the first place at which two texts differ; the end of one is such a place
abbrev pub first_difference : List ℕ → List ℕ → Option ℕ
first_difference [] [] = None
first_difference [] (y ∷ ys) = Some 0
first_difference (x ∷ xs) [] = Some 0
first_difference (x ∷ xs) (y ∷ ys) =
    if x == y then place_further (first_difference xs ys) else Some 0

abbrev pub byte_verdict : Option ℕ → Verdict
byte_verdict None = Yes
byte_verdict (Some p) = Byte p

-- ---- the verdict

-- After k marks, which led to this play, the journal ends: a worker wants something more, or the
-- output is compared with that of these marks.
abbrev pub judged_end : Conf → List (List Step) → List ℕ → ℕ → List Mark → Play → Verdict
judged_end conf scripts output k marks p =
    if are_done conf scripts p.replies
    then byte_verdict (first_difference output
    (worker_texts 0 (texts_of conf scripts p.replies) ++ journal_lines marks))
    else Event k

-- the play after one more line, if it is a mark that can be played
abbrev pub played_line : Conf → List (List Step) → Play → Option Mark → Option Play
played_line conf scripts p mark = option_and_then (marked conf scripts p) mark

abbrev pub with_mark : List Mark → Option Mark → List Mark
with_mark marks None = marks
with_mark marks (Some mark) = marks ++ mark ∷ []

abbrev pub go_on : Verdict → (Play → Verdict) → Option Play → Verdict
go_on stop later None = stop
go_on stop later (Some q) = later q

-- after k marks, which led to this play, the journal has these lines
abbrev pub judged : Conf → List (List Step) → List ℕ → ℕ → List Mark → Play → List (List ℕ)
    → Verdict
judged conf scripts output k marks p [] = judged_end conf scripts output k marks p
judged conf scripts output k marks p (line ∷ lines) =
    go_on (Event k)
    (λ q. judged conf scripts output (k + 1) (with_mark marks (mark_of_line line)) q lines)
    (played_line conf scripts p (mark_of_line line))

abbrev pub judged_part : Conf → List (List Step) → List ℕ → Option (List ℕ) → Verdict
judged_part conf scripts output None = NoJournal
judged_part conf scripts output (Some part) =
    judged conf scripts output 0 [] (nothing_played conf scripts) (lines_of part)

-- The first that applies: the output has no line `journal`; a line of its journal part is no mark
-- that can be played, or these marks end before all workers have ended; the output differs from
-- that of the marks; else it is that output. The scripts are as the clock sees them.
abbrev pub verdict_of : Conf → List (List Step) → List ℕ → Verdict
verdict_of conf scripts output = judged_part conf scripts output (journal_part output)
