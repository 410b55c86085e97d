-- The number and the message of a status.
use Rattle.std.specs.Prelude.{ℕ, List, [], ◌++◌, codes}
use Rattle.std.specs.Fmt.{decimal}
use Rattle.notation.specs.declared.fault.Reason.{Reason}
use Rattle.notation.specs.declared.fault.Reason.TheVariants as reasons
use Rattle.apcu_play.specs.declared.status.Status.{Status}
use Rattle.apcu_play.specs.declared.status.Status.TheVariants.{Done, Usage, Script, ReadFault}
use Rattle.apcu_play.specs.declared.status.Status.TheVariants.{WriteFault, NoMemory, TooLong}
use Rattle.apcu_play.specs.declared.status.Status.TheVariants.{TooMany, Pattern, Differs, Bundle}

abbrev pub code_of : Status → ℕ
code_of Done = 0
code_of Usage = 1
code_of Script = 2
code_of ReadFault = 3
code_of WriteFault = 4
code_of NoMemory = 5
code_of TooLong = 6
code_of TooMany = 7
code_of Pattern = 8
code_of Differs = 9
code_of Bundle = 10

-- the message of each status except those of a script and of a bundle with a fault
abbrev pub message_of : Status → List ℕ
message_of Done = []
message_of Usage = codes "apcu_run: usage\n"
message_of Script = []
message_of ReadFault = codes "apcu_run: read fault\n"
message_of WriteFault = codes "apcu_run: write fault\n"
message_of NoMemory = codes "apcu_run: out of memory\n"
message_of TooLong = codes "apcu_run: input too long\n"
message_of TooMany = codes "apcu_run: too many events\n"
message_of Pattern = codes "apcu_run: pattern\n"
message_of Differs = codes "apcu_run: differs\n"
message_of Bundle = []

-- the end of a message with a reason
abbrev pub reason_text : Reason → List ℕ
reason_text reasons.End = codes ": end\n"
reason_text reasons.Tag = codes ": tag\n"
reason_text reasons.Number = codes ": number\n"
reason_text reasons.Length = codes ": length\n"
reason_text reasons.Mark = codes ": mark\n"
reason_text reasons.Depth = codes ": depth\n"
reason_text reasons.Places = codes ": places\n"
reason_text reasons.Target = codes ": target\n"
reason_text reasons.Repeat = codes ": repeat\n"
reason_text reasons.Class = codes ": class\n"
reason_text reasons.Integer = codes ": integer\n"
reason_text reasons.Line = codes ": line\n"
reason_text reasons.Separator = codes ": separator\n"
reason_text reasons.Argument = codes ": argument\n"
reason_text reasons.Workers = codes ": workers\n"
reason_text reasons.Generator = codes ": generator\n"

-- the message of the first fault of a script: its byte, from 0, and the reason
unfoldable pub script_message : ℕ → Reason → List ℕ
script_message place reason =
    codes "apcu_run: script: byte " ++ (decimal place ++ reason_text reason)

-- the message of the first fault of a bundle
unfoldable pub bundle_message : ℕ → Reason → List ℕ
bundle_message place reason =
    codes "apcu_run: bundle: byte " ++ (decimal place ++ reason_text reason)
