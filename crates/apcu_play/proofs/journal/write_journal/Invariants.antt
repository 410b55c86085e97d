use Rattle.std.proofs.Common.{◌≡◌, ◌++◌, take}
use Rattle.std.specs.Prelude.{codes}
use Rattle.std.specs.List.{flat_map}
use Rattle.script_read.specs.Grammar.{ends_line}
use Rattle.reply_text.specs.Output.{mark_line}
use Rattle.apcu_play.proofs.journal.write_journal.Given as goal

abbrev pub invariant-loop-i : goal.invariant-loop-i
invariant-loop-i l = l.out ≡ l.fn.out ++ (codes "journal" ++ ends_line ++ flat_map mark_line (take l.i l.journal.marks))
