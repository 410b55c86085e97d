use Rattle.std.proofs.Common.{false, refl}
use Rattle.script_read.specs.declared.lines.TheConstants.{ENDS_WORD}
use Rattle.script_read.specs.Reading.{ends_word}
use Rattle.script_read.proofs.ByteTables.{said}
use Rattle.script_read.proofs.lines.ends_word.Goals as goal

pub returns : goal.returns
returns c = said ends_word ENDS_WORD 256 c.args.byte false c.ranges.byte.fits refl refl
