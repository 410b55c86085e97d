use Rattle.reply_text.proofs.LegalJournals.{ends_tell, outputs_tell}
use Rattle.reply_text.proofs.laws.outputs_tell_journals.Goals as goal

pub returns : goal.returns
returns c = record { read = ends_tell; one = outputs_tell }
