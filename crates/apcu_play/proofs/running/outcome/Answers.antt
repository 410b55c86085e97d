use Rattle.std.proofs.Common.{rules}
use Rattle.conf_read.specs.Options.{settings_of}
use Rattle.apcu_play.proofs.Endings.{ended_for, ended_for_memory, ended_for_usage}
use Rattle.apcu_play.proofs.running.outcome.Goals as goal

pub returns-in-Ok : goal.returns-in-Ok
returns-in-Ok g c =
    ended_for _ (settings_of c.args.words.now) c.in-Ok.settings _ _ c.outcome_on.result c.in-Ok.ensures.settings c.outcome_on.ensures.ending c.outcome_on.ensures.within c.outcome_on.ensures.unread

pub returns-in-Err-Usage : goal.returns-in-Err-Usage
returns-in-Err-Usage g c = ended_for_usage _ (settings_of c.args.words.now) _ _ _ _ c.of.result c.of.ensures (c.in-Err-Usage.ensures.usage (search rules))

pub returns-in-Err-Memory : goal.returns-in-Err-Memory
returns-in-Err-Memory g c = ended_for_memory _ (settings_of c.args.words.now) _ _ _ _ c.of-in-Err-Memory.result c.of-in-Err-Memory.ensures
