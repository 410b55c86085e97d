use Rattle.conf_read.specs.Options.{settings_of}
use Rattle.apcu_play.specs.Ended.{sourced}
use Rattle.apcu_play.proofs.TaskOutcomes.{completes_if, refused_if, unloaded_if, told_refusal, told_unloaded}
use Rattle.apcu_play.proofs.running.run.Goals as goal

pub returns-clause-replayed : goal.returns-clause-replayed
returns-clause-replayed g c = c.outcome-ending.ensures.replayed

pub returns-clause-differs : goal.returns-clause-differs
returns-clause-differs g c = c.outcome-ending.ensures.differs

pub returns-clause-usage : goal.returns-clause-usage
returns-clause-usage g c = c.outcome-ending.ensures.usage

pub returns-clause-faulty_words : goal.returns-clause-faulty_words
returns-clause-faulty_words g c = c.outcome-ending.ensures.faulty_words

pub returns-clause-too_many : goal.returns-clause-too_many
returns-clause-too_many g c = c.outcome-ending.ensures.too_many

pub returns-clause-pattern : goal.returns-clause-pattern
returns-clause-pattern g c = c.outcome-ending.ensures.pattern

pub returns-clause-too_long : goal.returns-clause-too_long
returns-clause-too_long g c = c.outcome-ending.ensures.too_long

pub returns-clause-longer : goal.returns-clause-longer
returns-clause-longer g c = c.outcome-ending.ensures.longer

pub returns-clause-within : goal.returns-clause-within
returns-clause-within g c = c.outcome-ending.ensures.within

pub returns-clause-read_fault : goal.returns-clause-read_fault
returns-clause-read_fault g c = c.outcome-ending.ensures.read_fault

pub returns-clause-unread : goal.returns-clause-unread
returns-clause-unread g c = c.outcome-ending.ensures.unread

pub returns-clause-write_fault : goal.returns-clause-write_fault
returns-clause-write_fault g c = c.outcome-ending.ensures.write_fault

pub returns-clause-cut : goal.returns-clause-cut
returns-clause-cut g c = c.outcome-ending.ensures.cut

pub returns-clause-unchanged : goal.returns-clause-unchanged
returns-clause-unchanged g c = c.outcome-ending.ensures.unchanged

pub returns-clause-script : goal.returns-clause-script
returns-clause-script g c = refused_if (settings_of c.args.words.now) (sourced (g.S.Source.left c.args.input.now) (g.S.Source.left c.outcome-ending.new.input) (g.S.Source.faults c.args.input.now) (g.S.Source.faults c.outcome-ending.new.input)) c.outcome-ending.result c.outcome-ending.ensures.script

pub returns-clause-bundle : goal.returns-clause-bundle
returns-clause-bundle g c = unloaded_if (settings_of c.args.words.now) (sourced (g.S.Source.left c.args.input.now) (g.S.Source.left c.outcome-ending.new.input) (g.S.Source.faults c.args.input.now) (g.S.Source.faults c.outcome-ending.new.input)) c.outcome-ending.result c.outcome-ending.ensures.bundle

pub returns-clause-complete : goal.returns-clause-complete
returns-clause-complete g c =
    completes_if c.readings_are_scripts.ensures.one c.readings_are_bundles.ensures.one (g.M.Maker.may_refuse c.args.maker.now) (settings_of c.args.words.now) _ _ c.outcome-ending.result c.outcome-ending.ensures

pub returns-clause-script_message : goal.returns-clause-script_message
returns-clause-script_message g c = told_refusal (settings_of c.args.words.now) (sourced (g.S.Source.left c.args.input.now) (g.S.Source.left c.outcome-ending.new.input) (g.S.Source.faults c.args.input.now) (g.S.Source.faults c.outcome-ending.new.input)) c.outcome-ending.result _ _ _ _ c.outcome-ending.ensures.script c.tell_ending.ensures.script

pub returns-clause-bundle_message : goal.returns-clause-bundle_message
returns-clause-bundle_message g c = told_unloaded (settings_of c.args.words.now) (sourced (g.S.Source.left c.args.input.now) (g.S.Source.left c.outcome-ending.new.input) (g.S.Source.faults c.args.input.now) (g.S.Source.faults c.outcome-ending.new.input)) c.outcome-ending.result _ _ _ _ c.outcome-ending.ensures.bundle c.tell_ending.ensures.bundle
