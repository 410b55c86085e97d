use Rattle.info_tables.proofs.TableValues.{counts_tellable}
use Rattle.info_tables.proofs.tables.tell_counts.Goals as goal

pub finish-requires : goal.finish-requires
finish-requires c = rw (c.in_ok-push_counts.ensures, c.new-telling.ensures, c.in_ok-first.ensures.kind) (counts_tellable c.args.conf c.args.counts c.args.words)
