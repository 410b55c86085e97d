use Rattle.info_tables.proofs.TableValues.{key_tellable}
use Rattle.info_tables.proofs.tables.tell_key.Goals as goal

pub finish-requires : goal.finish-requires
finish-requires c = rw (c.in_ok-push_numbers.ensures, c.new-telling.ensures, c.in_ok-first.ensures.kind, c.from.ensures) (key_tellable c.args.row)
