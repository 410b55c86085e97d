use Rattle.info_tables.proofs.TableValues.{words_tellable}
use Rattle.info_tables.proofs.tables.tell_words.Goals as goal

pub finish-requires : goal.finish-requires
finish-requires c = rw (c.in_ok-push_numbers.ensures, c.new-telling.ensures, c.in_ok-first.ensures.kind, c.bytes_in.ensures, c.bytes_in-2.ensures, c.piece.ensures, c.from.ensures) (words_tellable c.args.conf c.args.free)
