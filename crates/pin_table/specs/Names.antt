-- What the name of a table is before its members are picked.
use Rattle.std.specs.Prelude.{[]}
use Rattle.atomic_table.specs.Seated.{TableId}
use Rattle.apcu_model.specs.declared.conf.Conf.{Conf}

abbrev pub no_table : TableId
no_table = record {
  words = 0;
  slots = 0;
  views_name = 0;
  atom = 0;
  block = 0;
  offset = 0;
  slot_names = [];
}

abbrev pub no_conf : Conf
no_conf = record { words = 0; slots = 0; ttl = 0; segments = 1 }
