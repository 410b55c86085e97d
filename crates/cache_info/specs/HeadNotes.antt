-- What the first words of an entry say about it.
use Rattle.apcu_model.specs.declared.row_info.RowInfo.{RowInfo}
use Rattle.entry_slots.specs.declared.head.Head.{Head}

-- what they contain besides the key and the value
abbrev pub info_in : Head → RowInfo
info_in head = record {
  ttl = head.ttl;
  ctime = head.ctime;
  mtime = head.mtime;
  atime = head.atime;
  dtime = head.dtime;
  hits = head.hits;
  size = head.size;
}
