-- What the first words of an entry contain is what is returned about its row.
use Rattle.std.proofs.Common.{◌≡◌, ℕ, List}
use Rattle.apcu_model.specs.Cache.{Row}
use Rattle.apcu_model.specs.Infos.{info_of_row}
use Rattle.entry_slots.specs.declared.head.Head.{Head}
use Rattle.entry_slots.specs.Reading.{IsHeadOf}
use Rattle.cache_info.specs.HeadNotes.{info_in}

pub heads_alike : (words windows : List ℕ) (head : Head) (row : Row)
    → IsHeadOf words windows head row → info_in head ≡ info_of_row row
heads_alike words windows head row is = λ i. record {
  ttl = is.ttl i;
  ctime = is.ctime i;
  mtime = is.mtime i;
  atime = is.atime i;
  dtime = is.dtime i;
  hits = is.hits i;
  size = is.size i;
}
