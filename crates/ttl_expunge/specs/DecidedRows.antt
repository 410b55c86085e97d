-- What is decided of rows stays decided: facts for proofs here and in the crates above.
use Rattle.std.proofs.Common.{◌≡◌, List, filter, sym, ◌∙◌}
use Rattle.seg_words.specs.Windows.{Aside, held_blocks}
use Rattle.seg_words.specs.Probing.{Goes, stays_decided, stays_held}
use Rattle.seg_words.specs.Members.{filter_alike}
use Rattle.apcu_model.specs.Cache.{Row}
use Rattle.apcu_model.specs.Change.{is_held}
use Rattle.apcu_model.specs.Facts.{held_is}
use Rattle.ttl_expunge.specs.ProbedRows.{AreDecided}

pub all_stay : (old new : Aside) (rows : List Row) → Goes old new → AreDecided old rows
    → AreDecided new rows
all_stay old new rows goes was = record {
  each = λ row c. stays_decided old new row.place goes (was.each row c);
}

-- which of the decided rows are held does not change
pub same_held : (old new : Aside) (rows : List Row) → Goes old new → AreDecided old rows
    → filter (is_held (held_blocks new)) rows ≡ filter (is_held (held_blocks old)) rows
same_held old new rows goes was =
    filter_alike (is_held (held_blocks new)) (is_held (held_blocks old)) rows (λ row c.
    held_is (held_blocks new) row
    ∙ (stays_held old new row.place goes (was.each row c) ∙ sym (held_is (held_blocks old) row)))
