use Rattle.std.proofs.Common.{◌≡◌, ◌∙◌, ℕ, ◌≤◌, List, length, take, drop, refl, sym, ap, subst, arith}
use Rattle.seg_words.specs.Windows.{nothing_aside}
use Rattle.entry_slots.specs.Lists.{first_place}
use Rattle.entry_slots.specs.Standing.{entries}
use Rattle.cache_core.specs.declared.cache.Core.{Core}
use Rattle.cache_core.specs.CoreCache.{cache_of}
use Rattle.cache_c.specs.Standing.{cache_words}
use Rattle.cache_c.specs.Told.{AreRowsBy, rows_of}
use Rattle.cache_c.proofs.RowLists.{lists_are, row_end, none_left}
use Rattle.cache_c.proofs.cache.Cache.list_whole.Goals as goal

pub returns-clause-all : goal.returns-clause-all
returns-clause-all c =
    let old = c.args.self.now in
    let s = entries old.core.slots in
    let n = c.list_rows-count.result in
    let rows = rows_of (cache_of old.core) c.args.slot in
    let told = c.list_rows-count.ensures.rows in
    let laws = c.standing_laws.ensures in
    let first = sym c.if-skipped-ne0.false ∙ c.skipped.ensures.place ∙ ap (λ (core : Core). first_place (drop n (rows_of (cache_of core) c.args.slot))) c.list_rows-count.ensures.same.core in
    let none = row_end laws.walked laws.sound old.core.slots (cache_words old) nothing_aside s c.requires.stand.alone.stand c.args.slot n 0 rows (lists_are s (cache_of old.core) c.args.slot c.requires.stand.alone.whole) first in
    let over : length rows ≤ n = none_left rows n none in
    record {
      all = omega (arith, over, told.count);
      rows = record {
        count = omega (arith, over, told.count, c.list_rows-count.auto.out);
        rows = subst (λ (ws : List ℕ). AreRowsBy ws c.args.slot (take n rows) (take n c.list_rows-count.new.out)) (sym c.skipped.ensures.same.words) told.rows;
        others = refl;
      };
    }
