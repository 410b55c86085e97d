use Rattle.std.proofs.Common.{◌∙◌, ℕ, List, ap}
use Rattle.std.specs.Prelude.{sum_by}
use Rattle.seg_words.specs.declared.gaps.Extent.{Extent}
use Rattle.seg_words.specs.Windows.{nothing_aside}
use Rattle.sma_blocks.specs.declared.sma.Sma.{Sma}
use Rattle.sma_blocks.specs.Live.{free_runs_in}
use Rattle.apcu_model.specs.Cache.{Row}
use Rattle.entry_slots.specs.declared.slots.EntrySlots.{EntrySlots}
use Rattle.entry_slots.specs.Standing.{entries}
use Rattle.cache_core.specs.CoreCache.{cache_of}
use Rattle.cache_info.proofs.InfoAnswers.{gaps_are}
use Rattle.cache_c.specs.Standing.{cache_words}
use Rattle.cache_c.proofs.cache.Cache.counts.Goals as goal

pub returns-clause-counts : goal.returns-clause-counts
returns-clause-counts c =
    let core = c.args.self.now.core in
    let all = cache_of core in
    let ws = cache_words c.args.self.now in
    let slots = c.slots-slots.ensures.value in
    let words = c.from.ensures ∙ c.row_words-row_words.ensures.words ∙ ap (λ (e : EntrySlots). sum_by (λ (row : Row). row.size) (entries e).rows) slots in
    let runs : List ℕ → Sma → List Extent = λ l s. free_runs_in s.bounds l in
    let same = ap (λ l. runs l c.sma.result.now) (c.row_words-row_words.ensures.kept.words ∙ c.lent-lent.ensures) ∙ ap (runs ws) (c.sma.ensures ∙ ap (λ (e : EntrySlots). e.sma) slots) ∙ gaps_are core.slots ws nothing_aside all (entries core.slots) c.requires.stand.alone.stand c.requires.stand.alone.whole in
    let free = c.from-2.ensures ∙ c.free_words-free_words.ensures.value ∙ ap (sum_by (λ (run : Extent). run.size)) same in
    let counts = c.counts-counts.ensures in
    λ i. record {
      hits = (counts i).hits;
      misses = (counts i).misses;
      inserts = (counts i).inserts;
      expunges = (counts i).expunges;
      entries = (counts i).entries;
      row_words = words i;
      free_words = free i;
    }
