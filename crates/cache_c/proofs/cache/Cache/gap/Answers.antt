use Rattle.std.proofs.Common.{◌∙◌, ℕ, List, ap}
use Rattle.std.specs.Prelude.{nat_le, find, option_map}
use Rattle.seg_words.specs.declared.gaps.Extent.{Extent}
use Rattle.seg_words.specs.Windows.{nothing_aside}
use Rattle.sma_blocks.specs.declared.sma.Sma.{Sma}
use Rattle.sma_blocks.specs.Live.{free_runs_in}
use Rattle.entry_slots.specs.declared.slots.EntrySlots.{EntrySlots}
use Rattle.entry_slots.specs.Standing.{entries}
use Rattle.cache_core.specs.CoreCache.{cache_of}
use Rattle.cache_info.proofs.GapRuns.{pair_of}
use Rattle.cache_info.proofs.InfoAnswers.{gaps_are}
use Rattle.cache_c.specs.Standing.{cache_words}
use Rattle.cache_c.proofs.cache.Cache.gap.Goals as goal

pub returns-clause-gap : goal.returns-clause-gap
returns-clause-gap c =
    let core = c.args.self.now.core in
    let ws = cache_words c.args.self.now in
    let runs : List ℕ → Sma → List Extent = λ l s. free_runs_in s.bounds l in
    let same = ap (λ l. runs l c.sma.result.now) c.lent.ensures ∙ ap (runs ws) (c.sma.ensures ∙ ap (λ (e : EntrySlots). e.sma) c.slots.ensures.value) ∙ gaps_are core.slots ws nothing_aside (cache_of core) (entries core.slots) c.requires.stand.alone.stand c.requires.stand.alone.whole in
    c.gap_from.ensures.value ∙ ap (λ (l : List Extent). option_map pair_of (find (λ run. nat_le c.args.from run.place) l)) same
