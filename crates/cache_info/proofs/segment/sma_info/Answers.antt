use Rattle.std.proofs.Common.{◌++◌, ◌≡◌, ◌∙◌, List, ap, sym, subst}
use Rattle.std.specs.Prelude.{Bool, sum_by}
use Rattle.seg_words.specs.declared.gaps.Extent.{Extent}
use Rattle.sma_blocks.specs.declared.sma.Sma.{Sma}
use Rattle.sma_blocks.specs.Live.{free_runs_in}
use Rattle.std.proofs.lemmas.Result.{IfOk-weaker}
use Rattle.php_graph.specs.declared.graph.Graph.{Graph}
use Rattle.apcu_model.specs.Conf.{IsUsable}
use Rattle.apcu_model.specs.Infos.{sma_info_of, info_array, info_words, info_gaps}
use Rattle.entry_slots.specs.declared.slots.EntrySlots.{EntrySlots}
use Rattle.entry_slots.specs.Entries.{Entries}
use Rattle.entry_slots.specs.Standing.{entries}
use Rattle.cache_core.specs.CoreCache.{cache_of}
use Rattle.cache_info.proofs.InfoAnswers.{gaps_are, words_told, gaps_told}
use Rattle.cache_info.proofs.segment.sma_info.Goals as goal

pub returns-then-limited-clause-info : goal.returns-then-limited-clause-info
returns-then-limited-clause-info g c =
    let core = c.args.core.now in
    let all = cache_of core in
    let words = g.S.WordsIn.words c.args.seg.now in
    let runs : Sma → List Extent = λ s. free_runs_in s.bounds words in
    let same = ap runs (c.sma-sma.ensures ∙ ap (λ (e : EntrySlots). e.sma) c.slots.ensures.value) ∙ gaps_are core.slots words (g.S.WordsIn.aside c.args.seg.now) all (entries core.slots) c.requires.stand.stand c.requires.stand.whole in
    let free = c.free_words-free.ensures.value ∙ ap (sum_by (λ (run : Extent). run.size)) same in
    let told = words_told all c.conf-conf.result.now c.free_words-free.result c.conf-conf.ensures free
    ∙ ap (λ (b : Bool). sma_info_of b all) (sym c.if-limited.true) in
    IfOk-weaker c.tell_words.result (λ (x : Graph). x ≡ info_array (info_words c.conf-conf.result.now c.free_words-free.result) 1) (λ (x : Graph). x ≡ sma_info_of c.args.limited all) (λ x is. is ∙ told) c.tell_words.ensures

pub returns-clause-info : goal.returns-clause-info
returns-clause-info g c =
    let core = c.args.core.now in
    let all = cache_of core in
    let words = g.S.WordsIn.words c.args.seg.now in
    let runs : Sma → List Extent = λ s. free_runs_in s.bounds words in
    let same = ap runs (c.sma-sma.ensures ∙ ap (λ (e : EntrySlots). e.sma) c.slots.ensures.value) ∙ gaps_are core.slots words (g.S.WordsIn.aside c.args.seg.now) all (entries core.slots) c.requires.stand.stand c.requires.stand.whole in
    let free = c.free_words-free.ensures.value ∙ ap (sum_by (λ (run : Extent). run.size)) same in
    let s = c.sma-sma.result.now in
    let gaps = c.deref.ensures.value ∙ c.in_ok-gaps.ensures.gaps ∙ ap (λ w. free_runs_in s.bounds w) c.free_words-free.ensures.kept.words ∙ same in
    let told = gaps_told all c.conf-conf.result.now c.free_words-free.result c.deref.result.now c.conf-conf.ensures free gaps
    ∙ ap (λ (b : Bool). sma_info_of b all) (sym c.if-limited.false) in
    IfOk-weaker c.tell_gaps.result (λ (x : Graph). x ≡ info_array (info_words c.conf-conf.result.now c.free_words-free.result ++ info_gaps c.conf-conf.result.now c.deref.result.now) 1) (λ (x : Graph). x ≡ sma_info_of c.args.limited all) (λ x is. is ∙ told) c.tell_gaps.ensures

pub tell_gaps-requires : goal.tell_gaps-requires
tell_gaps-requires g c =
    subst IsUsable (ap (λ (x : Entries). x.conf) c.requires.stand.whole ∙ sym c.conf-conf.ensures) c.requires.stand.stand.usable
