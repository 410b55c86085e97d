use Rattle.std.proofs.Common.{arith, ◌++◌, ◌≡◌, ◌∙◌, ap, sym, map}
use Rattle.std.proofs.lemmas.Grind.{common_steps}
use Rattle.std.specs.Prelude.{Bool, sum_by}
use Rattle.std.proofs.lemmas.Result.{IfOk-weaker}
use Rattle.php_graph.specs.declared.graph.Graph.{Graph}
use Rattle.apcu_model.specs.declared.conf.Conf.{Conf}
use Rattle.apcu_model.specs.Cache.{Row}
use Rattle.apcu_model.specs.Infos.{info_array, info_counts, info_rows, cache_info_of, listed_of}
use Rattle.apcu_model.specs.SlotOrder.{in_slot_order}
use Rattle.entry_slots.specs.declared.slots.EntrySlots.{EntrySlots}
use Rattle.entry_slots.specs.Entries.{Entries}
use Rattle.entry_slots.specs.Standing.{entries}
use Rattle.cache_core.specs.CoreCache.{cache_of}
use Rattle.cache_info.proofs.InfoAnswers.{limited_told, whole_told}
use Rattle.cache_info.proofs.cache.cache_info.Goals as goal

pub returns-then-limited-clause-info : goal.returns-then-limited-clause-info
returns-then-limited-clause-info g c =
    let core = c.args.core.now in
    let all = cache_of core in
    let slots = c.slots-slots.ensures.value in
    let words = c.from-words.ensures ∙ c.row_words.ensures.words ∙ ap (λ (e : EntrySlots). sum_by (λ (row : Row). row.size) (entries e).rows) slots in
    let told = limited_told all c.conf-conf.result.now c.counts-counts.result c.from-words.result c.conf-conf.ensures c.counts-counts.ensures words
    ∙ ap (λ (b : Bool). cache_info_of b all) (sym c.if-limited.true) in
    IfOk-weaker c.tell_counts.result (λ (x : Graph). x ≡ info_array (info_counts c.conf-conf.result.now c.counts-counts.result c.from-words.result) 1) (λ (x : Graph). x ≡ cache_info_of c.args.limited all) (λ x is. is ∙ told) c.tell_counts.ensures

pub returns-clause-info : goal.returns-clause-info
returns-clause-info g c =
    let core = c.args.core.now in
    let all = cache_of core in
    let slots = c.slots-slots.ensures.value in
    let words = c.from-words.ensures ∙ c.row_words.ensures.words ∙ ap (λ (e : EntrySlots). sum_by (λ (row : Row). row.size) (entries e).rows) slots in
    let shape = ap (λ (s : Entries). s.conf) c.requires.stand.whole in
    let rows = c.in_ok-rows.ensures.rows ∙ ap (λ (e : EntrySlots). map listed_of (in_slot_order (entries e).conf (entries e).rows)) slots ∙ ap (λ (f : Conf). map listed_of (in_slot_order f all.rows)) shape in
    let removed = c.in_ok-removed.ensures.rows ∙ ap (λ (e : EntrySlots). map listed_of (entries e).removed) slots in
    let told = whole_told all c.conf-conf.result.now c.counts-counts.result c.from-words.result c.in_ok-rows.rows.items c.in_ok-removed.removed.items c.conf-conf.ensures c.counts-counts.ensures words rows removed
    ∙ ap (λ (b : Bool). cache_info_of b all) (sym c.if-limited.false) in
    IfOk-weaker c.tell_cache.result (λ (x : Graph). x ≡ info_array (info_counts c.conf-conf.result.now c.counts-counts.result c.from-words.result ++ info_rows c.in_ok-rows.rows.items c.in_ok-removed.removed.items) 1) (λ (x : Graph). x ≡ cache_info_of c.args.limited all) (λ x is. is ∙ told) c.tell_cache.ensures

pub conf-conf-requires : goal.conf-conf-requires
conf-conf-requires g c = grind (arith, common_steps)

pub counts-counts-requires : goal.counts-counts-requires
counts-counts-requires g c = grind (arith, common_steps)

pub slots-slots-requires : goal.slots-slots-requires
slots-slots-requires g c = grind (arith, common_steps)

pub row_words-requires-clause-stand : goal.row_words-requires-clause-stand
row_words-requires-clause-stand g c = grind (arith, common_steps)

pub row_words-requires-clause-whole : goal.row_words-requires-clause-whole
row_words-requires-clause-whole g c =
    let slots = ap (λ (e : EntrySlots). entries e) c.slots-slots.ensures.value in
    let whole = slots ∙ c.requires.stand.whole in
    (ap (λ (s : Entries). s.unlinked) whole, ap (λ (s : Entries). s.taken) whole)

pub tell_counts-requires : goal.tell_counts-requires
tell_counts-requires g c = grind (arith, common_steps)

pub list_rows-requires : goal.list_rows-requires
list_rows-requires g c = grind (arith, common_steps)

pub returns-in_err-rows-clause-info : goal.returns-in_err-rows-clause-info
returns-in_err-rows-clause-info g c = grind (arith, common_steps)

pub list_removed-requires : goal.list_removed-requires
list_removed-requires g c = grind (arith, common_steps)

pub returns-in_err-removed-clause-info : goal.returns-in_err-removed-clause-info
returns-in_err-removed-clause-info g c = grind (arith, common_steps)

pub tell_cache-requires : goal.tell_cache-requires
tell_cache-requires g c = grind (arith, common_steps)
