use Rattle.std.proofs.Common.{◌≡◌, ◌∙◌, ◌≢◌, ℕ, true, List, sym, subst, arith}
use Rattle.std.proofs.lemmas.Bool.{false≢true}
use Rattle.seg_words.specs.Windows.{nothing_aside}
use Rattle.entry_slots.specs.declared.slots.EntrySlots.{EntrySlots}
use Rattle.entry_slots.specs.Lists.{has_place}
use Rattle.entry_slots.specs.Entries.{IsListed, listed}
use Rattle.entry_slots.specs.Standing.{entries}
use Rattle.entry_slots.specs.Reading.{IsHeadOf}
use Rattle.entry_slots.specs.RowPlaces.{place_from}
use Rattle.entry_slots.proofs.KeyCopies.{key_at}
use Rattle.entry_slots.proofs.RowBlocks.{home_listed}
use Rattle.value_image.specs.Texts.{IsToldImage}
use Rattle.cache_c.specs.Standing.{cache_words}
use Rattle.cache_c.proofs.ToldRows.{head_image, row_told}
use Rattle.cache_c.proofs.cache.Cache.row.Goals as goal

pub head-head-requires-clause-there : goal.head-head-requires-clause-there
head-head-requires-clause-there c = subst (λ (e : EntrySlots). has_place c.args.at (listed (entries e)) ≡ true) (sym c.slots.ensures.value) c.requires.there

pub value-value-requires : goal.value-value-requires
value-value-requires c =
    let s = entries c.args.self.now.core.slots in
    let r = place_from c.args.at (listed s) c.requires.there in
    let there = subst (λ (e : EntrySlots). IsListed (entries e) c.args.at r.0) (sym c.slots.ensures.value) (record { there = r.1; place = r.2 }) in
    let head = c.head-head.ensures.head r.0 there in
    record { image = (r.0.graph, subst (λ (ws : List ℕ). IsToldImage ws nothing_aside.windows c.head-head.result.image r.0.graph) c.lent.ensures (head_image head)) }

pub overflow_add-result : goal.overflow_add-result
overflow_add-result c =
    let s = entries c.args.self.now.core.slots in
    let r = place_from c.args.at (listed s) c.requires.there in
    let k = key_at c.bytes_are_packed.ensures r.0 (home_listed r.0 c.requires.stand.alone.stand r.1) c.args.at r.2 in
    omega (arith, k.inside, k.short)

pub returns-clause-told : goal.returns-clause-told
returns-clause-told c = λ row is.
    let core = c.args.self.now.core in
    let ws = cache_words c.args.self.now in
    let there = subst (λ (e : EntrySlots). IsListed (entries e) c.args.at row) (sym c.slots.ensures.value) is in
    let head = subst (λ (l : List ℕ). IsHeadOf l nothing_aside.windows c.head-head.result row) c.lent.ensures (c.head-head.ensures.head row there) in
    let sound = c.standing_laws.ensures.sound core.slots ws nothing_aside (entries core.slots) c.requires.stand.alone.stand in
    let some : c.args.at ≢ 0 = λ zero. false≢true (sym sound.placed ∙ subst (λ (n : ℕ). has_place n (listed (entries core.slots)) ≡ true) zero c.requires.there) in
    row_told c.bytes_are_packed.ensures c.args.slot c.args.at c.head-head.result row c.value-value.result c.requires.stand.alone.stand is some head
    c.value-value.ensures.same.words (c.value-value.ensures.told row.graph (head_image head))
