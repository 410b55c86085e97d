use Rattle.std.proofs.Common.{◌≡◌, ◌∙◌, ℕ, ◌+◌, true, false, List, [], Option, Some, None, length, sym, ap, subst, arith}
use Rattle.std.proofs.lemmas.Bool.Decides.{nat_tests}
use Rattle.std.specs.Prelude.{IfSome, IfNone}
use Rattle.late_words.specs.contracts.late_words.LentWordsWordsIn.TheImpl as lent
use Rattle.value_image.specs.Texts.{IsToldImage}
use Rattle.apcu_model.specs.Cache.{Row}
use Rattle.apcu_model.specs.Expiry.{live_row}
use Rattle.entry_slots.specs.Entries.{Entries}
use Rattle.cache_core.specs.CoreCache.{cache_of}
use Rattle.cache_core.specs.Looking.{IsFound}
use Rattle.cache_c.specs.declared.asking.Answer.{Answer}
use Rattle.cache_c.specs.declared.shared.Found.{Found}
use Rattle.cache_c.specs.declared.shared.View.{View}
use Rattle.cache_c.specs.Shared.{IsFoundFor}
use Rattle.cache_c.specs.Standing.{cache_words}
use Rattle.cache_c.specs.Asked.{is_short, IsValueBy}
use Rattle.cache_c.proofs.Standing.{words_short}
use Rattle.cache_c.proofs.HeldRows.{row_block}
use Rattle.cache_c.proofs.SharedRows.{finds_shared, found_some, found_none, found_long}
use Rattle.cache_c.proofs.shared.find_shared.Goals as goal

pub slot_of_hash-slot-requires : goal.slot_of_hash-slot-requires
slot_of_hash-slot-requires c =
    let s = c.requires.shared.1 in
    record { some = omega (arith, ap (λ (v : View). v.slots) s.is_view, s.stand.alone.stand.usable.slots_least, ap (λ (x : Entries). x.conf.slots) s.stand.alone.whole) }

pub of-lent-requires : goal.of-lent-requires
of-lent-requires c = record { within = c.requires.shared.1.few }

pub find_live_in-requires : goal.find_live_in-requires
find_live_in-requires c =
    let cache = c.requires.shared.0 in
    record {
      short = omega (arith, c.if-key-ge4294967296.false);
      finds = (cache.core, finds_shared cache c.args.view.now c.args.words.now c.args.key.now c.args.hash c.slot_of_hash-slot.result c.of-lent.result c.requires.shared.1 c.requires.hash c.slot_of_hash-slot.ensures.slot c.of-lent.ensures);
    }

pub returns-then-key-ge4294967296 : goal.returns-then-key-ge4294967296
returns-then-key-ge4294967296 c = record {
  found = λ cache shared.
      let long : is_short c.args.key.now ≡ false = grind (arith, nat_tests, c.if-key-ge4294967296.true) in
      subst (λ (f : Found). IsFoundFor cache c.args.key.now c.args.t f) (sym c.with_row.ensures) (found_long cache c.args.key.now c.args.t c.plain.result long (ap (λ (a : Answer). a.kind) c.plain.ensures));
}

pub returns-in_default : goal.returns-in_default
returns-in_default c = record {
  found = λ cache shared.
      let short : is_short c.args.key.now ≡ true = grind (arith, nat_tests, c.if-key-ge4294967296.false) in
      let finds = finds_shared cache c.args.view.now c.args.words.now c.args.key.now c.args.hash c.slot_of_hash-slot.result c.of-lent.result shared c.requires.hash c.slot_of_hash-slot.ensures.slot c.of-lent.ensures in
      let none = subst (λ (r : Option ℕ). IfNone r (live_row c.args.key.now c.args.t (cache_of cache.core) ≡ None)) c.in_default.is (c.find_live_in.ensures.none cache.core finds) in
      subst (λ (f : Found). IsFoundFor cache c.args.key.now c.args.t f) (sym c.with_row-in_default.ensures) (found_none cache c.args.key.now c.args.t c.plain-in_default.result short none (ap (λ (a : Answer). a.kind) c.plain-in_default.ensures));
}

pub overflow_add-image : goal.overflow_add-image
overflow_add-image c =
    let cache = c.requires.shared.0 in
    let finds = finds_shared cache c.args.view.now c.args.words.now c.args.key.now c.args.hash c.slot_of_hash-slot.result c.of-lent.result c.requires.shared.1 c.requires.hash c.slot_of_hash-slot.ensures.slot c.of-lent.ensures in
    let f = subst (λ (r : Option ℕ). IfSome r (λ at. IsFound c.args.key.now c.args.t (cache_of cache.core) at)) c.in-Some.is (c.find_live_in.ensures.found cache.core finds) in
    let b = row_block cache c.args.key.now c.in-Some.at f.row c.requires.shared.1.stand f.is_row in
    omega (arith, b.place, b.inside, words_short cache)

pub overflow_add-image-2 : goal.overflow_add-image-2
overflow_add-image-2 c =
    let cache = c.requires.shared.0 in
    let finds = finds_shared cache c.args.view.now c.args.words.now c.args.key.now c.args.hash c.slot_of_hash-slot.result c.of-lent.result c.requires.shared.1 c.requires.hash c.slot_of_hash-slot.ensures.slot c.of-lent.ensures in
    let f = subst (λ (r : Option ℕ). IfSome r (λ at. IsFound c.args.key.now c.args.t (cache_of cache.core) at)) c.in-Some.is (c.find_live_in.ensures.found cache.core finds) in
    let b = row_block cache c.args.key.now c.in-Some.at f.row c.requires.shared.1.stand f.is_row in
    omega (arith, b.place, b.inside, words_short cache)

pub value_at-requires : goal.value_at-requires
value_at-requires c =
    let cache = c.requires.shared.0 in
    let shared = c.requires.shared.1 in
    let finds = finds_shared cache c.args.view.now c.args.words.now c.args.key.now c.args.hash c.slot_of_hash-slot.result c.of-lent.result shared c.requires.hash c.slot_of_hash-slot.ensures.slot c.of-lent.ensures in
    let f = subst (λ (r : Option ℕ). IfSome r (λ at. IsFound c.args.key.now c.args.t (cache_of cache.core) at)) c.in-Some.is (c.find_live_in.ensures.found cache.core finds) in
    let b = row_block cache c.args.key.now c.in-Some.at f.row shared.stand f.is_row in
    let image = ap (λ (n : ℕ). c.in-Some.at + 12 + n) c.words_in.ensures ∙ b.place in
    let words : lent.ghosts.words c.find_live_in.new.seg ≡ cache_words cache = c.find_live_in.ensures.kept.words ∙ (c.of-lent.ensures ∙ shared.whole) in
    record { image = (f.row.graph, subst (λ (ws : List ℕ). IsToldImage ws [] (c.in-Some.at + 12 + c.words_in.result) f.row.graph) (sym words) (subst (λ (n : ℕ). IsToldImage (cache_words cache) [] n f.row.graph) (sym image) b.told)) }

pub returns : goal.returns
returns c = record {
  found = λ cache shared.
      let short : is_short c.args.key.now ≡ true = grind (arith, nat_tests, c.if-key-ge4294967296.false) in
      let finds = finds_shared cache c.args.view.now c.args.words.now c.args.key.now c.args.hash c.slot_of_hash-slot.result c.of-lent.result shared c.requires.hash c.slot_of_hash-slot.ensures.slot c.of-lent.ensures in
      let f = subst (λ (r : Option ℕ). IfSome r (λ at. IsFound c.args.key.now c.args.t (cache_of cache.core) at)) c.in-Some.is (c.find_live_in.ensures.found cache.core finds) in
      let b = row_block cache c.args.key.now c.in-Some.at f.row shared.stand f.is_row in
      let image = ap (λ (n : ℕ). c.in-Some.at + 12 + n) c.words_in.ensures ∙ b.place in
      let words : lent.ghosts.words c.find_live_in.new.seg ≡ cache_words cache = c.find_live_in.ensures.kept.words ∙ (c.of-lent.ensures ∙ shared.whole) in
      let there = subst (λ (ws : List ℕ). IsToldImage ws [] (c.in-Some.at + 12 + c.words_in.result) f.row.graph) (sym words) (subst (λ (n : ℕ). IsToldImage (cache_words cache) [] n f.row.graph) (sym image) b.told) in
      let told = subst (λ (ws : List ℕ). IsValueBy ws f.row.graph c.value_at.result) words (c.value_at.ensures.told f.row.graph there) in
      subst (λ (x : Found). IsFoundFor cache c.args.key.now c.args.t x) (sym c.with_row-2.ensures) (found_some cache c.args.key.now c.args.t c.in-Some.at f.row c.value_at.result short f.live f.is_row.place told);
}
