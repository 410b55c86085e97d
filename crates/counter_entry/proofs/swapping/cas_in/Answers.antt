use Rattle.std.proofs.Common.{◌≡◌, Bool, true, false, refl, sym, ap, ◌∙◌, w64, of_z, arith}
use Rattle.std.specs.Prelude.{ℤ, if◌then◌else◌}
use Rattle.std.specs.Ordering.{int_eq}
use Rattle.std.proofs.lemmas.Bool.{false≢true}
use Rattle.std.proofs.lemmas.Grind.{common_steps}
use Rattle.std.proofs.lemmas.Int.{to_z-of_z}
use Rattle.apcu_model.specs.declared.request.Reply.TheVariants.{Flag}
use Rattle.apcu_model.specs.Counters.{integer_set, is_expected}
use Rattle.apcu_model.specs.Expiry.{live_row}
use Rattle.cache_core.specs.CoreCache.{cache_of}
use Rattle.cache_core.specs.Events.{IsUnchanged}
use Rattle.cache_core.proofs.CoreCacheLemmas.{cache_kept}
use Rattle.cache_core.proofs.Events.{does_nothing, beside_then, still, steps}
use Rattle.counter_entry.proofs.IntegerLookUps.{counter_of, holds_int, unnamed_at, expected_is}
use Rattle.counter_entry.proofs.swapping.cas_in.Goals as goal

-- numbers whose words differ are not equal
other_int : (n expect : ℤ) → (of_z w64 n ≡ of_z w64 expect → ⊥) → int_eq n expect ≡ false
other_int n expect differ = grind (arith, common_steps, differ)

pub set_int-requires-clause-stand : goal.set_int-requires-clause-stand
set_int-requires-clause-stand g c = cache_kept c.args.core.now c.look_for.ensures.kept c.requires.stand

pub set_int-requires-clause-int : goal.set_int-requires-clause-int
set_int-requires-clause-int g c = holds_int c.args.core.now (counter_of c.args.key.now c.args.t (cache_of c.args.core.now) c.in-Integer.at _ c.in-Integer.ensures.found)

pub set_int-requires-clause-unnamed : goal.set_int-requires-clause-unnamed
set_int-requires-clause-unnamed g c =
    let k = counter_of c.args.key.now c.args.t (cache_of c.args.core.now) c.in-Integer.at _ c.in-Integer.ensures.found in
    unnamed_at (g.S.WordsIn.aside c.args.seg.now) (g.S.WordsIn.aside c.look_for.new.seg) k c.requires.unnamed c.look_for.ensures.kept.aside

pub returns-then-n-expect : goal.returns-then-n-expect
returns-then-n-expect g c =
    let old = cache_of c.args.core.now in
    let key = c.args.key.now in
    let k = counter_of key c.args.t old c.in-Integer.at _ c.in-Integer.ensures.found in
    let no : false ≡ is_expected c.args.expect (live_row key c.args.t old) = sym (expected_is c.args.expect k ∙ other_int c.in-Integer.n c.args.expect c.if-n-expect.true) in
    let same : IsUnchanged g.S.WordsIn c.args.core.now c.args.core.now c.args.seg.now c.look_for.new.seg = record { core = refl; kept = c.look_for.ensures.kept } in
    record {
      does = does_nothing same c.requires.stand (λ held. ap Flag no) (λ held. ap (λ (b : Bool). if b then integer_set key c.args.set c.args.t old else old) no);
      none = λ none. same;
      beside = record { aside = c.look_for.ensures.kept.aside; rest = c.look_for.ensures.kept.rest };
    }

pub returns : goal.returns
returns g c =
    let old = cache_of c.args.core.now in
    let key = c.args.key.now in
    let k = counter_of key c.args.t old c.in-Integer.at _ c.in-Integer.ensures.found in
    let equal : int_eq c.in-Integer.n c.args.expect ≡ true = grind (arith, common_steps, c.if-n-expect.false) in
    let yes : true ≡ is_expected c.args.expect (live_row key c.args.t old) = sym (expected_is c.args.expect k ∙ equal) in
    record {
      does = record {
        reply = λ later on. ap Flag yes;
        cache = λ later on.
            c.set_int.ensures.cache key c.args.t k.row k.live k.place
            ∙ (ap (λ z. integer_set key z c.args.t old) (to_z-of_z w64 c.args.set c.ranges.set) ∙ ap (λ (b : Bool). if b then integer_set key c.args.set c.args.t old else old) yes);
        step = steps (still c.args.core.now c.look_for.ensures.kept c.requires.stand) c.set_int.ensures.step;
      };
      none = λ none. absurd (false≢true (sym none));
      beside = beside_then c.look_for.ensures.kept c.set_int.ensures.beside;
    }
