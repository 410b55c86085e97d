use Rattle.std.proofs.Common.{◌≡◌, Option, refl, sym, ap, ◌∙◌, w64, to_z, of_z}
use Rattle.std.specs.Prelude.{ℤ, ℕ, List}
use Rattle.std.proofs.lemmas.Int.{to_z-of_z}
use Rattle.seg_words.specs.Windows.{held_blocks}
use Rattle.apcu_model.specs.Cache.{Row}
use Rattle.apcu_model.specs.Expiry.{live_row}
use Rattle.apcu_model.specs.Counters.{Count, counted, counted_at}
use Rattle.apcu_model.specs.Sequential.{number_reply}
use Rattle.cache_core.specs.CoreCache.{cache_of}
use Rattle.cache_core.specs.Events.{IsUnchanged}
use Rattle.cache_core.proofs.CoreCacheLemmas.{cache_kept}
use Rattle.cache_core.proofs.Events.{insert_kept, does_nothing, still, steps, by_now}
use Rattle.counter_entry.specs.Numbers.{answer_at, begun_answer, new_counter}
use Rattle.counter_entry.proofs.Besides.{if_none, if_some, beside_kept, both_beside}
use Rattle.counter_entry.proofs.IntegerLookUps.{nothing_of, counter_of, holds_int, unnamed_at, reply_is, other_counted, other_answer, begun_number}
use Rattle.counter_entry.proofs.counting.inc_in.Goals as goal

pub set_int-requires-clause-stand : goal.set_int-requires-clause-stand
set_int-requires-clause-stand g c = cache_kept c.args.core.now c.look_for.ensures.kept c.requires.ready.stand

pub set_int-requires-clause-int : goal.set_int-requires-clause-int
set_int-requires-clause-int g c = holds_int c.args.core.now (counter_of c.args.key.now c.args.t (cache_of c.args.core.now) c.in-Integer.at _ c.in-Integer.ensures.found)

pub set_int-requires-clause-unnamed : goal.set_int-requires-clause-unnamed
set_int-requires-clause-unnamed g c =
    let k = counter_of c.args.key.now c.args.t (cache_of c.args.core.now) c.in-Integer.at _ c.in-Integer.ensures.found in
    unnamed_at (g.S.WordsIn.aside c.args.seg.now) (g.S.WordsIn.aside c.look_for.new.seg) k c.requires.unnamed c.look_for.ensures.kept.aside

pub begin-requires-clause-ready : goal.begin-requires-clause-ready
begin-requires-clause-ready g c = insert_kept c.args.core.now c.look_for.ensures.kept c.requires.ready

pub returns-in-Nothing : goal.returns-in-Nothing
returns-in-Nothing g c =
    let old = cache_of c.args.core.now in
    let key = c.args.key.now in
    let aside = g.S.WordsIn.aside c.begin.new.seg in
    let same = to_z-of_z w64 c.args.step c.ranges.step in
    let n = to_z w64 (of_z w64 c.args.step) in
    let nothing = nothing_of (live_row key c.args.t old) c.in-Nothing.ensures.found in
    let counts : (held : List ℕ) → counted held key c.args.step c.args.ttl c.args.t old ≡ _ = λ held.
    ap (λ (z : ℤ). counted_at held key z c.args.ttl c.args.t old (live_row key c.args.t old)) (sym same) ∙ ap (λ (o : Option Row). counted_at held key n c.args.ttl c.args.t old o) nothing in
    record {
      answer = λ later on.
          let held = held_blocks later in
          c.begin.ensures.answer later on
          ∙ (ap (λ (o : Option Row). answer_at held key n c.args.ttl c.args.t old o) (sym nothing)
          ∙ ap (λ (z : ℤ). answer_at held key z c.args.ttl c.args.t old (live_row key c.args.t old)) same);
      does = record {
        reply = λ later on. reply_is c.begin.result ∙ ap (λ (x : Count). number_reply x.number) (c.begin.ensures.counted later on ∙ sym (counts (held_blocks later)));
        cache = λ later on. ap (λ (x : Count). x.cache) (c.begin.ensures.counted later on ∙ sym (counts (held_blocks later)));
        step = steps (still c.args.core.now c.look_for.ensures.kept c.requires.ready.stand) c.begin.ensures.step;
      };
      beside = if_none _ (live_row key c.args.t old) nothing;
      none = λ other. absurd (begun_number n _ (sym (by_now (λ held. begun_answer n (new_counter held key n c.args.ttl c.args.t old).answer) c.begin.ensures.answer) ∙ other));
    }

pub returns-in-Other : goal.returns-in-Other
returns-in-Other g c =
    let old = cache_of c.args.core.now in
    let key = c.args.key.now in
    let same : IsUnchanged g.S.WordsIn c.args.core.now c.args.core.now c.args.seg.now c.look_for.new.seg = record { core = refl; kept = c.look_for.ensures.kept } in
    record {
      answer = λ later on. other_answer (held_blocks later) key c.args.step c.args.ttl c.args.t old c.in-Other.ensures.found;
      does = does_nothing same c.requires.ready.stand
          (λ held. ap (λ (x : Count). number_reply x.number) (sym (other_counted held key c.args.step c.args.ttl c.args.t old c.in-Other.ensures.found)))
          (λ held. ap (λ (x : Count). x.cache) (sym (other_counted held key c.args.step c.args.ttl c.args.t old c.in-Other.ensures.found)));
      none = λ other. same;
      beside = if_some (live_row key c.args.t old) (beside_kept c.look_for.ensures.kept);
    }

pub returns-in-Integer-clause-beside : goal.returns-in-Integer-clause-beside
returns-in-Integer-clause-beside g c =
    if_some (live_row c.args.key.now c.args.t (cache_of c.args.core.now))
    (both_beside (beside_kept c.look_for.ensures.kept) c.set_int.ensures.beside)
