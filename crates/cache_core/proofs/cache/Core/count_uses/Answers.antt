use Rattle.std.proofs.Common.{◌≡◌, ℕ, suc, ◌+◌, List, [], drop, slice_index, refl, sym, ap, ◌∙◌, subst, arith}
use Rattle.std.proofs.Math.ListN.{drop_of_length-le}
use Rattle.std.proofs.Math.Seq.{drop-cons}
use Rattle.apcu_model.specs.Cache.{Cache}
use Rattle.entry_slots.specs.declared.slots.EntrySlots.{EntrySlots}
use Rattle.entry_slots.specs.Entries.{entries_of}
use Rattle.entry_slots.specs.Lists.{has_place}
use Rattle.entry_slots.specs.Standing.{Stands, entries}
use Rattle.ttl_expunge.specs.ProbedRows.{KeepsOpen}
use Rattle.cache_core.specs.CoreCache.{cache_of}
use Rattle.cache_core.specs.Counting.{with_misses}
use Rattle.cache_core.specs.Uses.{fetched}
use Rattle.cache_core.proofs.Events.{still_here, steps, quiet, same_open}
use Rattle.cache_core.proofs.Fetches.{Left, left_next, left_none, misses_counted, has_used}
use Rattle.cache_core.proofs.cache.Core.count_uses.Goals as goal

suc_is : (i : ℕ) → suc i ≡ i + 1
suc_is i = omega arith

pub loop-i-init : goal.loop-i-init
loop-i-init g c = record {
  stand = c.requires.stand;
  there = c.requires.there;
  left = λ keys found. record { rest = keys; found = found; same = refl };
  step = still_here c.requires.stand;
  beside = record { aside = refl; rest = refl };
}

pub loop-i-preserved : goal.loop-i-preserved
loop-i-preserved g c =
    let inv = c.loop-i.invariant in
    let places = c.args.places.now in
    let i = c.loop-i.i in
    let at = slice_index places i in
    record {
      stand = c.count_hit.ensures.step.stand;
      there = λ j lt. ap (λ (d : Cache). has_place (slice_index places j) d.rows) c.count_hit.ensures.used ∙ (has_used (slice_index places j) at c.args.t (cache_of c.loop-i.self).rows ∙ inv.there j lt);
      left = λ keys found.
          subst (λ (n : ℕ). Left keys c.args.t (cache_of c.args.self.now) (cache_of c.count_hit.new.self) (drop n places)) (suc_is i)
          (left_next at (drop (suc i) places) (cache_of c.count_hit.new.self)
          (subst (λ (l : List ℕ). Left keys c.args.t (cache_of c.args.self.now) (cache_of c.loop-i.self) l) (drop-cons places i 0 (omega (arith, c.loop-i-test.true))) (inv.left keys found))
          (λ key row live place. c.count_hit.ensures.cache key c.args.t row live place));
      step = steps inv.step c.count_hit.ensures.step;
      beside = record { aside = c.count_hit.ensures.beside.aside ∙ inv.beside.aside; rest = c.count_hit.ensures.beside.rest ∙ inv.beside.rest };
    }

pub returns-clause-counted : goal.returns-clause-counted
returns-clause-counted g c = λ keys missed found none many.
    let inv = c.loop-i.invariant in
    let old = cache_of c.args.self.now in
    let now = cache_of c.loop-i.self in
    let over : drop c.loop-i.i c.args.places.now ≡ [] = drop_of_length-le c.args.places.now (omega (arith, c.loop-i-test.false)) in
    let is : fetched keys c.args.t old ≡ now = left_none (subst (λ (l : List ℕ). Left keys c.args.t old now l) over (inv.left keys found)) in
    c.count_misses.ensures.cache ∙ (ap (with_misses c.args.misses) (sym is) ∙ misses_counted keys missed c.args.t c.args.misses old none many)

pub returns-clause-step : goal.returns-clause-step
returns-clause-step g c =
    let inv = c.loop-i.invariant in
    let mid = c.loop-i.self in
    let new = c.count_misses.new.self in
    let words = g.S.WordsIn.words c.loop-i.seg in
    let aside = g.S.WordsIn.aside c.loop-i.seg in
    let slots = c.count_misses.ensures.slots in
    let there : Stands new.slots words aside (entries new.slots) = subst (λ (s : EntrySlots). Stands s words aside (entries s)) (sym slots) inv.stand.stand in
    let opened : KeepsOpen aside.windows (entries mid.slots) (entries new.slots) = subst (λ (s : EntrySlots). KeepsOpen aside.windows (entries mid.slots) (entries s)) (sym slots) (same_open aside.windows (entries mid.slots)) in
    steps inv.step (quiet (record { aside = refl; rest = refl }) opened (ap (λ (s : EntrySlots). (entries s).removed) slots)
    (record { stand = there; whole = ap (λ (s : EntrySlots). entries s) slots ∙ (inv.stand.whole ∙ sym (ap entries_of c.count_misses.ensures.cache)) }))
