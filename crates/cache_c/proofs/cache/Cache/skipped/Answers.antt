use Rattle.std.proofs.Common.{◌≡◌, ◌∙◌, ℕ, true, drop, sym, ap, subst, arith}
use Rattle.seg_words.specs.Windows.{nothing_aside}
use Rattle.entry_slots.specs.Lists.{has_place, first_place, FollowsIn}
use Rattle.entry_slots.specs.Entries.{listed, FollowsInChain}
use Rattle.entry_slots.specs.Standing.{entries}
use Rattle.cache_core.specs.declared.cache.Core.{Core}
use Rattle.cache_core.specs.CoreCache.{cache_of}
use Rattle.cache_c.specs.Standing.{cache_words}
use Rattle.cache_c.specs.Told.{rows_of}
use Rattle.cache_c.proofs.Standing.{stands_kept}
use Rattle.cache_c.proofs.RowLists.{lists_are, row_here, row_end, row_next, none_past}
use Rattle.cache_c.proofs.cache.Cache.skipped.Goals as goal

pub loop-passed-init : goal.loop-passed-init
loop-passed-init c = record { at = c.first-at.ensures.place; low = omega arith; same = c.first-at.ensures.same }

pub returns-then-at-eq0-clause-same : goal.returns-then-at-eq0-clause-same
returns-then-at-eq0-clause-same c = c.loop-passed.invariant.same

pub returns-then-at-eq0-clause-place : goal.returns-then-at-eq0-clause-place
returns-then-at-eq0-clause-place c =
    let old = c.args.self.now in
    let s = entries old.core.slots in
    let i = c.loop-passed.invariant in
    let rows = rows_of (cache_of old.core) c.args.slot in
    let laws = c.standing_laws.ensures in
    let none = row_end laws.walked laws.sound old.core.slots (cache_words old) nothing_aside s c.requires.stand.alone.stand c.args.slot c.loop-passed._passed c.loop-passed.at rows (lists_are s (cache_of old.core) c.args.slot c.requires.stand.alone.whole) (sym c.if-at-eq0.true ∙ i.at) in
    sym (ap first_place (none_past rows c.loop-passed._passed c.args.skip none i.low))

pub after-at-requires-clause-stand : goal.after-at-requires-clause-stand
after-at-requires-clause-stand c = stands_kept c.loop-passed.invariant.same c.requires.stand

pub after-at-requires-clause-there : goal.after-at-requires-clause-there
after-at-requires-clause-there c =
    let old = c.args.self.now in
    let s = entries old.core.slots in
    let i = c.loop-passed.invariant in
    let rows = rows_of (cache_of old.core) c.args.slot in
    let laws = c.standing_laws.ensures in
    let here = row_here laws.walked laws.sound old.core.slots (cache_words old) nothing_aside s c.requires.stand.alone.stand c.args.slot c.loop-passed._passed c.loop-passed.at rows (lists_are s (cache_of old.core) c.args.slot c.requires.stand.alone.whole) i.at c.if-at-eq0.false in
    subst (λ (core : Core). has_place c.loop-passed.at (listed (entries core.slots)) ≡ true) (sym i.same.core) here.in_listed

pub loop-passed-preserved : goal.loop-passed-preserved
loop-passed-preserved c =
    let old = c.args.self.now in
    let s = entries old.core.slots in
    let i = c.loop-passed.invariant in
    let at = c.loop-passed.at in
    let rows = rows_of (cache_of old.core) c.args.slot in
    let are = lists_are s (cache_of old.core) c.args.slot c.requires.stand.alone.whole in
    let laws = c.standing_laws.ensures in
    let here = row_here laws.walked laws.sound old.core.slots (cache_words old) nothing_aside s c.requires.stand.alone.stand c.args.slot c.loop-passed._passed at rows are i.at c.if-at-eq0.false in
    let n = c.after-at.ensures in
    let next = c.after-at.result in
    let chain = subst (λ (core : Core). FollowsInChain (entries core.slots) at next) i.same.core n.row in
    let removed = subst (λ (core : Core). FollowsIn (entries core.slots).removed at next) i.same.core n.removed in
    record {
      at = row_next laws.walked laws.sound old.core.slots (cache_words old) nothing_aside s c.requires.stand.alone.stand c.args.slot c.loop-passed._passed at rows are next chain removed here;
      low = omega (arith, c.loop-passed-test.true);
      same = record { core = n.same.core ∙ i.same.core; memory = n.same.memory ∙ i.same.memory; words = n.same.words ∙ i.same.words; aside = n.same.aside ∙ i.same.aside };
    }

pub returns-clause-same : goal.returns-clause-same
returns-clause-same c = c.loop-passed.invariant.same

pub returns-clause-place : goal.returns-clause-place
returns-clause-place c =
    let i = c.loop-passed.invariant in
    let all : c.loop-passed._passed ≡ c.args.skip = omega (arith, i.low, c.loop-passed-test.false) in
    i.at ∙ ap (λ (n : ℕ). first_place (drop n (rows_of (cache_of c.args.self.now.core) c.args.slot))) all
