use Rattle.std.proofs.Common.{◌≡◌, ◌∙◌, ℕ, ◌+◌, ◌<◌, ◌≤◌, true, List, ◌∷◌, length, take, drop, refl, sym, ap, subst, arith}
use Rattle.std.proofs.lemmas.List.{drop-set-lt, length-set}
use Rattle.seg_words.specs.Windows.{nothing_aside}
use Rattle.entry_slots.specs.Lists.{has_place, first_place, FollowsIn}
use Rattle.entry_slots.specs.Entries.{listed, IsListed, FollowsInChain}
use Rattle.entry_slots.specs.Standing.{entries}
use Rattle.cache_core.specs.declared.cache.Core.{Core}
use Rattle.cache_core.specs.CoreCache.{cache_of}
use Rattle.cache_c.specs.Standing.{cache_words}
use Rattle.cache_c.specs.Told.{rows_of, IsRowBy, AreRowsBy, AreListedBy}
use Rattle.cache_c.proofs.Standing.{stands_kept}
use Rattle.cache_c.proofs.RowLists.{lists_are, row_here, row_end, row_next, none_left, left_low, told_more, drop_more}
use Rattle.cache_c.proofs.cache.Cache.list_rows.Goals as goal

pub loop-i-init : goal.loop-i-init
loop-i-init c = record { at = c.skipped-at.ensures.place; told = tt; others = refl; low = omega arith; len = refl; same = c.skipped-at.ensures.same }

pub returns-then-at-eq0-clause-same : goal.returns-then-at-eq0-clause-same
returns-then-at-eq0-clause-same c = c.loop-i.invariant.same

pub returns-then-at-eq0-clause-rows : goal.returns-then-at-eq0-clause-rows
returns-then-at-eq0-clause-rows c =
    let old = c.args.self.now in
    let s = entries old.core.slots in
    let inv = c.loop-i.invariant in
    let i = c.loop-i.i in
    let all = rows_of (cache_of old.core) c.args.slot in
    let rows = drop c.args.skip all in
    let laws = c.standing_laws.ensures in
    let none = row_end laws.walked laws.sound old.core.slots (cache_words old) nothing_aside s c.requires.stand.alone.stand c.args.slot (c.args.skip + i) c.loop-i.at all (lists_are s (cache_of old.core) c.args.slot c.requires.stand.alone.whole)
    (sym c.if-at-eq0.true ∙ inv.at ∙ ap first_place (drop_more i c.args.skip all)) in
    let over : length rows ≤ i = none_left rows i (drop_more i c.args.skip all ∙ none) in
    record {
      count = omega (arith, over, inv.low, inv.len, c.loop-i-test.true);
      rows = subst (λ (ws : List ℕ). AreRowsBy ws c.args.slot (take i rows) (take i c.loop-i.out)) (sym inv.same.words) inv.told;
      others = inv.others;
    }

pub row-requires-clause-stand : goal.row-requires-clause-stand
row-requires-clause-stand c = stands_kept c.loop-i.invariant.same c.requires.stand

pub row-requires-clause-there : goal.row-requires-clause-there
row-requires-clause-there c =
    let old = c.args.self.now in
    let s = entries old.core.slots in
    let inv = c.loop-i.invariant in
    let i = c.loop-i.i in
    let all = rows_of (cache_of old.core) c.args.slot in
    let laws = c.standing_laws.ensures in
    let here = row_here laws.walked laws.sound old.core.slots (cache_words old) nothing_aside s c.requires.stand.alone.stand c.args.slot (c.args.skip + i) c.loop-i.at all (lists_are s (cache_of old.core) c.args.slot c.requires.stand.alone.whole)
    (inv.at ∙ ap first_place (drop_more i c.args.skip all)) c.if-at-eq0.false in
    subst (λ (core : Core). has_place c.loop-i.at (listed (entries core.slots)) ≡ true) (sym inv.same.core) here.in_listed

pub after-at-requires-clause-stand : goal.after-at-requires-clause-stand
after-at-requires-clause-stand c = stands_kept c.row.ensures.same (stands_kept c.loop-i.invariant.same c.requires.stand)

pub after-at-requires-clause-there : goal.after-at-requires-clause-there
after-at-requires-clause-there c =
    let old = c.args.self.now in
    let s = entries old.core.slots in
    let inv = c.loop-i.invariant in
    let i = c.loop-i.i in
    let all = rows_of (cache_of old.core) c.args.slot in
    let laws = c.standing_laws.ensures in
    let here = row_here laws.walked laws.sound old.core.slots (cache_words old) nothing_aside s c.requires.stand.alone.stand c.args.slot (c.args.skip + i) c.loop-i.at all (lists_are s (cache_of old.core) c.args.slot c.requires.stand.alone.whole)
    (inv.at ∙ ap first_place (drop_more i c.args.skip all)) c.if-at-eq0.false in
    subst (λ (core : Core). has_place c.loop-i.at (listed (entries core.slots)) ≡ true) (sym (c.row.ensures.same.core ∙ inv.same.core)) here.in_listed

pub loop-i-preserved : goal.loop-i-preserved
loop-i-preserved c =
    let old = c.args.self.now in
    let s = entries old.core.slots in
    let inv = c.loop-i.invariant in
    let i = c.loop-i.i in
    let at = c.loop-i.at in
    let out = c.loop-i.out in
    let t = c.row.result in
    let all = rows_of (cache_of old.core) c.args.slot in
    let rows = drop c.args.skip all in
    let are = lists_are s (cache_of old.core) c.args.slot c.requires.stand.alone.whole in
    let laws = c.standing_laws.ensures in
    let here = row_here laws.walked laws.sound old.core.slots (cache_words old) nothing_aside s c.requires.stand.alone.stand c.args.slot (c.args.skip + i) at all are
    (inv.at ∙ ap first_place (drop_more i c.args.skip all)) c.if-at-eq0.false in
    let row = here.left.row in
    let rest = drop (c.args.skip + i + 1) all in
    let left : drop i rows ≡ row ∷ rest = drop_more i c.args.skip all ∙ here.left.left in
    let low : i < length out = omega (arith, inv.len, c.loop-i-test.true) in
    let told = c.row.ensures.told row (subst (λ (core : Core). IsListed (entries core.slots) at row) (sym inv.same.core) here.member) in
    let is : IsRowBy (cache_words old) c.args.slot row t = subst (λ (ws : List ℕ). IsRowBy ws c.args.slot row t) (c.row.ensures.same.words ∙ inv.same.words) told in
    let core = c.row.ensures.same.core ∙ inv.same.core in
    let next = c.after-at.result in
    let chain = subst (λ (x : Core). FollowsInChain (entries x.slots) at next) core c.after-at.ensures.row in
    let removed = subst (λ (x : Core). FollowsIn (entries x.slots).removed at next) core c.after-at.ensures.removed in
    let follows = row_next laws.walked laws.sound old.core.slots (cache_words old) nothing_aside s c.requires.stand.alone.stand c.args.slot (c.args.skip + i) at all are next chain removed here in
    let one : c.args.skip + i + 1 ≡ c.args.skip + (i + 1) = omega arith in
    record {
      at = follows ∙ ap (λ k. first_place (drop k all)) one ∙ sym (ap first_place (drop_more (i + 1) c.args.skip all));
      told = told_more (cache_words old) c.args.slot rows out i row rest t left low inv.told is;
      others = drop-set-lt (i + 1) out i t (omega arith) ∙ sym (drop_more 1 i out) ∙ ap (drop 1) inv.others ∙ drop_more 1 i c.args.out.now;
      low = left_low rows i row rest left;
      len = length-set out i t ∙ inv.len;
      same = record { core = c.after-at.ensures.same.core ∙ core; memory = c.after-at.ensures.same.memory ∙ c.row.ensures.same.memory ∙ inv.same.memory; words = c.after-at.ensures.same.words ∙ c.row.ensures.same.words ∙ inv.same.words; aside = c.after-at.ensures.same.aside ∙ c.row.ensures.same.aside ∙ inv.same.aside };
    }

pub returns-clause-same : goal.returns-clause-same
returns-clause-same c = c.loop-i.invariant.same

pub returns-clause-rows : goal.returns-clause-rows
returns-clause-rows c =
    let old = c.args.self.now in
    let inv = c.loop-i.invariant in
    let rows = drop c.args.skip (rows_of (cache_of old.core) c.args.slot) in
    let all : c.loop-i.i ≡ length c.loop-i.out = omega (arith, inv.len, c.loop-i-test.false) in
    let Told = λ (n : ℕ). AreListedBy (cache_words c.loop-i.self) c.args.slot rows c.args.out.now c.loop-i.out n in
    subst Told all (record {
      count = omega (arith, inv.low, inv.len, c.loop-i-test.false);
      rows = subst (λ (ws : List ℕ). AreRowsBy ws c.args.slot (take c.loop-i.i rows) (take c.loop-i.i c.loop-i.out)) (sym inv.same.words) inv.told;
      others = inv.others;
    })
