use Rattle.std.proofs.Common.{◌≡◌, ◌∙◌, ℕ, ◌+◌, ◌-◌, ◌<◌, ◌≤◌, List, length, drop, refl, sym, ap, subst, arith}
use Rattle.std.proofs.lemmas.List.{length-take, length-drop}
use borrow.Rule.Slice.PartMut.{put_mid, mid_of, same_len_mid}
use Rattle.cache_core.specs.declared.cache.Core.{Core}
use Rattle.cache_core.specs.CoreCache.{cache_of}
use Rattle.cache_c.specs.Standing.{cache_words}
use Rattle.cache_c.specs.Told.{IsWholeList, AreListsBy, rows_of, rows_from}
use Rattle.cache_c.proofs.Standing.{stands_kept}
use Rattle.cache_c.proofs.WholeLists.{rows_more, lists_more, lists_kept}
use Rattle.cache_c.proofs.cache.Cache.list_slots.Goals as goal

pub loop-slot-init : goal.loop-slot-init
loop-slot-init c =
    let none : c.args.from - c.args.from ≡ 0 = omega arith in
    record {
      lists = λ i low. absurd (omega (arith, low));
      count = sym (ap (λ (n : ℕ). rows_from (cache_of c.args.self.now.core) c.args.from n) none);
      fits = omega arith;
      len = refl;
      low = omega arith;
      high = omega arith;
      same = record { core = refl; memory = refl; words = refl; aside = refl };
    }

pub list_whole-requires : goal.list_whole-requires
list_whole-requires c = record { stand = stands_kept c.loop-slot.invariant.same c.requires.stand }

pub returns-in_default-clause-lists : goal.returns-in_default-clause-lists
returns-in_default-clause-lists c =
    let old = c.args.self.now in
    let cache = cache_of old.core in
    let inv = c.loop-slot.invariant in
    let slot = c.loop-slot.slot in
    let n = c.loop-slot.count in
    let out = c.loop-slot.out in
    let ys = c.list_whole.new.out in
    let k : ℕ = length out - n in
    let few = subst (λ (core : Core). length (mid_of n k out) < length (rows_of (cache_of core) slot)) inv.same.core c.in_default.ensures.none in
    let mid = length-take k (drop n out) in
    let left = length-drop n out in
    subst (λ (ws : List ℕ). AreListsBy ws cache c.args.from c.args.to c.args.out.now (put_mid n k out ys) (record { next = slot; count = n })) (sym (c.list_whole.ensures.same.words ∙ inv.same.words)) (record {
      lists = lists_kept (cache_words old) cache n k out ys inv.fits c.list_whole.ensures.len c.args.from slot inv.count inv.lists;
      count = inv.count;
      fits = omega (arith, inv.fits, inv.len);
      low = λ _. inv.low;
      high = omega (arith, c.loop-slot-test.true);
      full = λ _. omega (arith, few, mid, left, inv.fits, inv.len);
    })

pub loop-slot-preserved : goal.loop-slot-preserved
loop-slot-preserved c =
    let old = c.args.self.now in
    let cache = cache_of old.core in
    let inv = c.loop-slot.invariant in
    let slot = c.loop-slot.slot in
    let n = c.loop-slot.count in
    let out = c.loop-slot.out in
    let ys = c.list_whole.new.out in
    let k : ℕ = length out - n in
    let more = c.in-Some.more in
    let same = c.list_whole.ensures.same in
    let now = subst (λ (core : Core). IsWholeList (cache_words old) (cache_of core) slot ys more) inv.same.core (subst (λ (ws : List ℕ). IsWholeList ws (cache_of c.loop-slot.self.core) slot ys more) (same.words ∙ inv.same.words) c.in-Some.ensures.all) in
    let mid = length-take k (drop n out) in
    let left = length-drop n out in
    let long = same_len_mid n k out ys c.list_whole.ensures.len in
    record {
      lists = lists_more (cache_words old) cache n k out ys inv.fits c.list_whole.ensures.len c.args.from slot inv.low inv.count (omega arith) inv.lists more now;
      count = omega (arith, inv.count, now.all, rows_more cache c.args.from slot inv.low);
      fits = omega (arith, now.rows.count, c.list_whole.ensures.len, mid, left, inv.fits, long);
      len = long ∙ inv.len;
      low = omega (arith, inv.low);
      high = omega (arith, inv.low, inv.high, c.loop-slot-test.true);
      same = record { core = same.core ∙ inv.same.core; memory = same.memory ∙ inv.same.memory; words = same.words ∙ inv.same.words; aside = same.aside ∙ inv.same.aside };
    }
