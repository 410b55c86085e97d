use Rattle.std.proofs.Common.{◌≡◌, ◌∙◌, ℕ, ◌+◌, ◌-◌, ◌<◌, List, ◌++◌, length, map, take, drop, refl, sym, ap, subst, arith}
use Rattle.std.specs.Prelude.{nat_le, find, option_map}
use Rattle.std.proofs.lemmas.List.{drop-set-lt, length-set, length-take-le}
use Rattle.seg_words.specs.declared.gaps.Extent.{Extent}
use Rattle.apcu_model.specs.Conf.{IsUsable, piece_of}
use Rattle.apcu_model.specs.Cache.{extent_of}
use Rattle.apcu_model.specs.Infos.{gaps_of}
use Rattle.entry_slots.specs.Entries.{Entries}
use Rattle.cache_core.specs.declared.cache.Core.{Core}
use Rattle.cache_core.specs.CoreCache.{cache_of}
use Rattle.cache_info.proofs.GapRuns.{left_from, pair_of, gap_found, gap_none, gaps_behind}
use Rattle.cache_c.specs.Told.{gap_told, gaps_from, AreGapsBy}
use Rattle.cache_c.proofs.Standing.{stands_kept}
use Rattle.cache_c.proofs.RowLists.{drop_more}
use Rattle.cache_c.proofs.ToldGaps.{prefix_told, prefix_length, gap_more}
use Rattle.cache_c.proofs.cache.Cache.list_gaps.Goals as goal

pub loop-i-init : goal.loop-i-init
loop-i-init c = record { gaps = refl; others = refl; len = refl; low = omega arith; same = record { core = refl; memory = refl; words = refl; aside = refl } }

pub gap-requires : goal.gap-requires
gap-requires c = record { stand = stands_kept c.loop-i.invariant.same c.requires.stand }

pub returns-in_default-clause-same : goal.returns-in_default-clause-same
returns-in_default-clause-same c =
    let inv = c.loop-i.invariant in
    record { core = c.gap.ensures.same.core ∙ inv.same.core; memory = c.gap.ensures.same.memory ∙ inv.same.memory; words = c.gap.ensures.same.words ∙ inv.same.words; aside = c.gap.ensures.same.aside ∙ inv.same.aside }

pub returns-in_default-clause-gaps : goal.returns-in_default-clause-gaps
returns-in_default-clause-gaps c =
    let all = cache_of c.args.self.now.core in
    let gaps = gaps_of all in
    let inv = c.loop-i.invariant in
    let i = c.loop-i.i in
    let out = c.loop-i.out in
    let from = c.loop-i.from in
    let told = sym c.in_default.is ∙ c.gap.ensures.gap ∙ ap (λ (x : Core). option_map pair_of (find (λ run. nat_le from run.place) (gaps_of (cache_of x)))) inv.same.core in
    let none = gap_none from gaps told in
    let rest = map gap_told (left_from from gaps) in
    let few = length-take-le i out inv.low in
    let count = prefix_length (take i out) rest (gaps_from c.args.from gaps) inv.gaps in
    let empty : length rest ≡ 0 = ap (λ (l : List Extent). length (map gap_told l)) none in
    record {
      count = omega (arith, few, count, empty, inv.len, c.loop-i-test.true);
      gaps = prefix_told (take i out) rest (gaps_from c.args.from gaps) inv.gaps ∙ ap (λ n. map gap_told (take n (gaps_from c.args.from gaps))) few;
      others = inv.others;
    }

pub overflow_add-from : goal.overflow_add-from
overflow_add-from c =
    let all = cache_of c.args.self.now.core in
    let gaps = gaps_of all in
    let from = c.loop-i.from in
    let end = all.conf.slots + (all.conf.words - all.conf.slots) in
    let told = sym c.in-Some.is ∙ c.gap.ensures.gap ∙ ap (λ (x : Core). option_map pair_of (find (λ run. nat_le from run.place) (gaps_of (cache_of x)))) c.loop-i.invariant.same.core in
    let next = gap_found from all.conf.slots end gaps (gaps_behind all.conf.slots all.conf.words (piece_of all.conf) (map extent_of (all.rows ++ all.removed))) (record { place = c.in-Some.place; size = c.in-Some.size }) told in
    let usable : IsUsable all.conf = subst IsUsable (ap (λ (x : Entries). x.conf) c.requires.stand.alone.whole) c.requires.stand.alone.stand.usable in
    omega (arith, next.end, usable.words_most, usable.slots_most)

pub loop-i-preserved : goal.loop-i-preserved
loop-i-preserved c =
    let all = cache_of c.args.self.now.core in
    let gaps = gaps_of all in
    let inv = c.loop-i.invariant in
    let i = c.loop-i.i in
    let out = c.loop-i.out in
    let from = c.loop-i.from in
    let gap : Extent = record { place = c.in-Some.place; size = c.in-Some.size } in
    let end = all.conf.slots + (all.conf.words - all.conf.slots) in
    let told = sym c.in-Some.is ∙ c.gap.ensures.gap ∙ ap (λ (x : Core). option_map pair_of (find (λ run. nat_le from run.place) (gaps_of (cache_of x)))) inv.same.core in
    let next = gap_found from all.conf.slots end gaps (gaps_behind all.conf.slots all.conf.words (piece_of all.conf) (map extent_of (all.rows ++ all.removed))) gap told in
    let low : i < length out = omega (arith, inv.len, c.loop-i-test.true) in
    record {
      gaps = gap_more out i from gap gaps (map gap_told (left_from c.args.from gaps)) low next.left inv.gaps;
      others = drop-set-lt (i + 1) out i (gap_told gap) (omega arith) ∙ sym (drop_more 1 i out) ∙ ap (drop 1) inv.others ∙ drop_more 1 i c.args.out.now;
      len = length-set out i (gap_told gap) ∙ inv.len;
      low = omega (arith, low, length-set out i (gap_told gap));
      same = record { core = c.gap.ensures.same.core ∙ inv.same.core; memory = c.gap.ensures.same.memory ∙ inv.same.memory; words = c.gap.ensures.same.words ∙ inv.same.words; aside = c.gap.ensures.same.aside ∙ inv.same.aside };
    }

pub returns-clause-same : goal.returns-clause-same
returns-clause-same c = c.loop-i.invariant.same

pub returns-clause-gaps : goal.returns-clause-gaps
returns-clause-gaps c =
    let gaps = gaps_of (cache_of c.args.self.now.core) in
    let inv = c.loop-i.invariant in
    let i = c.loop-i.i in
    let out = c.loop-i.out in
    let asked = gaps_from c.args.from gaps in
    let rest = map gap_told (left_from c.loop-i.from gaps) in
    let few = length-take-le i out inv.low in
    let count = prefix_length (take i out) rest asked inv.gaps in
    let all : i ≡ length out = omega (arith, inv.low, inv.len, c.loop-i-test.false) in
    subst (λ (n : ℕ). AreGapsBy asked c.args.out.now out n) all (record {
      count = omega (arith, few, count, inv.len, all);
      gaps = prefix_told (take i out) rest asked inv.gaps ∙ ap (λ n. map gap_told (take n asked)) few;
      others = inv.others;
    })
