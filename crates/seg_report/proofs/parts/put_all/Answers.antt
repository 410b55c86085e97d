use Rattle.std.proofs.Common.{◌∙◌, ◌++◌, ap, sym, refl, subst, arith, length, append-nil}
use Rattle.std.specs.Prelude.{nat_le, find, option_map}
use Rattle.sma_blocks.specs.declared.sma.Sma.{Sma}
use Rattle.sma_blocks.specs.Live.{free_runs_in}
use Rattle.entry_slots.specs.Standing.{entries}
use Rattle.seg_report.specs.PartWalks.{IsAtPart, WalksOn, pair_of}
use Rattle.seg_report.proofs.AppendedText.{extends_on, extends_same}
use Rattle.seg_report.proofs.CacheTiles.{starts, text_starts, text_ends, words_are}
use Rattle.seg_report.proofs.parts.put_all.Goals as goal

pub loop-at-init : goal.loop-at-init
loop-at-init g c =
    let ws = g.S.WordsIn.words c.args.seg.now in
    let s = entries c.args.slots.now in
    let at = c.slots-at.result in
    record {
      here = starts c.args.slots.now ws (g.S.WordsIn.aside c.args.seg.now) s c.requires.stand c.requires.whole at c.slots-at.ensures.slots c.gap_from-gap.result (c.gap_from-gap.ensures.value ∙ ap (λ (m : Sma). option_map pair_of (find (λ run. nat_le at run.place) (free_runs_in m.bounds ws))) c.sma.ensures);
      text = ap (λ l. c.args.out.now ++ l) (text_starts c.args.slots.now ws (g.S.WordsIn.aside c.args.seg.now) s c.requires.stand c.requires.whole at c.slots-at.ensures.slots);
      grown = extends_same c.args.out.now c.args.out.now refl;
      kept = c.gap_from-gap.ensures.kept;
    }

pub put_part-requires-clause-here : goal.put_part-requires-clause-here
put_part-requires-clause-here g c =
    let i = c.loop-at.invariant in
    subst (λ w. IsAtPart w (entries c.args.slots.now) c.args.slots.now.sma.bounds.from c.loop-at.at c.loop-at.gap) (sym i.kept.words) i.here

pub put_part-requires-clause-low : goal.put_part-requires-clause-low
put_part-requires-clause-low g c =
    let i = c.loop-at.invariant in
    let many = words_are c.args.slots.now (g.S.WordsIn.words c.args.seg.now) (g.S.WordsIn.aside c.args.seg.now) (entries c.args.slots.now) c.requires.stand c.requires.whole in
    omega (arith, c.loop-at-test.true, c.words-end.ensures.words, many, ap length i.kept.words)

pub overflow_add-at : goal.overflow_add-at
overflow_add-at g c =
    let i = c.loop-at.invariant in
    let ready = c.requires.stand.ready in
    omega (arith, c.in_ok-size.ensures.ok.end, ap length i.kept.words, ready.end, ready.short)

pub loop-at-smaller : goal.loop-at-smaller
loop-at-smaller g c =
    let i = c.loop-at.invariant in
    omega (arith, c.in_ok-size.ensures.ok.some, c.in_ok-size.ensures.ok.end, ap length i.kept.words)

pub loop-at-preserved : goal.loop-at-preserved
loop-at-preserved g c =
    let i = c.loop-at.invariant in
    let s = entries c.args.slots.now in
    let seen = c.in_ok-size.ensures.kept in
    let walk = subst (λ w. WalksOn w s c.args.slots.now.sma.bounds.from c.loop-at.at c.loop-at.out c.put_part.new.out c.in_ok-size.size c.in_ok-size.next) i.kept.words c.in_ok-size.ensures.ok in
    record {
      here = walk.next;
      text = walk.text ∙ i.text;
      grown = extends_on i.grown walk.grown;
      kept = record { words = seen.words ∙ i.kept.words; aside = seen.aside ∙ i.kept.aside; rest = seen.rest ∙ i.kept.rest };
    }

pub returns-clause-ok : goal.returns-clause-ok
returns-clause-ok g c =
    let i = c.loop-at.invariant in
    let none = text_ends c.args.slots.now (g.S.WordsIn.words c.args.seg.now) (g.S.WordsIn.aside c.args.seg.now) (entries c.args.slots.now) c.requires.stand c.requires.whole c.loop-at.at (omega (arith, c.loop-at-test.false, c.words-end.ensures.words)) in
    sym (append-nil c.loop-at.out) ∙ sym (ap (λ l. c.loop-at.out ++ l) none) ∙ i.text
