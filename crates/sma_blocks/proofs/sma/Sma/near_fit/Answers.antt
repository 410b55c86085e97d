use Rattle.std.proofs.Common.{◌∙◌, arith}
use Rattle.sma_blocks.proofs.ReadyWords.{ready_kept}
use Rattle.sma_blocks.proofs.FirstGaps.{near_inside, near_told, near_index, near_found, near_passed}
use Rattle.sma_blocks.proofs.sma.Sma.near_fit.Goals as goal

pub link_of-requires-clause-inside : goal.link_of-requires-clause-inside
link_of-requires-clause-inside g c =
    let kept = c.gaps.invariant.kept in
    near_inside (ready_kept kept.words kept.aside c.requires.ready) c.args.n c.gaps.before c.gaps.invariant.passed

pub link_of-requires-clause-told : goal.link_of-requires-clause-told
link_of-requires-clause-told g c =
    let kept = c.gaps.invariant.kept in
    near_told (ready_kept kept.words kept.aside c.requires.ready) c.args.n c.gaps.before c.gaps.invariant.passed

pub get-size-requires : goal.get-size-requires
get-size-requires g c =
    let kept = c.gaps.invariant.kept in
    near_index (ready_kept kept.words kept.aside c.requires.ready) c.args.n c.gaps.before c.gaps.invariant.passed c.link_of.result c.link_of.ensures.link c.requires.size c.if-self-n.false

pub returns-then-size-n-clause-fit : goal.returns-then-size-n-clause-fit
returns-then-size-n-clause-fit g c =
    let kept = c.gaps.invariant.kept in
    let ready = ready_kept kept.words kept.aside c.requires.ready in
    near_found ready c.args.n c.gaps.before c.gaps.invariant.passed c.link_of.result c.link_of.ensures.link c.get-size.result c.get-size.ensures (λ e. omega (arith, c.if-size-n.true, c.requires.size)) c.requires.size c.if-size-n.true
    (near_index ready c.args.n c.gaps.before c.gaps.invariant.passed c.link_of.result c.link_of.ensures.link c.requires.size c.if-self-n.false)

pub gaps-preserved : goal.gaps-preserved
gaps-preserved g c =
    let kept = c.gaps.invariant.kept in
    let more = c.link_of.ensures.kept in
    record {
      passed = near_passed (ready_kept kept.words kept.aside c.requires.ready) c.args.n c.gaps.before c.gaps.invariant.passed c.link_of.result c.link_of.ensures.link c.get-size.result c.get-size.ensures c.if-size-eq0.false c.if-size-n.false;
      kept = record { words = more.words ∙ kept.words; aside = more.aside ∙ kept.aside; rest = more.rest ∙ kept.rest };
    }
