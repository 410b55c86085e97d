use Rattle.std.proofs.Common.{◌≡◌, ◌+◌, arith, Some}
use Rattle.php_graph.specs.Graph.{kind_at, end_of}
use Rattle.php_graph.proofs.DraftLemmas.{IsPlace, place_is, kind_from}
use Rattle.php_graph.proofs.PartEnds.{leads_first, leads_kind, leads_on, leads_end}
use Rattle.php_graph.proofs.PartLemmas.{IsEnd, end_is}
use Rattle.php_graph.specs.PlaceOffsets.{kinds_of}
use Rattle.php_graph.proofs.graph.end_of.Goals as goal
use Rattle.php_graph.proofs.graph.end_of.Goals.{At-loop-last, After-last_own, In_default}

pub loop-last-init : goal.loop-last-init
loop-last-init c = leads_first (kinds_of c.args.places.now) c.args.k c.requires.graph c.requires.from_one c.requires.there

place : (c : At-loop-last) → IsPlace (kinds_of c.args.places.now) c.loop-last.place
place c = let k = leads_kind (kinds_of c.args.places.now) c.args.k c.loop-last.place c.loop-last.invariant in place_is (kinds_of c.args.places.now) c.loop-last.place k.0 k.1

pub overflow_sub-place : goal.overflow_sub-place
overflow_sub-place c = (place (goal.at.overflow_sub-place c).At-loop-last).low

pub kind-requires : goal.kind-requires
kind-requires c = let p = place (goal.at.kind-requires c).At-loop-last in omega (arith, p.low, p.high)

-- what stands at the place
kind_there : (c : After-last_own) → kind_at (kinds_of c.args.places.now) c.loop-last.place ≡ Some c.kind.result.now
kind_there c =
    let k = leads_kind (kinds_of c.args.places.now) c.args.k c.loop-last.place c.loop-last.invariant in
    let low = (place_is (kinds_of c.args.places.now) c.loop-last.place k.0 k.1).low in
    kind_from (kinds_of c.args.places.now) c.loop-last.place c.kind.result.now low c.kind.ensures

pub loop-last-preserved : goal.loop-last-preserved
loop-last-preserved c = (leads_on (kinds_of c.args.places.now) c.args.k c.loop-last.place c.in-Some.last c.kind.result.now c.loop-last.invariant (kind_there (goal.at.loop-last-preserved c).After-last_own) c.in-Some.ensures).0

pub loop-last-smaller : goal.loop-last-smaller
loop-last-smaller c =
    let on = leads_on (kinds_of c.args.places.now) c.args.k c.loop-last.place c.in-Some.last c.kind.result.now c.loop-last.invariant (kind_there (goal.at.loop-last-smaller c).After-last_own) c.in-Some.ensures in
    let p = place (goal.at.loop-last-smaller c).At-loop-last in
    omega (arith, on.1, p.high)

pub overflow_add-result : goal.overflow_add-result
overflow_add-result c = let p = place (goal.at.overflow_add-result c).At-loop-last in omega (arith, p.high, c.requires.graph.count)

whole : (c : In_default) → kind_at (kinds_of c.args.places.now) c.loop-last.place ≡ Some c.kind.result.now → end_of (kinds_of c.args.places.now) c.args.k ≡ Some (c.loop-last.place + 1)
whole c there = leads_end (kinds_of c.args.places.now) c.args.k c.loop-last.place c.kind.result.now c.loop-last.invariant there c.in_default.ensures

bounds : (c : In_default) → kind_at (kinds_of c.args.places.now) c.loop-last.place ≡ Some c.kind.result.now → IsEnd (kinds_of c.args.places.now) c.args.k (c.loop-last.place + 1)
bounds c there = end_is (kinds_of c.args.places.now) c.args.k (c.loop-last.place + 1) c.requires.graph c.requires.from_one c.requires.there (whole c there)

pub returns-clause-end : goal.returns-clause-end
returns-clause-end c = whole c (kind_there (goal.at.returns-clause-end c).After-last_own)

pub returns-clause-after : goal.returns-clause-after
returns-clause-after c = (bounds c (kind_there (goal.at.returns-clause-after c).After-last_own)).after

pub returns-clause-within : goal.returns-clause-within
returns-clause-within c = (bounds c (kind_there (goal.at.returns-clause-within c).After-last_own)).within
