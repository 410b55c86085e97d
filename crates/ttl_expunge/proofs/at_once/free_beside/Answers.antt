use Rattle.std.proofs.Common.{◌≡◌, sym, ◌∙◌, subst, List, ℕ}
use Rattle.std.specs.List.Sorted.{IsPermutation}
use Rattle.entry_slots.specs.Standing.{entries}
use Rattle.ttl_expunge.proofs.RemovedPlaces.{places_rise, places_same}
use Rattle.ttl_expunge.proofs.at_once.free_beside.Goals as goal

pub free_rows_beside-requires-clause-kept : goal.free_rows_beside-requires-clause-kept
free_rows_beside-requires-clause-kept g c =
    places_same (entries c.args.slots.now).removed c.sort_unstable.new.self (subst (λ (l : List ℕ). IsPermutation l c.sort_unstable.new.self) c.requires.places c.sort_unstable.ensures.permutation)

pub free_rows_beside-requires-clause-rising : goal.free_rows_beside-requires-clause-rising
free_rows_beside-requires-clause-rising g c =
    let sound = c.standing_laws.ensures.sound c.args.slots.now (g.S.WordsIn.words c.args.seg.now) (g.S.WordsIn.aside c.args.seg.now) (entries c.args.slots.now) c.requires.stand in
    places_rise c.sort_unstable.new.self sound (subst (λ (l : List ℕ). IsPermutation l c.sort_unstable.new.self) c.requires.places c.sort_unstable.ensures.permutation) c.sort_unstable.ensures.sorted
