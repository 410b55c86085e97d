use Rattle.std.proofs.Common.{◌≡◌, true, length, sym, ap, subst}
use Rattle.std.proofs.lemmas.List.Elements.{Contains-append_left}
use Rattle.php_graph.specs.Size.{image_length}
use Rattle.entry_slots.specs.Entries.{listed}
use Rattle.entry_slots.specs.RowPlaces.{place_there}
use Rattle.entry_slots.specs.Lists.{has_place}
use Rattle.entry_slots.specs.Standing.{entries}
use Rattle.cache_core.proofs.cache.Core.scalar_at.Goals as goal

pub image_at-image-requires-clause-there : goal.image_at-image-requires-clause-there
image_at-image-requires-clause-there g c =
    let s = entries c.args.self.now.slots in
    let row = c.requires.there.0 in
    let is = c.requires.there.1 in
    subst (λ n. has_place n (listed s) ≡ true) is.place (place_there (listed s) row (Contains-append_left s.rows s.removed row is.there))

pub read_scalar-requires : goal.read_scalar-requires
read_scalar-requires g c =
    let s = entries c.args.self.now.slots in
    let row = c.requires.there.0 in
    let is = c.requires.there.1 in
    let image = c.image_at-image.ensures.image row (record { there = Contains-append_left s.rows s.removed row is.there; place = is.place }) (ap length (sym is.key_is)) in
    record { image = record { graph = row.graph; len = image_length row.graph; stands = image.stands; told = image.told } }

pub returns-clause-scalar : goal.returns-clause-scalar
returns-clause-scalar g c = λ row is.
    let s = entries c.args.self.now.slots in
    let image = c.image_at-image.ensures.image row (record { there = Contains-append_left s.rows s.removed row is.there; place = is.place }) (ap length (sym is.key_is)) in
    c.read_scalar.ensures.scalar row.graph (image_length row.graph) image.stands
