use Rattle.std.proofs.Common.{◌≡◌, ◌+◌, ◌<◌, true, length, sym, ap, subst}
use Rattle.std.specs.Prelude.{option_map}
use Rattle.std.proofs.lemmas.List.Elements.{Contains-append_left}
use Rattle.seg_words.specs.Windows.{Aside}
use Rattle.seg_words.specs.Blocks.{IsTold}
use Rattle.value_image.specs.Image.{IsImageOf}
use Rattle.apcu_model.specs.Cache.{Row}
use Rattle.entry_slots.specs.Entries.{IsListed, listed}
use Rattle.entry_slots.specs.RowPlaces.{place_there}
use Rattle.entry_slots.specs.Lists.{has_place}
use Rattle.entry_slots.specs.Standing.{entries}
use Rattle.cache_core.proofs.ReadOnlyCalls.{stand_kept}
use Rattle.cache_core.proofs.cache.Core.copy_live.Goals as goal

pub returns-in_default-clause-found : goal.returns-in_default-clause-found
returns-in_default-clause-found g c = ap (option_map (λ (row : Row). (row.place, row.graph))) (sym c.in_default.ensures.none)

pub image_at-image-requires-clause-stand : goal.image_at-image-requires-clause-stand
image_at-image-requires-clause-stand g c = stand_kept c.args.self.now.slots c.find_live.ensures.kept c.requires.stand.stand

pub image_at-image-requires-clause-there : goal.image_at-image-requires-clause-there
image_at-image-requires-clause-there g c =
    let s = entries c.args.self.now.slots in
    let f = c.in-Some.ensures.found in
    subst (λ n. has_place n (listed s) ≡ true) f.is_row.place (place_there (listed s) f.row (Contains-append_left s.rows s.removed f.row f.is_row.there))

pub image_len-len-requires-clause-stand : goal.image_len-len-requires-clause-stand
image_len-len-requires-clause-stand g c = stand_kept c.args.self.now.slots c.find_live.ensures.kept c.requires.stand.stand

pub image_len-len-requires-clause-there : goal.image_len-len-requires-clause-there
image_len-len-requires-clause-there g c =
    let s = entries c.args.self.now.slots in
    let f = c.in-Some.ensures.found in
    subst (λ n. has_place n (listed s) ≡ true) f.is_row.place (place_there (listed s) f.row (Contains-append_left s.rows s.removed f.row f.is_row.there))

pub unpersist-value-requires-clause-image : goal.unpersist-value-requires-clause-image
unpersist-value-requires-clause-image g c =
    let s = entries c.args.self.now.slots in
    let f = c.in-Some.ensures.found in
    let is : IsListed s c.in-Some.at f.row = record { there = Contains-append_left s.rows s.removed f.row f.is_row.there; place = f.is_row.place } in
    let image = c.image_at-image.ensures.image f.row is (ap length (sym f.is_row.key_is)) in
    let stands = subst (λ n. IsImageOf (g.S.WordsIn.words c.find_live.new.seg) c.image_at-image.result n f.row.graph) (sym (c.image_len-len.ensures.len f.row is)) image.stands in
    (f.row.graph, subst (λ ws. IsImageOf ws c.image_at-image.result c.image_len-len.result f.row.graph) (sym c.image_len-len.ensures.kept.words) stands)

pub unpersist-value-requires-clause-told : goal.unpersist-value-requires-clause-told
unpersist-value-requires-clause-told g c = λ i low high.
    let s = entries c.args.self.now.slots in
    let f = c.in-Some.ensures.found in
    let is : IsListed s c.in-Some.at f.row = record { there = Contains-append_left s.rows s.removed f.row f.is_row.there; place = f.is_row.place } in
    let image = c.image_at-image.ensures.image f.row is (ap length (sym f.is_row.key_is)) in
    let inside = subst (λ n. i < c.image_at-image.result + n) (c.image_len-len.ensures.len f.row is) high in
    subst (λ (a : Aside). IsTold a.windows i) (sym c.image_len-len.ensures.kept.aside) (image.told i low inside)

pub slot_of_key-slot-requires : goal.slot_of_key-slot-requires
slot_of_key-slot-requires g c = record { stand = record { words = g.S.WordsIn.words c.args.seg.now; aside = g.S.WordsIn.aside c.args.seg.now; stand = c.requires.stand } }
