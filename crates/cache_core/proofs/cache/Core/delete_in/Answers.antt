use Rattle.std.proofs.Common.{◌≡◌, ◌∙◌, Bool, true, filter, refl, sym, ap, subst}
use Rattle.std.specs.Prelude.{is_some, if◌then◌else◌}
use Rattle.seg_words.specs.Windows.{Aside}
use Rattle.seg_words.specs.Probing.{Goes, goes_nowhere}
use Rattle.apcu_model.specs.declared.request.Reply.TheVariants as reply
use Rattle.apcu_model.specs.Cache.{has_key}
use Rattle.apcu_model.specs.Change.{dropped}
use Rattle.entry_slots.specs.Lists.{has_place, is_at, only_at}
use Rattle.entry_slots.specs.Standing.{entries}
use Rattle.cache_core.specs.declared.cache.Core.{Core}
use Rattle.cache_core.specs.CoreCache.{cache_of}
use Rattle.entry_slots.specs.RowPlaces.{place_there}
use Rattle.seg_words.specs.Members.{Contains-filter}
use Rattle.std.proofs.lemmas.Bool.{false≢true}
use Rattle.cache_core.specs.Events.{IsUnchanged}
use Rattle.ttl_expunge.proofs.EventSteps.{may_kept}
use Rattle.cache_core.proofs.Events.{does_nothing}
use Rattle.cache_core.proofs.LiveRows.{old_found}
use Rattle.cache_core.proofs.KeyRows.{core_deleted}
use Rattle.cache_core.proofs.cache.Core.delete_in.Goals as goal

pub drop_row_at-requires-clause-ready : goal.drop_row_at-requires-clause-ready
drop_row_at-requires-clause-ready g c =
    may_kept c.args.self.now.slots c.find_spot.ensures.kept (record { stand = c.requires.ready.stand.stand; refused = c.requires.ready.refused })

pub drop_row_at-requires-clause-spot : goal.drop_row_at-requires-clause-spot
drop_row_at-requires-clause-spot g c = (c.args.t, c.in-Some.ensures.spot)

pub drop_row_at-requires-clause-there : goal.drop_row_at-requires-clause-there
drop_row_at-requires-clause-there g c =
    let f = c.in-Some.ensures.found in
    subst (λ n. has_place n (entries c.args.self.now.slots).rows ≡ true) f.is_row.place (place_there (entries c.args.self.now.slots).rows f.row f.is_row.there)

pub returns-in_default : goal.returns-in_default
returns-in_default g c =
    let old = cache_of c.args.self.now in
    let none = sym (ap is_some c.in_default.ensures.none) in
    let same : IsUnchanged g.S.WordsIn c.args.self.now c.args.self.now c.args.seg.now c.find_spot.new.seg = record { core = refl; kept = c.find_spot.ensures.kept } in
    record {
      does = does_nothing same c.requires.ready.stand (λ held. ap reply.Flag none) (λ held. ap (λ (b : Bool). if b then dropped held c.args.t (filter (has_key c.args.key.now) old.rows) old else old) none);
      none = λ none. same;
    }

pub returns : goal.returns
returns g c =
    let core = c.args.self.now in
    let new : Core = record core { slots = c.drop_row_at.new.slots } in
    let s = entries core.slots in
    let f = c.in-Some.ensures.found in
    let at = c.in-Some.spot.at in
    let laws = c.lower_laws.ensures in
    let drops = c.drop_row_at.ensures.drops in
    let begun = g.S.WordsIn.aside c.args.seg.now in
    let now = g.S.WordsIn.aside c.drop_row_at.new.seg in
    let sound = laws.standing.sound core.slots (g.S.WordsIn.words c.args.seg.now) begun s c.requires.ready.stand.stand in
    let made = core_deleted laws core new c.args.key.now c.args.t at c.requires.ready.stand.whole (old_found f refl sound) sound drops refl refl (ap is_some f.live) in
    record {
      does = record {
        reply = λ later on. ap reply.Flag (sym (ap is_some f.live));
        cache = λ later on. (made later on).0;
        step = record {
          goes = subst (λ (a : Aside). Goes a now) c.find_spot.ensures.kept.aside drops.goes;
          keeps = laws.drops.keeps s (entries c.drop_row_at.new.slots) (g.S.WordsIn.words c.args.seg.now) begun.windows (g.S.WordsIn.aside c.find_spot.new.seg) now c.args.t (only_at at s.rows) sound
              (λ row m. (Contains-filter (is_at at) s.rows row m).0) drops;
          refused = λ was. drops.refused;
          stand = record { stand = c.drop_row_at.ensures.stand; whole = (made now (goes_nowhere now now refl)).1 };
          rest = c.drop_row_at.ensures.rest ∙ c.find_spot.ensures.kept.rest;
        };
      };
      none = λ none. absurd (false≢true (sym none));
    }
