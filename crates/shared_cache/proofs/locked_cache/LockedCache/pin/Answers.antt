use Rattle.std.proofs.Common.{length, sym, subst, refl}
use Rattle.apcu_model.specs.declared.request.Request.TheVariants as request
use Rattle.apcu_model.specs.declared.request.Reply.{Reply}
use Rattle.cache_core.specs.CoreCache.{cache_of}
use Rattle.pin_table.specs.Views.{aside_of}
use Rattle.shared_cache.specs.Follows.{Follows}
use Rattle.shared_cache.proofs.UnderLockLemmas.{at_work, roomy}
use Rattle.shared_cache.proofs.EventProgress.{works_of}
use Rattle.shared_cache.proofs.Fetches.{looked, miss_of, scalar_found, hit_of, used_in, may_pin}
use Rattle.shared_cache.proofs.CopyEvents.{Copies}
use Rattle.shared_cache.proofs.CopyEvents as copies
use Rattle.shared_cache.proofs.locked_cache.LockedCache.pin.Goals as goal
use Rattle.shared_cache.proofs.locked_cache.LockedCache.pin.Given as given
use Rattle.shared_cache.proofs.locked_cache.LockedCache.pin.Goals.{After-give_copying}

pub look-look-requires-clause-stand : goal.look-look-requires-clause-stand
look-look-requires-clause-stand g c = (c.begin-w.ensures.taken _ _ c.self.invariant).ready.stand

pub end-requires-clause-work : goal.end-requires-clause-work
end-requires-clause-work g c = at_work (c.begin-w.ensures.taken _ _ c.self.invariant) c.look-look.ensures.beside.rest

pub end-requires-in-Scalar-clause-work : goal.end-requires-in-Scalar-clause-work
end-requires-in-Scalar-clause-work g c = at_work (c.begin-w.ensures.taken _ _ c.self.invariant) c.look-look.ensures.beside.rest

pub record_event-requires : goal.record_event-requires
record_event-requires g c = record { room = roomy _ _ _ _ _ (at_work {w = c.look-look.new.seg} (c.begin-w.ensures.taken _ _ c.self.invariant) c.look-look.ensures.beside.rest) }

pub give_copying-requires-clause-block : goal.give_copying-requires-clause-block
give_copying-requires-clause-block g c =
    let hit = hit_of c.args.key.now c.args.t (cache_of c.self.inside.core) c.in-Hit.at c.in-Hit.ensures.look in
    let use_of = used_in c.args.key.now c.args.t c.in-Hit.at c.self.inside.core c.look-look.new.self hit (looked c.look-look.ensures.does) in
    may_pin (c.begin-w.ensures.taken _ _ c.self.invariant).laws c.look-look.new.self c.look-look.new.seg.seat.now.state.words (aside_of c.look-look.new.seg.seat.now.state) c.in-Hit.at hit.row.graph use_of
    c.look-look.ensures.does.step.stand

copied : (g : given.Over) (c : After-give_copying g) → Copies g.N.TableName.table g.N.TableName.conf g.N.TableName.budgets c.self.inside.seat c.give_copying.new.self.1.0 c.begin-w.result c.look-look.new.seg
    c.self.inside.core c.look-look.new.self c.args.pass c.give_copying.result c.args.t c.args.key.now c.in-Hit.at c.self.inside.journal c.record_event.new.journal
copied g c = record {
  works = works_of (at_work {w = c.look-look.new.seg} (c.begin-w.ensures.taken _ _ c.self.invariant) c.look-look.ensures.beside.rest) c.give_copying.ensures.order c.record_event.ensures.small;
  images = c.images_are_runs.ensures;
  seat = c.give_copying.ensures.table;
  state = c.give_copying.ensures.state;
  given = c.give_copying.ensures.copying;
  copy = c.give_copying.ensures.copy;
  hit = c.in-Hit.ensures.look;
  stands = c.look-look.ensures.does.step.stand;
  cache = looked c.look-look.ensures.does;
  marks = c.record_event.ensures.marks;
  room = c.record_event.ensures.room;
}

pub invariant_of-self : goal.invariant_of-self
invariant_of-self g c = c.end.ensures.settled (at_work (c.begin-w.ensures.taken _ _ c.self.invariant) c.look-look.ensures.beside.rest) _ _ _ refl c.look-look.ensures.does

pub invariant_of-self-in-Scalar : goal.invariant_of-self-in-Scalar
invariant_of-self-in-Scalar g c = c.end-in-Scalar.ensures.settled (at_work (c.begin-w.ensures.taken _ _ c.self.invariant) c.look-look.ensures.beside.rest) _ _ _ refl c.look-look.ensures.does

pub invariant_of-self-in-Hit : goal.invariant_of-self-in-Hit
invariant_of-self-in-Hit g c = copies.settles _ _ _ _ _ _ _ _ _ _ _ _ _ _ _ _ (copied g c)

pub returns-in-Miss : goal.returns-in-Miss
returns-in-Miss g c =
    subst (λ (y : Reply). Follows g.N.TableName.conf (length g.N.TableName.budgets) c.args.pass c.end.result c.args.t (request.Fetch c.args.key.now) y) (sym (miss_of c.args.key.now c.args.t (cache_of c.self.inside.core) c.in-Miss.ensures.look))
    (c.end.ensures.follows (at_work (c.begin-w.ensures.taken _ _ c.self.invariant) c.look-look.ensures.beside.rest) _ _ _ refl c.look-look.ensures.does).follows

pub returns-in-Scalar : goal.returns-in-Scalar
returns-in-Scalar g c =
    let seat = c.self.inside.seat in
    subst (λ (y : Reply). Follows g.N.TableName.conf (length g.N.TableName.budgets) c.args.pass c.end-in-Scalar.result c.args.t (request.Fetch c.args.key.now) y)
    (sym (scalar_found c.self.inside.core seat.state.words (aside_of seat.state) c.args.key.now c.args.t c.in-Scalar.scalar c.self.invariant.stands c.in-Scalar.ensures.look))
    (c.end-in-Scalar.ensures.follows (at_work (c.begin-w.ensures.taken _ _ c.self.invariant) c.look-look.ensures.beside.rest) _ _ _ refl c.look-look.ensures.does).follows

pub returns-in-Hit : goal.returns-in-Hit
returns-in-Hit g c = copies.follows_found _ _ _ _ _ _ _ _ _ _ _ _ _ _ _ _ (copied g c)
