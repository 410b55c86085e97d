use Rattle.std.proofs.Common.{◌≡◌, Bool, true, false, cond, refl, sym, subst, List, [], filter, arith}
use Rattle.std.specs.Prelude.{nat_lt}
use Rattle.std.proofs.lemmas.Bool.{le-ltb, lt-ltb}
use Rattle.apcu_model.specs.Cache.{Row}
use Rattle.apcu_model.specs.Expiry.{is_expired}
use Rattle.apcu_model.specs.Change.{leaving}
use Rattle.ttl_expunge.specs.Steps.{DropsRows}
use Rattle.ttl_expunge.specs.Dropping.{expired_rows}
use Rattle.ttl_expunge.proofs.UnexpiredChains.{none_spent}
use Rattle.ttl_expunge.proofs.EventSteps.{may_kept, drops_kept, drops_as, drops_nothing}
use Rattle.entry_slots.specs.Standing.{entries}
use Rattle.ttl_expunge.proofs.room.drop_expired.Goals as goal

pub returns-else-ttl-gt0 : goal.returns-else-ttl-gt0
returns-else-ttl-gt0 g c =
    let s = entries c.args.slots.now in
    let is : nat_lt 0 s.conf.ttl ≡ false = le-ltb 0 s.conf.ttl (omega (arith, c.requires.limit, c.if-ttl-gt0.false)) in
    subst (λ (b : Bool). DropsRows g.S.WordsIn c.args.slots.now c.args.slots.now c.args.seg.now c.args.seg.now c.args.t (cond b (leaving s.conf (filter (is_expired s.conf c.args.t) s.rows)) [])) (sym is)
    (drops_nothing c.args.slots.now c.args.t (record { words = refl; aside = refl; rest = refl }) c.requires.ready)

pub knows_none_expired-requires : goal.knows_none_expired-requires
knows_none_expired-requires g c = record { stand = record { words = g.S.WordsIn.words c.args.seg.now; aside = g.S.WordsIn.aside c.args.seg.now; stand = c.requires.ready.stand } }

pub returns-then-knows_none_expired : goal.returns-then-knows_none_expired
returns-then-knows_none_expired g c =
    let s = entries c.args.slots.now in
    subst (λ (rows : List Row). DropsRows g.S.WordsIn c.args.slots.now c.args.slots.now c.args.seg.now c.args.seg.now c.args.t rows) (sym (none_spent s.conf c.args.t s.rows (c.knows_none_expired.ensures.none c.if-knows_none_expired.true)))
    (drops_nothing c.args.slots.now c.args.t (record { words = refl; aside = refl; rest = refl }) c.requires.ready)

pub note_soonest-requires : goal.note_soonest-requires
note_soonest-requires g c = record { stand = c.expunge_expired.ensures.stand }

pub are_all_expired-requires-clause-limit : goal.are_all_expired-requires-clause-limit
are_all_expired-requires-clause-limit g c = c.requires.limit

pub expunge_expired-requires-clause-ready : goal.expunge_expired-requires-clause-ready
expunge_expired-requires-clause-ready g c = may_kept c.args.slots.now c.are_all_expired.ensures.kept c.requires.ready

pub expunge_expired-requires-clause-limit : goal.expunge_expired-requires-clause-limit
expunge_expired-requires-clause-limit g c = c.requires.limit

pub expunge_at_once-requires-clause-ready : goal.expunge_at_once-requires-clause-ready
expunge_at_once-requires-clause-ready g c = may_kept c.args.slots.now c.are_all_expired.ensures.kept c.requires.ready

pub expunge_at_once-requires-clause-whole : goal.expunge_at_once-requires-clause-whole
expunge_at_once-requires-clause-whole g c = c.requires.whole

pub returns-then-are_all_expired : goal.returns-then-are_all_expired
returns-then-are_all_expired g c =
    let s = entries c.args.slots.now in
    let is : nat_lt 0 s.conf.ttl ≡ true = lt-ltb 0 s.conf.ttl (omega (arith, c.requires.limit, c.if-ttl-gt0.true)) in
    subst (λ (b : Bool). DropsRows g.S.WordsIn c.args.slots.now c.expunge_at_once.new.slots c.args.seg.now c.expunge_at_once.new.seg c.args.t (cond b (expired_rows c.args.t s) [])) (sym is)
    (subst (λ (rows : List Row). DropsRows g.S.WordsIn c.args.slots.now c.expunge_at_once.new.slots c.args.seg.now c.expunge_at_once.new.seg c.args.t rows) (sym (c.are_all_expired.ensures.all c.if-are_all_expired.true))
    (drops_kept c.are_all_expired.ensures.kept c.expunge_at_once.ensures))

pub returns-else-are_all_expired : goal.returns-else-are_all_expired
returns-else-are_all_expired g c =
    let s = entries c.args.slots.now in
    let is : nat_lt 0 s.conf.ttl ≡ true = lt-ltb 0 s.conf.ttl (omega (arith, c.requires.limit, c.if-ttl-gt0.true)) in
    subst (λ (b : Bool). DropsRows g.S.WordsIn c.args.slots.now c.note_soonest.new.self c.args.seg.now c.note_soonest.new.seg c.args.t (cond b (expired_rows c.args.t s) [])) (sym is)
    (drops_kept c.are_all_expired.ensures.kept (drops_as c.expunge_expired.ensures c.note_soonest.ensures.same c.note_soonest.ensures.stand c.note_soonest.ensures.kept))
