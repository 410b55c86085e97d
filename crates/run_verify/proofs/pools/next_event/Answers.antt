use Rattle.std.proofs.Common.{◌∙◌, ⊎_elim, ap, refl, sym}
use Rattle.std.proofs.lemmas.List.{length-map}
use Rattle.simple_pool.specs.Requests.{pool_asking}
use Rattle.run_verify.proofs.PoolAsks.{each_next, clear_next}
use Rattle.run_verify.proofs.pools.next_event.Goals as goal

pub returns-then-from-slots : goal.returns-then-from-slots
returns-then-from-slots c = clear_next c.args.slots c.args.call.now c.args.k c.args.from c.in-Clear.is c.if-from-slots.true

pub returns-in-Get : goal.returns-in-Get
returns-in-Get c =
    let call = c.args.call.now in
    ⊎_elim (λ get. each_next c.args.slots call c.args.k c.args.from _ 1 c.below.result (ap (pool_asking call.pool) get.2) refl c.below.ensures)
    (⊎_elim (λ set. each_next c.args.slots call c.args.k c.args.from _ 1 c.below.result (ap (pool_asking call.pool) set.3) refl c.below.ensures)
    (⊎_elim (λ plain. each_next c.args.slots call c.args.k c.args.from _ 1 c.below.result (ap (pool_asking call.pool) plain.2) refl c.below.ensures)
    (⊎_elim (λ delete. each_next c.args.slots call c.args.k c.args.from _ 1 c.below.result (ap (pool_asking call.pool) delete.1) refl c.below.ensures)
    (λ has. each_next c.args.slots call c.args.k c.args.from _ 1 c.below.result (ap (pool_asking call.pool) has.1) refl c.below.ensures)))) c.in-Get.is

pub returns-in-GetMany : goal.returns-in-GetMany
returns-in-GetMany c =
    let call = c.args.call.now in
    let keys = c.in-GetMany.keys in
    ⊎_elim (λ get. each_next c.args.slots call c.args.k c.args.from _ c.len-in-GetMany.result c.below-in-GetMany.result (ap (pool_asking call.pool) get.1) (length-map keys _ ∙ sym c.len-in-GetMany.ensures) c.below-in-GetMany.ensures)
    (λ delete. each_next c.args.slots call c.args.k c.args.from _ c.len-in-GetMany.result c.below-in-GetMany.result (ap (pool_asking call.pool) delete) (length-map keys _ ∙ sym c.len-in-GetMany.ensures) c.below-in-GetMany.ensures)
    c.in-GetMany.is

pub returns-in-SetMany : goal.returns-in-SetMany
returns-in-SetMany c =
    let call = c.args.call.now in
    let pairs = c.in-SetMany.pairs in
    ⊎_elim (λ set. each_next c.args.slots call c.args.k c.args.from _ c.len.result c.below-in-SetMany.result (ap (pool_asking call.pool) set.1) (length-map pairs _ ∙ sym c.len.ensures) c.below-in-SetMany.ensures)
    (λ plain. each_next c.args.slots call c.args.k c.args.from _ c.len.result c.below-in-SetMany.result (ap (pool_asking call.pool) plain) (length-map pairs _ ∙ sym c.len.ensures) c.below-in-SetMany.ensures)
    c.in-SetMany.is
