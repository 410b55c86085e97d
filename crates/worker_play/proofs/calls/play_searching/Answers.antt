use Rattle.std.proofs.Common.{◌≡◌, ◌<◌, refl, sym, ap, subst, ◌∙◌}
use Rattle.apcu_model.specs.declared.request.Request.TheVariants as request
use Rattle.apcu_model.specs.declared.request.Reply.TheVariants as reply
use Rattle.apcu_model.specs.declared.searching.List.TheVariants.{Active, Deleted}
use Rattle.script_read.specs.declared.call.Call.{Call}
use Rattle.script_read.specs.declared.call.Call.TheVariants.{Walk, WalkDelete, Totals, Pool}
use Rattle.script_read.specs.Calls.{HasRanges, event_bound}
use Rattle.script_read.specs.Patterns.{call_pattern}
use Rattle.worker_play.proofs.PassProgress.{nothing_made, on_ok, of_if_ok}
use Rattle.worker_play.proofs.CallForms.{call_asks, call_tells, told_once}
use Rattle.worker_play.proofs.Iterators.{by_search, steps_reached, steps_told}
use Rattle.worker_play.proofs.calls.play_searching.Goals as goal

pub walk_active-requires-clause-table : goal.walk_active-requires-clause-table
walk_active-requires-clause-table g c = c.requires.table

pub walk_active-requires-clause-whole : goal.walk_active-requires-clause-whole
walk_active-requires-clause-whole g c = c.requires.whole

pub walk_deleted-requires-clause-whole : goal.walk_deleted-requires-clause-whole
walk_deleted-requires-clause-whole g c = c.requires.whole

pub delete_found-requires-clause-table : goal.delete_found-requires-clause-table
delete_found-requires-clause-table g c = c.requires.table

pub delete_found-requires-clause-whole : goal.delete_found-requires-clause-whole
delete_found-requires-clause-whole g c = c.requires.whole

pub totals-pass-requires-clause-whole : goal.totals-pass-requires-clause-whole
totals-pass-requires-clause-whole g c = c.requires.whole

pub walk_active-requires-clause-slots : goal.walk_active-requires-clause-slots
walk_active-requires-clause-slots g c = c.requires.slots

pub delete_found-requires-clause-slots : goal.delete_found-requires-clause-slots
delete_found-requires-clause-slots g c = c.requires.slots

pub returns-in-Active-clause-reaches : goal.returns-in-Active-clause-reaches
returns-in-Active-clause-reaches g c =
    let arm = c.in-Walk in
    let is : c.args.call.now ≡ Walk arm.search arm.fields arm.size Active = arm.is ∙ ap (λ l. Walk arm.search arm.fields arm.size l) c.in-Active.is in
    let form : c.args.call.now ≡ Walk c.args.search.now arm.fields arm.size Active = by_search c.args.call.now arm.search c.args.search.now (λ w. Walk w arm.fields arm.size Active) is refl c.requires.search in
    steps_reached _ _ _ _ _ c.args.context.now.slots _ (Walk c.args.search.now arm.fields arm.size Active) (λ from. request.Chunk c.args.search.now from arm.size Active arm.fields) form c.requires.slots refl c.walk_active.ensures.reaches

pub returns-in-WalkDelete-clause-reaches : goal.returns-in-WalkDelete-clause-reaches
returns-in-WalkDelete-clause-reaches g c =
    let arm = c.in-WalkDelete in
    let form : c.args.call.now ≡ WalkDelete c.args.search.now arm.size = by_search c.args.call.now arm.search c.args.search.now (λ w. WalkDelete w arm.size) arm.is refl c.requires.search in
    steps_reached _ _ _ _ _ c.args.context.now.slots _ (WalkDelete c.args.search.now arm.size) (λ from. request.ChunkDelete c.args.search.now from arm.size) form c.requires.slots refl c.delete_found.ensures.reaches

pub returns-in-Active-clause-line : goal.returns-in-Active-clause-line
returns-in-Active-clause-line g c =
    let arm = c.in-Walk in
    let is : c.args.call.now ≡ Walk arm.search arm.fields arm.size Active = arm.is ∙ ap (λ l. Walk arm.search arm.fields arm.size l) c.in-Active.is in
    let form : c.args.call.now ≡ Walk c.args.search.now arm.fields arm.size Active = by_search c.args.call.now arm.search c.args.search.now (λ w. Walk w arm.fields arm.size Active) is refl c.requires.search in
    on_ok c.walk_active.result.1
    (λ told. steps_told _ _ _ _ _ c.args.context.now.slots _ (Walk c.args.search.now arm.fields arm.size Active) (λ from. request.Chunk c.args.search.now from arm.size Active arm.fields) _ _ form c.requires.slots refl told) c.walk_active.ensures.line

pub returns-in-Deleted-clause-line : goal.returns-in-Deleted-clause-line
returns-in-Deleted-clause-line g c =
    let arm = c.in-Walk in
    let is : c.args.call.now ≡ Walk arm.search arm.fields arm.size Deleted = arm.is ∙ ap (λ l. Walk arm.search arm.fields arm.size l) c.in-Deleted.is in
    let form : c.args.call.now ≡ Walk c.args.search.now arm.fields arm.size Deleted = by_search c.args.call.now arm.search c.args.search.now (λ w. Walk w arm.fields arm.size Deleted) is refl c.requires.search in
    on_ok c.walk_deleted.result.1 (λ told. call_tells _ _ _ _ _ _ (Walk c.args.search.now arm.fields arm.size Deleted) _ _ form told) c.walk_deleted.ensures.line

pub returns-in-WalkDelete-clause-line : goal.returns-in-WalkDelete-clause-line
returns-in-WalkDelete-clause-line g c =
    let arm = c.in-WalkDelete in
    let form : c.args.call.now ≡ WalkDelete c.args.search.now arm.size = by_search c.args.call.now arm.search c.args.search.now (λ w. WalkDelete w arm.size) arm.is refl c.requires.search in
    on_ok c.delete_found.result.1
    (λ told. steps_told _ _ _ _ _ c.args.context.now.slots _ (WalkDelete c.args.search.now arm.size) (λ from. request.ChunkDelete c.args.search.now from arm.size) _ _ form c.requires.slots refl told) c.delete_found.ensures.line

pub returns-in-Ok-clause-line : goal.returns-in-Ok-clause-line
returns-in-Ok-clause-line g c =
    let arm = c.in-Totals in
    let form : c.args.call.now ≡ Totals c.args.search.now arm.list = by_search c.args.call.now arm.search c.args.search.now (λ w. Totals w arm.list) arm.is refl c.requires.search in
    let asked = of_if_ok _ c.totals-pass.result.1 (c.in-Ok.count, c.in-Ok.hits, c.in-Ok.size) c.in-Ok.is c.totals-pass.ensures.event in
    on_ok c.write_totals.result (λ e. told_once _ _ _ _ _ _ (Totals c.args.search.now arm.list) _ (reply.Totals c.in-Ok.count c.in-Ok.hits c.in-Ok.size) _ _ form asked refl refl e) c.write_totals.ensures

pub returns-in-Err-clause-reaches : goal.returns-in-Err-clause-reaches
returns-in-Err-clause-reaches g c =
    nothing_made _ _ _ _ _ c.totals-pass.result.1 c.in-Err.e c.in-Err.is c.totals-pass.ensures.same c.requires.whole

-- ---- a pool

pub play_pool-requires-clause-table : goal.play_pool-requires-clause-table
play_pool-requires-clause-table g c = c.requires.table

pub play_pool-requires-clause-whole : goal.play_pool-requires-clause-whole
play_pool-requires-clause-whole g c = c.requires.whole

pub play_pool-requires-clause-slots : goal.play_pool-requires-clause-slots
play_pool-requires-clause-slots g c = c.requires.slots

pub play_pool-requires-clause-left : goal.play_pool-requires-clause-left
play_pool-requires-clause-left g c = subst (λ (call : Call). event_bound g.N.TableName.conf.slots call < c.args.pass.known.left) (c.in-Pool.is ∙ ap Pool (sym c.call-call.ensures)) c.requires.left

pub play_pool-requires-clause-good : goal.play_pool-requires-clause-good
play_pool-requires-clause-good g c = subst HasRanges (c.in-Pool.is ∙ ap Pool (sym c.call-call.ensures)) c.requires.ranges

pub play_pool-requires-clause-search : goal.play_pool-requires-clause-search
play_pool-requires-clause-search g c = c.requires.search ∙ ap call_pattern (c.in-Pool.is ∙ ap Pool (sym c.call-call.ensures))

pub returns-in-Pool-clause-reaches : goal.returns-in-Pool-clause-reaches
returns-in-Pool-clause-reaches g c = call_asks _ _ _ _ _ _ _ (c.in-Pool.is ∙ ap Pool (sym c.call-call.ensures)) c.play_pool.ensures.reaches

pub returns-in-Pool-clause-line : goal.returns-in-Pool-clause-line
returns-in-Pool-clause-line g c = on_ok c.play_pool.result.1 (λ told. call_tells _ _ _ _ _ _ _ _ _ (c.in-Pool.is ∙ ap Pool (sym c.call-call.ensures)) told) c.play_pool.ensures.line
