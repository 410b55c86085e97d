use Rattle.std.proofs.Common.{◌≡◌, [], ◌∷◌, length, ap, ap₂, subst, sym}
use Rattle.apcu_model.specs.declared.request.Request.TheVariants as request
use Rattle.apcu_model.specs.declared.request.Reply.TheVariants as reply
use Rattle.pin_table.specs.Values.{PassView}
use Rattle.shared_cache.specs.PinnedFetches.{scalar_graph, pass_view_of}
use Rattle.worker_play.specs.Goes.{wish, GoesOn}
use Rattle.worker_play.proofs.PassProgress.{one}
use Rattle.worker_play.proofs.events.fetch_text.Goals as goal

pub returns-in-Miss : goal.returns-in-Miss
returns-in-Miss g c = (
  reply.Absent,
  one (record { more = c.one_event_own.ensures.more; others = c.one_event_own.ensures.others }) _ _ _ _ _ _ _ _ c.in-Miss.ensures c.requires.whole (ap request.Fetch c.as_slice.ensures.bytes),
  c.write_fetched.ensures,
)

pub returns-in-Scalar : goal.returns-in-Scalar
returns-in-Scalar g c = (
  reply.Found (scalar_graph c.in-Scalar.scalar),
  one (record { more = c.one_event_own.ensures.more; others = c.one_event_own.ensures.others }) _ _ _ _ _ _ _ _ c.in-Scalar.ensures c.requires.whole (ap request.Fetch c.as_slice.ensures.bytes),
  c.write_scalar.ensures,
)

pub returns-in-Hit : goal.returns-in-Hit
returns-in-Hit g c =
    let found = c.in-Hit.ensures in
    let back : pass_view_of c.in-Hit.copying ≡ c.copy_text-pass.result.0 =
    sym (ap₂ (λ t k. record { table = t; known = k }) c.copy_text-pass.ensures.table c.copy_text-pass.ensures.known) in (
      reply.Found found.graph,
      subst (λ (q : PassView). GoesOn g.N.TableName.conf (length g.N.TableName.budgets) c.args.pass q (wish c.args.when.t (request.Fetch c.args.key.now) ∷ []) (reply.Found found.graph ∷ [])) back
          (one (record { more = c.one_event_own.ensures.more; others = c.one_event_own.ensures.others }) _ _ _ _ _ _ _ _ found.follows c.requires.whole (ap request.Fetch c.as_slice.ensures.bytes)),
      c.write_there.ensures found.graph c.args.out.now (c.copy_text-pass.ensures.text found.graph found.image),
    )
