use Rattle.std.proofs.Common.{refl}
use Rattle.apcu_model.specs.declared.request.Reply.TheVariants as reply
use Rattle.worker_play.proofs.PassProgress.{nothing_made, one_asked, on_ok, of_if_ok}
use Rattle.worker_play.proofs.walks.walk_deleted.Goals as goal

pub returns-in-Ok-clause-reaches : goal.returns-in-Ok-clause-reaches
returns-in-Ok-clause-reaches g c =
    let made = of_if_ok _ c.chunk-pass.result.1 c.in-Ok.chunk c.in-Ok.is c.chunk-pass.ensures.event in
    one_asked _ _ _ _ _ _ (reply.Chunk c.in-Ok.chunk) made refl

pub returns-in-Ok-clause-line : goal.returns-in-Ok-clause-line
returns-in-Ok-clause-line g c =
    let made = of_if_ok _ c.chunk-pass.result.1 c.in-Ok.chunk c.in-Ok.is c.chunk-pass.ensures.event in
    on_ok c.write_walk.result (λ e. record { asked = one_asked _ _ _ _ _ _ (reply.Chunk c.in-Ok.chunk) made refl; over = refl; is = e }) c.write_walk.ensures

pub returns-in-Err-clause-reaches : goal.returns-in-Err-clause-reaches
returns-in-Err-clause-reaches g c = nothing_made _ _ _ _ _ c.chunk-pass.result.1 c.in-Err.e c.in-Err.is c.chunk-pass.ensures.same c.requires.whole
