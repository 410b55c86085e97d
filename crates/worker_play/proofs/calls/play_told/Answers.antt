use Rattle.std.proofs.Common.{◌++◌, List, Option, refl, ap, ◌∙◌}
use Rattle.php_graph.specs.declared.kind.Kind.{Kind}
use Rattle.apcu_model.specs.Sequential.{info_reply}
use Rattle.reply_text.specs.Replies.{info_one}
use Rattle.worker_play.proofs.PassProgress.{nothing_made, on_ok, of_if_ok}
use Rattle.worker_play.proofs.CallForms.{told_once}
use Rattle.worker_play.proofs.calls.play_told.Goals as goal

pub key_info-pass-requires-clause-pass : goal.key_info-pass-requires-clause-pass
key_info-pass-requires-clause-pass g c = c.requires.pass

pub key_info-pass-requires-clause-whole : goal.key_info-pass-requires-clause-whole
key_info-pass-requires-clause-whole g c = c.requires.whole

pub cache_info-pass-requires-clause-pass : goal.cache_info-pass-requires-clause-pass
cache_info-pass-requires-clause-pass g c = c.requires.pass

pub cache_info-pass-requires-clause-whole : goal.cache_info-pass-requires-clause-whole
cache_info-pass-requires-clause-whole g c = c.requires.whole

pub sma_info-pass-requires-clause-pass : goal.sma_info-pass-requires-clause-pass
sma_info-pass-requires-clause-pass g c = c.requires.pass

pub sma_info-pass-requires-clause-whole : goal.sma_info-pass-requires-clause-whole
sma_info-pass-requires-clause-whole g c = c.requires.whole

pub returns-in-Ok-clause-line : goal.returns-in-Ok-clause-line
returns-in-Ok-clause-line g c = on_ok c.write_info.result (λ e. told_once _ _ _ _ _ _ _ _ _ _ _ c.in-KeyInfo.is (of_if_ok _ c.key_info-pass.result.1 c.in-Ok.info c.in-Ok.is c.key_info-pass.ensures.event) refl refl (e ∙ ap (λ (found : Option (List Kind)). c.args.out.now ++ info_one (info_reply found)) c.as_ref.ensures.value)) c.write_info.ensures

pub returns-in-Ok-info-clause-line : goal.returns-in-Ok-info-clause-line
returns-in-Ok-info-clause-line g c = on_ok c.write_info-in-Ok-info.result (λ e. told_once _ _ _ _ _ _ _ _ _ _ _ c.in-CacheInfo.is (of_if_ok _ c.cache_info-pass.result.1 c.in-Ok-info.info c.in-Ok-info.is c.cache_info-pass.ensures.event) refl refl e) c.write_info-in-Ok-info.ensures

pub returns-in-Ok-info-2-clause-line : goal.returns-in-Ok-info-2-clause-line
returns-in-Ok-info-2-clause-line g c = on_ok c.write_info-in-Ok-info-2.result (λ e. told_once _ _ _ _ _ _ _ _ _ _ _ c.in-SmaInfo.is (of_if_ok _ c.sma_info-pass.result.1 c.in-Ok-info-2.info c.in-Ok-info-2.is c.sma_info-pass.ensures.event) refl refl e) c.write_info-in-Ok-info-2.ensures

pub returns-in-Err-clause-reaches : goal.returns-in-Err-clause-reaches
returns-in-Err-clause-reaches g c =
    nothing_made _ _ _ _ _ c.key_info-pass.result.1 c.in-Err.e c.in-Err.is c.key_info-pass.ensures.same c.requires.whole

pub returns-in-Err-info-clause-reaches : goal.returns-in-Err-info-clause-reaches
returns-in-Err-info-clause-reaches g c =
    nothing_made _ _ _ _ _ c.cache_info-pass.result.1 c.in-Err-info.e c.in-Err-info.is c.cache_info-pass.ensures.same c.requires.whole

pub returns-in-Err-info-2-clause-reaches : goal.returns-in-Err-info-2-clause-reaches
returns-in-Err-info-2-clause-reaches g c =
    nothing_made _ _ _ _ _ c.sma_info-pass.result.1 c.in-Err-info-2.e c.in-Err-info-2.is c.sma_info-pass.ensures.same c.requires.whole
