use Rattle.std.proofs.Common.{◌≡◌, ◌++◌, refl, rules}
use Rattle.reply_text.specs.Replies.{flag_text}
use Rattle.worker_play.proofs.PassProgress.{on_ok}
use Rattle.worker_play.proofs.CallForms.{told_once}
use Rattle.worker_play.proofs.calls.play_flagged.Goals as goal

pub store-pass-requires-clause-pass : goal.store-pass-requires-clause-pass
store-pass-requires-clause-pass g c = c.requires.pass

pub store-pass-requires-clause-whole : goal.store-pass-requires-clause-whole
store-pass-requires-clause-whole g c = c.requires.whole

pub exists-pass-requires-clause-pass : goal.exists-pass-requires-clause-pass
exists-pass-requires-clause-pass g c = c.requires.pass

pub exists-pass-requires-clause-whole : goal.exists-pass-requires-clause-whole
exists-pass-requires-clause-whole g c = c.requires.whole

pub delete-pass-requires-clause-pass : goal.delete-pass-requires-clause-pass
delete-pass-requires-clause-pass g c = c.requires.pass

pub delete-pass-requires-clause-whole : goal.delete-pass-requires-clause-whole
delete-pass-requires-clause-whole g c = c.requires.whole

pub cas-pass-requires-clause-pass : goal.cas-pass-requires-clause-pass
cas-pass-requires-clause-pass g c = c.requires.pass

pub cas-pass-requires-clause-whole : goal.cas-pass-requires-clause-whole
cas-pass-requires-clause-whole g c = c.requires.whole

pub returns-in-StoreOne-clause-line : goal.returns-in-StoreOne-clause-line
returns-in-StoreOne-clause-line g c = on_ok c.write_flag.result (λ e. told_once _ _ _ _ _ _ _ _ _ _ _ c.in-StoreOne.is c.store-pass.ensures refl refl e) c.write_flag.ensures

pub returns-in-ExistsOne-clause-line : goal.returns-in-ExistsOne-clause-line
returns-in-ExistsOne-clause-line g c = on_ok c.write_flag-in-ExistsOne.result (λ e. told_once _ _ _ _ _ _ _ _ _ _ _ c.in-ExistsOne.is c.exists-pass.ensures refl refl e) c.write_flag-in-ExistsOne.ensures

pub returns-in-DeleteOne-clause-line : goal.returns-in-DeleteOne-clause-line
returns-in-DeleteOne-clause-line g c = on_ok c.write_flag-in-DeleteOne.result (λ (e : c.write_flag-in-DeleteOne.new.out ≡ c.args.out.now ++ flag_text c.delete-pass.result.1). told_once _ _ _ _ _ _ _ _ _ _ _ c.in-DeleteOne.is c.delete-pass.ensures refl refl e) c.write_flag-in-DeleteOne.ensures

pub returns-in-Cas-clause-line : goal.returns-in-Cas-clause-line
returns-in-Cas-clause-line g c = on_ok c.write_flag-in-Cas.result (λ e. told_once _ _ _ _ _ _ _ _ _ _ _ c.in-Cas.is c.cas-pass.ensures (search rules) refl e) c.write_flag-in-Cas.ensures
