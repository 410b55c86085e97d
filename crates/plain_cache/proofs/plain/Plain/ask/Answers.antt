use Rattle.std.proofs.Common.{[], sym, ap, ◌∙◌, arith}
use Rattle.std.proofs.lemmas.Grind.{common_steps}
use Rattle.apcu_model.specs.declared.request.Request.{Request}
use Rattle.apcu_model.specs.declared.request.Request.TheVariants.{Delete}
use Rattle.apcu_model.specs.Sequential.{cache_after}
use Rattle.plain_cache.proofs.plain.Plain.ask.Goals as goal

pub store_copies-requires : goal.store_copies-requires
store_copies-requires c = grind (arith, common_steps)

pub as_slice-requires : goal.as_slice-requires
as_slice-requires c = grind (arith, common_steps)

pub fetch_copy-requires : goal.fetch_copy-requires
fetch_copy-requires c = grind (arith, common_steps)

pub as_slice-requires-in-Exists : goal.as_slice-requires-in-Exists
as_slice-requires-in-Exists c = grind (arith, common_steps)

pub exists-requires : goal.exists-requires
exists-requires c = grind (arith, common_steps)

pub as_slice-requires-in-Delete : goal.as_slice-requires-in-Delete
as_slice-requires-in-Delete c = grind (arith, common_steps)

pub delete-requires : goal.delete-requires
delete-requires c = grind (arith, common_steps)

pub as_slice-requires-in-Inc : goal.as_slice-requires-in-Inc
as_slice-requires-in-Inc c = grind (arith, common_steps)

pub inc-requires : goal.inc-requires
inc-requires c = grind (arith, common_steps)

pub returns-in_err-n-in-Inc-clause-reply : goal.returns-in_err-n-in-Inc-clause-reply
returns-in_err-n-in-Inc-clause-reply c = grind (arith, common_steps)

pub returns-in_err-n-in-Inc-clause-after : goal.returns-in_err-n-in-Inc-clause-after
returns-in_err-n-in-Inc-clause-after c = grind (arith, common_steps)

pub returns-in_err-n-in-Inc-clause-err : goal.returns-in_err-n-in-Inc-clause-err
returns-in_err-n-in-Inc-clause-err c = grind (arith, common_steps)

pub as_slice-requires-in-Cas : goal.as_slice-requires-in-Cas
as_slice-requires-in-Cas c = grind (arith, common_steps)

pub cas-requires : goal.cas-requires
cas-requires c = grind (arith, common_steps)

pub clear-requires : goal.clear-requires
clear-requires c = grind (arith, common_steps)

pub enter-requires : goal.enter-requires
enter-requires c = grind (arith, common_steps)

pub invariant_of-self : goal.invariant_of-self
invariant_of-self c = grind (arith, common_steps)

pub returns-in_err-enter-in-Entry-clause-reply : goal.returns-in_err-enter-in-Entry-clause-reply
returns-in_err-enter-in-Entry-clause-reply c = grind (arith, common_steps)

pub returns-in_err-enter-in-Entry-clause-after : goal.returns-in_err-enter-in-Entry-clause-after
returns-in_err-enter-in-Entry-clause-after c = grind (arith, common_steps)

pub returns-in_err-enter-in-Entry-clause-err : goal.returns-in_err-enter-in-Entry-clause-err
returns-in_err-enter-in-Entry-clause-err c = grind (arith, common_steps)

pub as_slice-requires-in-KeyInfo : goal.as_slice-requires-in-KeyInfo
as_slice-requires-in-KeyInfo c = grind (arith, common_steps)

pub key_info-requires : goal.key_info-requires
key_info-requires c = grind (arith, common_steps)

pub returns-in_err-info-in-KeyInfo-clause-reply : goal.returns-in_err-info-in-KeyInfo-clause-reply
returns-in_err-info-in-KeyInfo-clause-reply c = grind (arith, common_steps)

pub returns-in_err-info-in-KeyInfo-clause-after : goal.returns-in_err-info-in-KeyInfo-clause-after
returns-in_err-info-in-KeyInfo-clause-after c = grind (arith, common_steps)

pub returns-in_err-info-in-KeyInfo-clause-err : goal.returns-in_err-info-in-KeyInfo-clause-err
returns-in_err-info-in-KeyInfo-clause-err c = grind (arith, common_steps)

pub cache_info-requires : goal.cache_info-requires
cache_info-requires c = grind (arith, common_steps)

pub sma_info-requires : goal.sma_info-requires
sma_info-requires c = grind (arith, common_steps)

pub unreachable-requires : goal.unreachable-requires
unreachable-requires c = grind (arith, common_steps)

pub returns-in-Store-clause-reply : goal.returns-in-Store-clause-reply
returns-in-Store-clause-reply c = grind (arith, common_steps)

pub returns-in-Store-clause-after : goal.returns-in-Store-clause-after
returns-in-Store-clause-after c = grind (arith, common_steps)

pub returns-in-Store-clause-err : goal.returns-in-Store-clause-err
returns-in-Store-clause-err c = grind (arith, common_steps)

pub returns-in-Fetch-clause-reply : goal.returns-in-Fetch-clause-reply
returns-in-Fetch-clause-reply c = grind (arith, common_steps)

pub returns-in-Fetch-clause-after : goal.returns-in-Fetch-clause-after
returns-in-Fetch-clause-after c = grind (arith, common_steps)

pub returns-in-Fetch-clause-err : goal.returns-in-Fetch-clause-err
returns-in-Fetch-clause-err c = grind (arith, common_steps)

pub returns-in-Exists-clause-reply : goal.returns-in-Exists-clause-reply
returns-in-Exists-clause-reply c = grind (arith, common_steps)

pub returns-in-Exists-clause-after : goal.returns-in-Exists-clause-after
returns-in-Exists-clause-after c = grind (arith, common_steps)

pub returns-in-Exists-clause-err : goal.returns-in-Exists-clause-err
returns-in-Exists-clause-err c = grind (arith, common_steps)

pub returns-in-Delete-clause-reply : goal.returns-in-Delete-clause-reply
returns-in-Delete-clause-reply c = grind (arith, common_steps)

pub returns-in-Delete-clause-after : goal.returns-in-Delete-clause-after
returns-in-Delete-clause-after c =
    c.delete.ensures.after
    ∙ ap (λ (r : Request). cache_after [] c.args.t r c.args.self.now)
    (ap Delete c.as_slice-in-Delete.ensures.bytes ∙ sym c.in-Delete.is)

pub returns-in-Delete-clause-err : goal.returns-in-Delete-clause-err
returns-in-Delete-clause-err c = grind (arith, common_steps)

pub returns-in-Some-clause-reply : goal.returns-in-Some-clause-reply
returns-in-Some-clause-reply c = grind (arith, common_steps)

pub returns-in-Some-clause-after : goal.returns-in-Some-clause-after
returns-in-Some-clause-after c = grind (arith, common_steps)

pub returns-in-Some-clause-err : goal.returns-in-Some-clause-err
returns-in-Some-clause-err c = grind (arith, common_steps)

pub returns-in-None-clause-reply : goal.returns-in-None-clause-reply
returns-in-None-clause-reply c = grind (arith, common_steps)

pub returns-in-None-clause-after : goal.returns-in-None-clause-after
returns-in-None-clause-after c = grind (arith, common_steps)

pub returns-in-None-clause-err : goal.returns-in-None-clause-err
returns-in-None-clause-err c = grind (arith, common_steps)

pub returns-in-Cas-clause-reply : goal.returns-in-Cas-clause-reply
returns-in-Cas-clause-reply c = grind (arith, common_steps)

pub returns-in-Cas-clause-after : goal.returns-in-Cas-clause-after
returns-in-Cas-clause-after c = grind (arith, common_steps)

pub returns-in-Cas-clause-err : goal.returns-in-Cas-clause-err
returns-in-Cas-clause-err c = grind (arith, common_steps)

pub returns-in-Clear-clause-reply : goal.returns-in-Clear-clause-reply
returns-in-Clear-clause-reply c = grind (arith, common_steps)

pub returns-in-Clear-clause-after : goal.returns-in-Clear-clause-after
returns-in-Clear-clause-after c = grind (arith, common_steps)

pub returns-in-Clear-clause-err : goal.returns-in-Clear-clause-err
returns-in-Clear-clause-err c = grind (arith, common_steps)

pub returns-in_ok-enter-in-Entry-clause-reply : goal.returns-in_ok-enter-in-Entry-clause-reply
returns-in_ok-enter-in-Entry-clause-reply c = grind (arith, common_steps)

pub returns-in_ok-enter-in-Entry-clause-after : goal.returns-in_ok-enter-in-Entry-clause-after
returns-in_ok-enter-in-Entry-clause-after c = grind (arith, common_steps)

pub returns-in_ok-enter-in-Entry-clause-err : goal.returns-in_ok-enter-in-Entry-clause-err
returns-in_ok-enter-in-Entry-clause-err c = grind (arith, common_steps)

pub returns-after-branch-5-clause-reply : goal.returns-after-branch-5-clause-reply
returns-after-branch-5-clause-reply c = grind (arith, common_steps)

pub returns-after-branch-5-clause-after : goal.returns-after-branch-5-clause-after
returns-after-branch-5-clause-after c = grind (arith, common_steps)

pub returns-after-branch-5-clause-err : goal.returns-after-branch-5-clause-err
returns-after-branch-5-clause-err c = grind (arith, common_steps)

pub returns-in-Retire-clause-reply : goal.returns-in-Retire-clause-reply
returns-in-Retire-clause-reply c = grind (arith, common_steps)

pub returns-in-Retire-clause-after : goal.returns-in-Retire-clause-after
returns-in-Retire-clause-after c = grind (arith, common_steps)

pub returns-in-Retire-clause-err : goal.returns-in-Retire-clause-err
returns-in-Retire-clause-err c = grind (arith, common_steps)
