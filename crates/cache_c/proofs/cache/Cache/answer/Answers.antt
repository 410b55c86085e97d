use Rattle.std.proofs.Common.{sym, subst}
use Rattle.cache_c.specs.declared.cache.Cache.{Cache}
use Rattle.cache_c.specs.Standing.{LeavesHeld}
use Rattle.cache_c.proofs.Standing.{left_alone}
use Rattle.cache_c.proofs.cache.Cache.answer.Goals.{in-0, in-1, in-3, in-4, in-6, in-7, in_default}
use Rattle.cache_c.proofs.cache.Cache.answer.Goals as goal

pub returns-clause-left : goal.returns-clause-left
returns-clause-left c =
    let old = c.args.self.now in
    elim c.match-ask.branch [
      | in-0 w ↦ subst (λ (s : Cache). LeavesHeld old s) (sym w.self-is) w.store-kind.ensures.left
      | in-1 w ↦ subst (λ (s : Cache). LeavesHeld old s) (sym w.self-is) w.store-kind-in-1.ensures.left
      | in-3 w ↦ subst (λ (s : Cache). LeavesHeld old s) (sym w.self-is) w.exists-kind.ensures.left
      | in-4 w ↦ subst (λ (s : Cache). LeavesHeld old s) (sym w.self-is) w.delete-kind.ensures.left
      | in-6 w ↦ subst (λ (s : Cache). LeavesHeld old s) (sym w.self-is) w.swap-kind.ensures.left
      | in-7 w ↦ subst (λ (s : Cache). LeavesHeld old s) (sym w.self-is) w.clear-kind.ensures.left
      | in_default w ↦ subst (λ (s : Cache). LeavesHeld old s) (sym w.self-is) (left_alone c.requires.stand)
    ]
