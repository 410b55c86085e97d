-- A worker that reads the counters.
use Rattle.std.specs.Prelude.{◌≡◌, ℕ, ℤ, List, [], ◌∷◌, ◌++◌, map, Some}
use Rattle.apcu_model.specs.declared.conf.Conf.{Conf}
use Rattle.apcu_model.specs.declared.request.Reply.{Reply}
use Rattle.apcu_model.specs.declared.request.Reply.TheVariants.{Ended}
use Rattle.pin_table.specs.Values.{PassView}
use Rattle.play_laws.specs.Observer.{wishes_of_looks, wish_to_end}
use Rattle.play_laws.specs.Summary.{number_found}
use Rattle.worker_play.specs.Goes.{GoesOn}

-- Its worker fetched the counters in order, found these numbers, and then ended.
pub record Observes (conf : Conf) (workers : ℕ) (p b : PassView) (numbers : List ℤ) : Type 0 where
  pub replies : List Reply
  pub goes : GoesOn conf workers p b (wishes_of_looks ++ wish_to_end ∷ []) (replies ++ Ended ∷ [])
  pub found : numbers ≡ map (λ reply. number_found (Some reply)) replies
