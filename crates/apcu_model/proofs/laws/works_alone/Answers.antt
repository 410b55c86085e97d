use Rattle.std.proofs.Common.{◌≡◌, true, sym, subst}
use Rattle.apcu_model.specs.History.{is_legal_mask}
use Rattle.apcu_model.proofs.ZeroMask.{held_places-none, is_legal_mask-none, is_legal_mask-alone}
use Rattle.apcu_model.proofs.laws.works_alone.Goals as goal

pub returns : goal.returns
returns c = record {
  alone = λ m mask. (is_legal_mask-alone m mask, λ e. subst (λ k. is_legal_mask 1 0 m k ≡ true) (sym e) (is_legal_mask-none 1 0 m));
  legal = is_legal_mask-none;
  none_held = held_places-none;
}
