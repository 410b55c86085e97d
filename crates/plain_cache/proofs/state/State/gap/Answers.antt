use Rattle.std.proofs.Common.{ap, ◌∙◌, ℕ, ◌%◌}
use Rattle.apcu_model.specs.Conf.{piece_even}
use Rattle.plain_cache.proofs.state.State.gap.Goals as goal

pub first_fit-requires : goal.first_fit-requires
first_fit-requires c = record { even = ap (λ (x : ℕ). x % 2) c.piece.ensures ∙ piece_even c.requires.usable }
