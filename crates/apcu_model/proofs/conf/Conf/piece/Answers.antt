use Rattle.std.proofs.Common.{ℕ, ◌/◌, refl, sym, ap, ◌∙◌}
use Rattle.std.proofs.Math.Nat as nat
use Rattle.apcu_model.specs.Conf.{piece_of}
use Rattle.apcu_model.proofs.conf.Conf.piece.Goals as goal

pub returns-then-self-eq0 : goal.returns-then-self-eq0
unfolding piece_of
returns-then-self-eq0 c = sym (ap (λ (k : ℕ). c.args.self.now.words / k) c.if-self-eq0.true ∙ nat.div-zero c.args.self.now.words)

pub returns : goal.returns
unfolding piece_of
returns c = refl
