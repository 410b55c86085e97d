use Rattle.run_verify.proofs.CallProgress.{asks_at}
use Rattle.run_verify.proofs.asking.pair_at.Goals as goal

pub returns-then-k-len : goal.returns-then-k-len
returns-then-k-len c ask = asks_at ask c.args.pairs.now c.args.k _ c.at.ensures
