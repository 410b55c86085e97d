use Rattle.std.proofs.Common.{sym, arith}
use Rattle.std.proofs.lemmas.Grind.{common_steps}
use Rattle.apcu_model.proofs.request.Request.lent.Goals as goal

pub returns-in-Store : goal.returns-in-Store
returns-in-Store c = grind (arith, common_steps)

pub returns-in-Fetch : goal.returns-in-Fetch
returns-in-Fetch c = grind (arith, common_steps)

pub returns-in-Exists : goal.returns-in-Exists
returns-in-Exists c = grind (arith, common_steps)

pub returns-in-Delete : goal.returns-in-Delete
returns-in-Delete c = grind (arith, common_steps)

pub returns-in-Inc : goal.returns-in-Inc
returns-in-Inc c = grind (arith, common_steps)

pub returns-in-Cas : goal.returns-in-Cas
returns-in-Cas c = grind (arith, common_steps)

pub returns-in-Entry : goal.returns-in-Entry
returns-in-Entry c = grind (arith, common_steps)

pub returns-in-Clear : goal.returns-in-Clear
returns-in-Clear c = sym c.in-Clear.is

pub returns-in-KeyInfo : goal.returns-in-KeyInfo
returns-in-KeyInfo c = grind (arith, common_steps)

pub returns-in-CacheInfo : goal.returns-in-CacheInfo
returns-in-CacheInfo c = grind (arith, common_steps)

pub returns-in-SmaInfo : goal.returns-in-SmaInfo
returns-in-SmaInfo c = grind (arith, common_steps)

pub returns-in-Chunk : goal.returns-in-Chunk
returns-in-Chunk c = grind (arith, common_steps)

pub returns-in-ChunkDelete : goal.returns-in-ChunkDelete
returns-in-ChunkDelete c = grind (arith, common_steps)

pub returns-in-Totals : goal.returns-in-Totals
returns-in-Totals c = grind (arith, common_steps)

pub returns-in-Retire : goal.returns-in-Retire
returns-in-Retire c = grind (arith, common_steps)
