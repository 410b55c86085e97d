-- Requests with borrowed keys and values.
use Rattle.std.specs.Prelude.{Option, option_map}
use Rattle.std.specs.Borrow.{Bor}
use Rattle.apcu_model.specs.declared.ask.Ask.{Ask}
use Rattle.apcu_model.specs.declared.ask.Ask.TheVariants as ask
use Rattle.apcu_model.specs.declared.searching.Pattern.{Pattern}
use Rattle.apcu_model.specs.declared.request.Request.{Request}
use Rattle.apcu_model.specs.declared.request.Request.TheVariants as request

-- the pattern that is borrowed, if there is one
abbrev pub pattern_lent : Option (Bor Pattern) → Option Pattern
pattern_lent wanted = option_map (λ (p : Bor Pattern). p.now) wanted

-- the request that a borrowed one represents
abbrev pub asked : Ask → Request
asked (ask.Store key value ttl exclusive) = request.Store key.now value.now ttl exclusive
asked (ask.Fetch key) = request.Fetch key.now
asked (ask.Exists key) = request.Exists key.now
asked (ask.Delete key) = request.Delete key.now
asked (ask.Inc key step ttl) = request.Inc key.now step ttl
asked (ask.Cas key expect set) = request.Cas key.now expect set
asked (ask.Entry g) = request.Entry g.now
asked ask.Clear = request.Clear
asked (ask.KeyInfo key) = request.KeyInfo key.now
asked (ask.CacheInfo limited) = request.CacheInfo limited
asked (ask.SmaInfo limited) = request.SmaInfo limited
asked (ask.Chunk wanted from size list fields) =
    request.Chunk (pattern_lent wanted) from size list fields
asked (ask.ChunkDelete wanted from size) = request.ChunkDelete (pattern_lent wanted) from size
asked (ask.Totals wanted list) = request.Totals (pattern_lent wanted) list
asked ask.Retire = request.Retire
