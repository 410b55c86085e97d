use Rattle.std.proofs.Common.{sym, ap, ◌∙◌}
use Rattle.std.specs.Prelude.{option_map, Some}
use Rattle.apcu_model.specs.Cache.{Row}
use Rattle.cache_core.specs.Looking.{scalar_of}
use Rattle.cache_core.proofs.ReadOnlyCalls.{stand_kept}
use Rattle.cache_core.proofs.cache.Core.peek_in.Goals as goal

pub returns-in_default-clause-found : goal.returns-in_default-clause-found
returns-in_default-clause-found g c = ap (option_map (λ (row : Row). (row.place, scalar_of row.graph))) (sym c.in_default.ensures.none)

pub scalar_at-requires-clause-stand : goal.scalar_at-requires-clause-stand
scalar_at-requires-clause-stand g c = record { stand = stand_kept c.args.self.now.slots c.find_live.ensures.kept c.requires.stand.stand; whole = c.requires.stand.whole }

pub scalar_at-requires-clause-there : goal.scalar_at-requires-clause-there
scalar_at-requires-clause-there g c = let f = c.in-Some.ensures.found in (f.row, f.is_row)

pub returns-clause-found : goal.returns-clause-found
returns-clause-found g c =
    let f = c.in-Some.ensures.found in
    ap (λ s. Some (c.in-Some.at, s)) (c.scalar_at.ensures.scalar f.row f.is_row)
    ∙ (ap (λ n. Some (n, scalar_of f.row.graph)) (sym f.is_row.place)
    ∙ ap (option_map (λ (row : Row). (row.place, scalar_of row.graph))) (sym f.live))
