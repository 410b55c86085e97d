-- Which rows a call drops.
use Rattle.std.specs.Prelude.{ℕ, ◌||◌, Bool, true}
use Rattle.apcu_model.specs.Cache.{Row}
use Rattle.apcu_model.specs.Expiry.{is_hard_expired, is_unused}
use Rattle.ttl_expunge.specs.declared.chains.DropRule.{DropRule}
use Rattle.ttl_expunge.specs.declared.chains.DropRule.TheVariants.{All, Expired}

abbrev pub is_to_drop : DropRule → ℕ → Row → Bool
is_to_drop All t row = true
is_to_drop (Expired limit) t row = is_hard_expired t row || is_unused limit t row
