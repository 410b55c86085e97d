-- A cache that was made.
use Rattle.std.specs.Prelude.{◌≡◌, ℕ, ◌⊎◌, replicate}
use Rattle.apcu_model.specs.declared.conf.Conf.{Conf}
use Rattle.apcu_model.specs.Conf.{IsUsable}
use Rattle.apcu_model.specs.Cache.{empty_cache}
use Rattle.cache_core.specs.CoreCache.{cache_of}
use Rattle.cache_c.specs.declared.cache.Cache.{Cache}
use Rattle.cache_c.specs.declared.making.Shape.{Shape}
use Rattle.cache_c.specs.declared.making.TheConstants.{BAD_SHAPE, NO_ROOM}
use Rattle.cache_c.specs.Standing.{StandsForCache, seats_of}

-- the shape that is asked for
abbrev pub conf_of : Shape → Conf
conf_of shape = record {
  words = shape.words;
  slots = shape.slots;
  ttl = shape.ttl;
  segments = shape.segments;
}

-- its words represent the empty cache of this shape, and no seat holds a block
pub record IsEmpty (conf : Conf) (cache : Cache) : Type 0 where
  pub stand : StandsForCache cache
  pub empty : cache_of cache.core ≡ empty_cache conf
  pub seats : seats_of cache ≡ replicate 64 0

-- why none was made: no cache has this shape, or there was no memory for one that has
abbrev pub IsRefusal : Shape → ℕ → Type 0
IsRefusal shape why =
    ((why ≡ BAD_SHAPE) × (IsUsable (conf_of shape) → ⊥)) ⊎
    ((why ≡ NO_ROOM) × IsUsable (conf_of shape))
