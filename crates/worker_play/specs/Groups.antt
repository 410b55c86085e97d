-- Calls that are played in the same way.
use Rattle.script_read.specs.declared.call.Call.{Call}
use Rattle.script_read.specs.declared.call.Call.TheVariants.{StoreOne, ExistsOne, DeleteOne, Cas}
use Rattle.script_read.specs.declared.call.Call.TheVariants.{KeyInfo, CacheInfo, SmaInfo, Walk}
use Rattle.script_read.specs.declared.call.Call.TheVariants.{WalkDelete, Totals, Pool}

-- of one key, whose result is whether it was done
abbrev pub IsFlagged : Call → Type 0
IsFlagged (StoreOne key value ttl exclusive) = Unit {0}
IsFlagged (ExistsOne key) = Unit {0}
IsFlagged (DeleteOne key) = Unit {0}
IsFlagged (Cas key expect set) = Unit {0}
IsFlagged _ = ⊥

-- whose result is information about a key, the cache or its segment
abbrev pub IsInforming : Call → Type 0
IsInforming (KeyInfo key) = Unit {0}
IsInforming (CacheInfo limited) = Unit {0}
IsInforming (SmaInfo limited) = Unit {0}
IsInforming _ = ⊥

-- over the rows whose keys a search finds, or on a pool, which is cleared by a search
abbrev pub MayNeedSearch : Call → Type 0
MayNeedSearch (Walk wanted fields size list) = Unit {0}
MayNeedSearch (WalkDelete wanted size) = Unit {0}
MayNeedSearch (Totals wanted list) = Unit {0}
MayNeedSearch (Pool call) = Unit {0}
MayNeedSearch _ = ⊥

-- all others
abbrev pub NeedsNoSearch : Call → Type 0
NeedsNoSearch (Walk wanted fields size list) = ⊥
NeedsNoSearch (WalkDelete wanted size) = ⊥
NeedsNoSearch (Totals wanted list) = ⊥
NeedsNoSearch (Pool call) = ⊥
NeedsNoSearch _ = Unit {0}
