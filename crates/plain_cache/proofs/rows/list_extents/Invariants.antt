use Rattle.std.proofs.Common.{◌≡◌, take, map, vec_len, vec_capacity}
use Rattle.apcu_model.specs.Cache.{extent_of}
use Rattle.plain_cache.proofs.rows.list_extents.Given as goal

abbrev pub invariant-loop-row : goal.invariant-loop-row
invariant-loop-row l = record {
  items : l.extents.items ≡ map extent_of (take l.row-index l.rows);
  len : vec_len l.extents ≡ l.row-index;
  capacity : vec_capacity l.extents ≡ vec_capacity l.initial.extents;
}
