-- A history in which a pool is left alone, with another pool and other keys in the cache.
use Rattle.std.proofs.Common.{◌≡◌, ℕ, true, false, List, [], ◌∷◌, codes, refl}
use Rattle.php_graph.specs.declared.kind.Kind.{Kind}
use Rattle.php_graph.specs.declared.kind.Kind.TheVariants as kinds
use Rattle.apcu_model.specs.declared.conf.Conf.{Conf}
use Rattle.apcu_model.specs.declared.request.Event.{Event}
use Rattle.apcu_model.specs.declared.request.Request.{Request}
use Rattle.apcu_model.specs.declared.request.Request.TheVariants as asks
use Rattle.apcu_model.specs.declared.request.Reply.TheVariants as replies
use Rattle.std.specs.Prelude.{pos}
use Rattle.php_graph.specs.Numbers.{hash_of}
use Rattle.seg_words.specs.Gaps.{is_whole}
use Rattle.apcu_model.specs.Conf.{piece_of}
use Rattle.apcu_model.specs.Change.{is_among}
use Rattle.pool_laws.specs.Pools.{LeavesAlone, answered}

conf : Conf
conf = record { words = 512; slots = 32; ttl = 0; segments = 1 }

at : ℕ → Request → Event
at t request = record { worker = 0; t = t; request = request; mask = 0 }

five : List Kind
five = kinds.Int (pos 5) ∷ []

history : List Event
unfolding at five
history =
    at 1 (asks.Store (codes "{p}a") five 3 false)
    ∷ at 2 (asks.Store (codes "{q}a") five 0 false)
    ∷ at 2 (asks.Store (codes "a") five 0 true)
    ∷ at 3 (asks.Fetch (codes "{p}a"))
    ∷ at 5 (asks.Fetch (codes "{p}a"))
    ∷ []

left_alone : LeavesAlone (codes "p") conf history
unfolding history at five conf hash_of is_whole piece_of is_among
left_alone = record {
  good = refl;
  no_limit = refl;
  in_order = refl;
  no_expunge = refl;
  stored = refl;
  no_clear = refl;
  keys = refl;
  walks = (tt, (tt, (tt, (tt, (tt, tt)))));
  bytes = refl;
}

is_answered : answered (codes "p") conf history ≡ replies.Flag true ∷ replies.Found five ∷ replies.Absent ∷ []
unfolding history at five conf hash_of is_whole piece_of is_among
is_answered = refl
