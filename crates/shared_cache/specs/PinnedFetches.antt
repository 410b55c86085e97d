-- A fetch.
use Rattle.std.specs.Prelude.{◌≡◌, ℕ, false, List, [], ◌∷◌, length}
use Rattle.php_graph.specs.declared.kind.Kind.{Kind}
use Rattle.php_graph.specs.declared.kind.Kind.TheVariants as kinds
use Rattle.value_image.specs.Image.{IsImageOf}
use Rattle.apcu_model.specs.declared.conf.Conf.{Conf}
use Rattle.apcu_model.specs.declared.request.Request.TheVariants as request
use Rattle.apcu_model.specs.declared.request.Reply.TheVariants as reply
use Rattle.apcu_model.specs.History.{is_scalar}
use Rattle.cache_core.specs.declared.scalar.Scalar.{Scalar}
use Rattle.cache_core.specs.declared.scalar.Scalar.TheVariants as scalars
use Rattle.pin_table.specs.Values.{PassView, CopyView}
use Rattle.shared_cache.specs.declared.locked_cache.Pinned.{Pinned}
use Rattle.shared_cache.specs.declared.locked_cache.Pinned.TheVariants as pinned
use Rattle.shared_cache.specs.Follows.{Follows}

-- the pass of a worker that copies, as it is once the copy ends
abbrev pub pass_view_of : CopyView → PassView
pass_view_of k = record { table = k.table; known = k.copy.known }

-- A value was found that is copied outside the lock: it is not null, a boolean or an integer, and
-- the words of the copy are its image, from place 0 on.
pub record FollowsFound (conf : Conf) (workers : ℕ) (p : PassView) (k : CopyView) (t : ℕ)
    (key : List ℕ) : Type 0 where
  pub graph : List Kind
  pub follows : Follows conf workers p (pass_view_of k) t (request.Fetch key) (reply.Found graph)
  pub whole : is_scalar graph ≡ false
  pub image : IsImageOf k.copy.content 0 (length k.copy.content) graph

-- the value that is returned at once
abbrev pub scalar_graph : Scalar → List Kind
scalar_graph scalars.Null = kinds.Null ∷ []
scalar_graph (scalars.Bool b) = kinds.Bool b ∷ []
scalar_graph (scalars.Int n) = kinds.Int n ∷ []

-- what a fetch of the key leaves
abbrev pub IsFetched : Conf → ℕ → PassView → ℕ → List ℕ → Pinned → Type 0
IsFetched conf workers p t key (pinned.Hit k) = FollowsFound conf workers p k t key
IsFetched conf workers p t key (pinned.Scalar q scalar) =
    Follows conf workers p q t (request.Fetch key) (reply.Found (scalar_graph scalar))
IsFetched conf workers p t key (pinned.Miss q) =
    Follows conf workers p q t (request.Fetch key) reply.Absent
