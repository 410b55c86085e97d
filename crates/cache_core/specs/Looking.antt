-- What a look-up finds.
use Rattle.std.specs.Prelude.{◌≡◌, ℕ, ◌+◌, ◌<◌, ◌≤◌, List, [], ◌∷◌, Option, Some, None, find}
use Rattle.std.specs.Prelude.{Contains}
use Rattle.php_graph.specs.declared.kind.Kind.{Kind}
use Rattle.php_graph.specs.declared.kind.Kind.TheVariants as kinds
use Rattle.seg_words.specs.Blocks.{IsTold}
use Rattle.value_image.specs.Image.{IsImageOf}
use Rattle.apcu_model.specs.Cache.{Row, Cache, has_key}
use Rattle.apcu_model.specs.Expiry.{live_row}
use Rattle.cache_core.specs.declared.scalar.Scalar.{Scalar}
use Rattle.cache_core.specs.declared.scalar.Scalar.TheVariants as scalars
use Rattle.cache_core.specs.declared.scalar.Look.{Look}
use Rattle.cache_core.specs.declared.scalar.Look.TheVariants as look

-- null, a boolean or an integer
abbrev pub scalar_kind : Kind → Option Scalar
scalar_kind kinds.Null = Some scalars.Null
scalar_kind (kinds.Bool b) = Some (scalars.Bool b)
scalar_kind (kinds.Int n) = Some (scalars.Int n)
scalar_kind _ = None

-- what a value's first place holds, if it is one of these
abbrev pub scalar_of : List Kind → Option Scalar
scalar_of [] = None
scalar_of (kind ∷ places) = scalar_kind kind

-- it is returned at once, and any other value by the place of its row's block
abbrev pub look_at : ℕ → Option Scalar → Look
look_at place (Some scalar) = look.Scalar scalar
look_at place None = look.Hit place

-- what is returned for the row that a look-up finds
abbrev pub look_of : Option Row → Look
look_of None = look.Miss
look_of (Some row) = look_at row.place (scalar_of row.graph)

-- The row of the key is this one, and its block is at `at`.
pub record IsRowOf (c : Cache) (key : List ℕ) (at : ℕ) (row : Row) : Type 0 where
  pub there : Contains c.rows row
  pub place : row.place ≡ at
  pub key_is : row.key ≡ key

-- A look-up of the key finds the row at `at`.
pub record IsFound (key : List ℕ) (t : ℕ) (c : Cache) (at : ℕ) : Type 0 where
  pub row : Row
  pub live : live_row key t c ≡ Some row
  pub first : find (has_key key) c.rows ≡ Some row
  pub is_row : IsRowOf c key at row

-- The image of some value begins at `at`, and can be read.
pub record HasImage (words windows : List ℕ) (at : ℕ) : Type 0 where
  pub graph : List Kind
  pub len : ℕ
  pub stands : IsImageOf words at len graph
  pub told : (i : ℕ) → at ≤ i → i < at + len → IsTold windows i
