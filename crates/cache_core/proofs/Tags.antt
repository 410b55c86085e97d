-- The first words of an image.
use Rattle.std.proofs.Common.{◌≡◌, ◌≢◌, ℕ, ◌+◌, ◌*◌, ◌%◌, ◌<◌, ◌≤◌, Bool, true, false, List, [], ◌∷◌, ◌++◌, length, drop, refl, sym, ap, ◌∙◌, subst, arith}
use Rattle.std.specs.Prelude.{if◌then◌else◌, slice_index, Some, None, ℤ, FitsSigned}
use Rattle.std.specs.Int.{w64, cast_unsigned}
use Rattle.std.specs.List.{flat_map, AllByRecursion}
use Rattle.std.proofs.lemmas.List.{length-take, length-drop}
use Rattle.php_graph.specs.declared.kind.Kind.{Kind}
use Rattle.php_graph.specs.declared.kind.Kind.TheVariants as kinds
use Rattle.php_graph.specs.Graph.{IsGraph, FitsKind, end_of, child_end}
use Rattle.php_graph.specs.Size.{image_length, offset_of}
use Rattle.value_image.specs.Rows.{StandsAt}
use Rattle.value_image.specs.Image.{IsImageOf, kind_words, place_words, image_of}
use Rattle.cache_core.specs.declared.scalar.Scalar.TheVariants as scalars
use Rattle.cache_core.specs.Looking.{scalar_of}

-- the first word of a place
abbrev pub tag_of : Kind → ℕ
tag_of kinds.Null = 0
tag_of (kinds.Bool b) = 1 + 8 * (if b then 1 else 0)
tag_of (kinds.Int n) = 2
tag_of (kinds.Str bytes) = 3 + 8 * length bytes
tag_of (kinds.Array ms) = 4 + 8 * length ms
tag_of (kinds.Object class ps) = 5 + 8 * length ps
tag_of (kinds.Same x) = 6

first_is : (offset : ℕ → ℕ) (kind : Kind) (more : List ℕ) → slice_index (kind_words offset kind ++ more) 0 ≡ tag_of kind
first_is offset kinds.Null more = refl
first_is offset (kinds.Bool b) more = refl
first_is offset (kinds.Int n) more = refl
first_is offset (kinds.Str bytes) more = refl
first_is offset (kinds.Array ms) more = refl
first_is offset (kinds.Object class ps) more = refl
first_is offset (kinds.Same x) more = refl

some_words : (offset : ℕ → ℕ) (kind : Kind) (more : List ℕ) → 1 ≤ length (kind_words offset kind ++ more)
some_words offset kinds.Null more = omega arith
some_words offset (kinds.Bool b) more = omega arith
some_words offset (kinds.Int n) more = omega arith
some_words offset (kinds.Str bytes) more = omega arith
some_words offset (kinds.Array ms) more = omega arith
some_words offset (kinds.Object class ps) more = omega arith
some_words offset (kinds.Same x) more = omega arith

not_empty : IsGraph [] → ⊥
unfolding end_of child_end
not_empty g = absurd (cc g.sealed)

image_begins : (kind : Kind) (rest : List Kind) → image_of (kind ∷ rest) ≡ kind_words (offset_of (kind ∷ rest)) kind ++ flat_map (place_words (kind ∷ rest)) rest
unfolding image_of
image_begins kind rest = refl

stands_inside : (row : List ℕ) (at : ℕ) (run : List ℕ) (i : ℕ) → StandsAt row at run → i < length run → at + i < length row
stands_inside row at run i stands low =
    let long = ap length stands in
    let taken = length-take (length run) (drop at row) in
    let left = length-drop at row in
    omega (arith, long, taken, left, low)

-- What the first words of an image in a row are.
pub record IsFirst (row : List ℕ) (at len : ℕ) (g : List Kind) : Type 0 where
  pub kind : Kind
  pub rest : List Kind
  pub all : g ≡ kind ∷ rest
  pub some : 0 < len
  pub inside : at < length row
  pub word : slice_index row at ≡ tag_of kind
  pub next : (n : ℤ) → kind ≡ kinds.Int n → (1 < len) × (at + 1 < length row) × (slice_index row (at + 1) ≡ cast_unsigned w64 n) × FitsSigned w64 n

pub first_from : (row : List ℕ) (at len : ℕ) (g : List Kind) → ((run : List ℕ) (i : ℕ) → StandsAt row at run → i < length run → slice_index row (at + i) ≡ slice_index run i)
    → length (image_of g) ≡ image_length g → StandsAt row at (image_of g) → IsImageOf row at len g → IsFirst row at len g
first_from row at len [] words long stands image = absurd (not_empty image.graph)
first_from row at len (kind ∷ rest) words long stands image = record {
  kind = kind;
  rest = rest;
  all = refl;
  some = omega (arith, enough, long, image.length_is);
  inside = let inside = stands_inside row at (image_of (kind ∷ rest)) 0 stands (omega (arith, enough)) in omega (arith, inside);
  word = ap (slice_index row) (let e : at ≡ at + 0 = omega arith in e) ∙ (words (image_of (kind ∷ rest)) 0 stands (omega (arith, enough)) ∙ (ap (λ run. slice_index run 0) begins ∙ first_is offset kind more));
  next = λ n e. (
    omega (arith, two n e, long, image.length_is),
    stands_inside row at (image_of (kind ∷ rest)) 1 stands (omega (arith, two n e)),
    words (image_of (kind ∷ rest)) 1 stands (omega (arith, two n e)) ∙ (ap (λ run. slice_index run 1) begins ∙ ap (λ k. slice_index (kind_words offset k ++ more) 1) e),
    subst (λ k. FitsKind k) e (fits_first image.graph.fits),
  );
}
  where
    offset : ℕ → ℕ
    offset = offset_of (kind ∷ rest)

    more : List ℕ
    more = flat_map (place_words (kind ∷ rest)) rest

    begins : image_of (kind ∷ rest) ≡ kind_words (offset_of (kind ∷ rest)) kind ++ flat_map (place_words (kind ∷ rest)) rest
    begins = image_begins kind rest

    enough : 1 ≤ length (image_of (kind ∷ rest))
    enough = subst (λ run. 1 ≤ length run) (sym begins) (some_words (offset_of (kind ∷ rest)) kind (flat_map (place_words (kind ∷ rest)) rest))

    two : (n : ℤ) → kind ≡ kinds.Int n → 2 ≤ length (image_of (kind ∷ rest))
    two n e = subst (λ run. 2 ≤ length run) (sym begins) (subst (λ k. 2 ≤ length (kind_words (offset_of (kind ∷ rest)) k ++ flat_map (place_words (kind ∷ rest)) rest)) (sym e) (omega arith))

    fits_first : AllByRecursion FitsKind (kind ∷ rest) → FitsKind kind
    fits_first f = f.0

pub null_is : {row : List ℕ} {at len : ℕ} {g : List Kind} → IsFirst row at len g → slice_index row at % 8 ≡ 0 → Some scalars.Null ≡ scalar_of g
null_is {row} {at} f code = go f.kind f.word ∙ ap scalar_of (sym f.all)
  where
    go : (kind : Kind) → slice_index row at ≡ tag_of kind → Some scalars.Null ≡ scalar_of (kind ∷ f.rest)
    go kinds.Null e = refl
    go (kinds.Bool true) e = absurd (omega (arith, e, code))
    go (kinds.Bool false) e = absurd (omega (arith, e, code))
    go (kinds.Int n) e = absurd (omega (arith, e, code))
    go (kinds.Str bytes) e = absurd (omega (arith, e, code))
    go (kinds.Array ms) e = absurd (omega (arith, e, code))
    go (kinds.Object class ps) e = absurd (omega (arith, e, code))
    go (kinds.Same x) e = absurd (omega (arith, e, code))

pub bool_is : {row : List ℕ} {at len : ℕ} {g : List Kind} (b : Bool) → IsFirst row at len g → slice_index row at % 8 ≡ 1 → (b ≡ true → slice_index row at ≢ 1) → (b ≡ false → slice_index row at ≡ 1) → Some (scalars.Bool b) ≡ scalar_of g
bool_is {row} {at} b f code is isnt = go b is isnt f.kind f.word ∙ ap scalar_of (sym f.all)
  where
    go : (b : Bool) → (b ≡ true → slice_index row at ≢ 1) → (b ≡ false → slice_index row at ≡ 1) → (kind : Kind) → slice_index row at ≡ tag_of kind → Some (scalars.Bool b) ≡ scalar_of (kind ∷ f.rest)
    go b is isnt kinds.Null e = absurd (omega (arith, e, code))
    go true is isnt (kinds.Bool true) e = refl
    go false is isnt (kinds.Bool false) e = refl
    go true is isnt (kinds.Bool false) e = absurd (is refl (omega (arith, e)))
    go false is isnt (kinds.Bool true) e = absurd (omega (arith, e, isnt refl))
    go b is isnt (kinds.Int n) e = absurd (omega (arith, e, code))
    go b is isnt (kinds.Str bytes) e = absurd (omega (arith, e, code))
    go b is isnt (kinds.Array ms) e = absurd (omega (arith, e, code))
    go b is isnt (kinds.Object class ps) e = absurd (omega (arith, e, code))
    go b is isnt (kinds.Same x) e = absurd (omega (arith, e, code))

pub int_kind : {row : List ℕ} {at len : ℕ} {g : List Kind} (f : IsFirst row at len g) → slice_index row at % 8 ≡ 2 → (n : ℤ) × (f.kind ≡ kinds.Int n)
int_kind {row} {at} f code = go f.kind f.word
  where
    go : (kind : Kind) → slice_index row at ≡ tag_of kind → (n : ℤ) × (kind ≡ kinds.Int n)
    go (kinds.Int n) e = (n, refl)
    go kinds.Null e = absurd (omega (arith, e, code))
    go (kinds.Bool true) e = absurd (omega (arith, e, code))
    go (kinds.Bool false) e = absurd (omega (arith, e, code))
    go (kinds.Str bytes) e = absurd (omega (arith, e, code))
    go (kinds.Array ms) e = absurd (omega (arith, e, code))
    go (kinds.Object class ps) e = absurd (omega (arith, e, code))
    go (kinds.Same x) e = absurd (omega (arith, e, code))

pub other_is : {row : List ℕ} {at len : ℕ} {g : List Kind} → IsFirst row at len g → slice_index row at % 8 ≢ 0 → slice_index row at % 8 ≢ 1 → slice_index row at % 8 ≢ 2 → None ≡ scalar_of g
other_is {row} {at} f zero' one two = go f.kind f.word ∙ ap scalar_of (sym f.all)
  where
    go : (kind : Kind) → slice_index row at ≡ tag_of kind → None ≡ scalar_of (kind ∷ f.rest)
    go kinds.Null e = absurd (zero' (omega (arith, e)))
    go (kinds.Bool true) e = absurd (one (omega (arith, e)))
    go (kinds.Bool false) e = absurd (one (omega (arith, e)))
    go (kinds.Int n) e = absurd (two (omega (arith, e)))
    go (kinds.Str bytes) e = refl
    go (kinds.Array ms) e = refl
    go (kinds.Object class ps) e = refl
    go (kinds.Same x) e = refl
