-- Values that are strings, out of their images.
use Rattle.std.proofs.Common.{◌≡◌, ◌≢◌, ◌/◌, take, drop, ℕ, ◌+◌, ◌*◌, ◌%◌, ◌<◌, ◌≤◌, ◌^◌, List, [], ◌∷◌, length, slice_get, slice_index, Option, Some, None, refl, ap, sym, subst, arith, ◌∙◌}
use Rattle.php_graph.specs.declared.kind.Kind.{Kind}
use Rattle.php_graph.specs.declared.kind.Kind.TheVariants as kinds
use Rattle.php_graph.specs.Size.{image_length, offset_of}
use Rattle.seg_words.specs.Blocks.{IsTold}
use Rattle.seg_words.specs.Windows.{Aside}
use Rattle.seg_words.specs.Layout.{words_in}
use Rattle.value_image.specs.PackedBytes.{bytes_of, words_of}
use Rattle.value_image.specs.Reading.{IsKindAt, IsStringAt, renumbered_kind}
use Rattle.value_image.specs.Texts.{IsToldImage, string_of}
use Rattle.value_image.proofs.Images.{image-inside}
use Rattle.value_image.proofs.OffsetTables.{image-some}
use Rattle.value_image.proofs.ImageParts.{kind-string, told-first, text-inside, text-told, text-bytes}
use Rattle.value_image.proofs.ImageWalk.{walk-first}

-- an image lies in its row
pub told-inside : (row windows : List ℕ) (at : ℕ) (g : List Kind) → IsToldImage row windows at g → (at < length row) × (image_length g < length row + 1)
told-inside row windows at g h =
    let some = image-some row at (image_length g) g h.image in
    let inside = image-inside row at (image_length g) g h.image some in
    (omega (arith, some, inside), omega (arith, inside))

string-get : (g : List Kind) (bytes : List ℕ) → string_of g ≡ Some bytes → slice_get g 0 ≡ Some (kinds.Str bytes)
string-get (kinds.Str bs ∷ ks) bytes h = let same : bs ≡ bytes = cc in ap (λ (b : List ℕ). Some (kinds.Str b)) same
string-get [] bytes h = cc
string-get (kinds.Null ∷ ks) bytes h = cc
string-get (kinds.Bool b ∷ ks) bytes h = cc
string-get (kinds.Int n ∷ ks) bytes h = cc
string-get (kinds.Array ms ∷ ks) bytes h = cc
string-get (kinds.Object class ps ∷ ks) bytes h = cc
string-get (kinds.Same x ∷ ks) bytes h = cc

get-string : (g : List Kind) (kind : Kind) (f : ℕ → ℕ) (bytes : List ℕ) → slice_get g 0 ≡ Some kind → renumbered_kind f kind ≡ kinds.Str bytes → string_of g ≡ Some bytes
get-string [] kind f bytes get e = cc
get-string (k ∷ ks) kinds.Null f bytes get e = cc
get-string (k ∷ ks) (kinds.Bool b) f bytes get e = cc
get-string (k ∷ ks) (kinds.Int n) f bytes get e = cc
get-string (k ∷ ks) (kinds.Str bs) f bytes get e =
    let first : k ≡ kinds.Str bs = cc in
    let same : bs ≡ bytes = cc in
    rw (first, same) refl
get-string (k ∷ ks) (kinds.Array ms) f bytes get e = cc
get-string (k ∷ ks) (kinds.Object class ps) f bytes get e = cc
get-string (k ∷ ks) (kinds.Same x) f bytes get e = cc

-- the string is there, after its tag
pub string-there : (row : List ℕ) (old : Aside) (at : ℕ) (g : List Kind) (bytes : List ℕ) → IsToldImage row old.windows at g → image_length g < 2 ^ 32 → string_of g ≡ Some bytes
    → IsStringAt row old.windows at bytes × (slice_index row at ≡ 3 + 8 * length bytes)
string-there row old at g bytes h short is =
    let step = walk-first row old at (image_length g) g h.image short h.told in
    let some : Some step.0 ≡ Some (kinds.Str bytes) = sym step.1 ∙ string-get g bytes is in
    let kind : step.0 ≡ kinds.Str bytes = cc in
    let there = subst (λ (k : Kind). IsKindAt row old.windows at (renumbered_kind (offset_of g) k)) kind step.2 in
    (record { told = there.told; fits = there.fits }, (told-first row old.windows at (3 + 8 * length bytes) (words_of bytes) there.told).2)

-- whose tag is that of a string is one
pub tag-string : (row : List ℕ) (old : Aside) (at tag : ℕ) (g : List Kind) → IsToldImage row old.windows at g → image_length g < 2 ^ 32 → tag ≡ slice_index row at → tag % 8 ≡ 3
    → (bytes : List ℕ) × (string_of g ≡ Some bytes) × (tag ≡ 3 + 8 * length bytes) × (length bytes < 2 ^ 32)
tag-string row old at tag g h short word code =
    let step = walk-first row old at (image_length g) g h.image short h.told in
    let found = kind-string row old.windows at (renumbered_kind (offset_of g) step.0) step.2 (ap (λ (w : ℕ). w % 8) (sym word) ∙ code) in
    (found.0, get-string g step.0 (offset_of g) found.0 step.1 found.1, word ∙ found.3, found.2.fits.0)

none-of : (found : Option (List ℕ)) → ((bytes : List ℕ) → found ≡ Some bytes → ⊥) → found ≡ None
none-of None h = refl
none-of (Some bytes) h = absurd (h bytes refl)

-- any other is none
pub tag-other : (row : List ℕ) (old : Aside) (at tag : ℕ) (g : List Kind) → IsToldImage row old.windows at g → image_length g < 2 ^ 32 → tag ≡ slice_index row at → tag % 8 ≢ 3 → string_of g ≡ None
tag-other row old at tag g h short word other = none-of (string_of g) (λ bytes is. other (let there = (string-there row old at g bytes h short is).1 in omega (arith, there, word)))

-- the first word of an image is told
pub told-here : (row windows : List ℕ) (at : ℕ) (g : List Kind) → IsToldImage row windows at g → IsTold windows at
told-here row windows at g h = h.told at (omega arith) (omega (arith, image-some row at (image_length g) g h.image))

-- this many bytes of a string lie in its row, after its tag
pub string-inside : (row : List ℕ) (old : Aside) (at len : ℕ) (g : List Kind) (bytes : List ℕ) → IsToldImage row old.windows at g → length row < 2 ^ 32 → string_of g ≡ Some bytes → len ≡ length bytes
    → at + 1 + words_in len ≤ length row
string-inside row old at len g bytes h short is en =
    let there = (string-there row old at g bytes h (omega (arith, short, (told-inside row old.windows at g h).1)) is).0 in
    let n : (3 + 8 * length bytes) / 8 ≡ len = omega (arith, en) in
    subst (λ (k : ℕ). at + 1 + words_in k ≤ length row) n (text-inside row old.windows at (3 + 8 * length bytes) bytes there refl)

-- they are told
pub string-told : (row : List ℕ) (old : Aside) (at len : ℕ) (g : List Kind) (bytes : List ℕ) → IsToldImage row old.windows at g → length row < 2 ^ 32 → string_of g ≡ Some bytes → len ≡ length bytes
    → (i : ℕ) → at + 1 ≤ i → i < at + 1 + words_in len → IsTold old.windows i
string-told row old at len g bytes h short is en i low high =
    let there = (string-there row old at g bytes h (omega (arith, short, (told-inside row old.windows at g h).1)) is).0 in
    let n : len ≡ (3 + 8 * length bytes) / 8 = omega (arith, en) in
    text-told row old.windows at (3 + 8 * length bytes) bytes there refl i low (subst (λ (k : ℕ). i < at + 1 + words_in k) n high)

-- and they are those of the string
pub string-bytes : (row : List ℕ) (old : Aside) (at len : ℕ) (g : List Kind) (bytes : List ℕ) → IsToldImage row old.windows at g → length row < 2 ^ 32 → string_of g ≡ Some bytes → len ≡ length bytes
    → take len (bytes_of (drop (at + 1) row)) ≡ bytes
string-bytes row old at len g bytes h short is en =
    let there = (string-there row old at g bytes h (omega (arith, short, (told-inside row old.windows at g h).1)) is).0 in
    let n : (3 + 8 * length bytes) / 8 ≡ len = omega (arith, en) in
    subst (λ (k : ℕ). take k (bytes_of (drop (at + 1) row)) ≡ bytes) n (text-bytes row old.windows at (3 + 8 * length bytes) bytes there refl)

-- two strings whose images are there have the same length
pub same-length : (row : List ℕ) (old : Aside) (at : ℕ) (g h : List Kind) (xs ys : List ℕ) → IsToldImage row old.windows at g → IsToldImage row old.windows at h → length row < 2 ^ 32
    → string_of g ≡ Some xs → string_of h ≡ Some ys → length xs ≡ length ys
same-length row old at g h xs ys gs hs short is iy =
    let x = (string-there row old at g xs gs (omega (arith, short, (told-inside row old.windows at g gs).1)) is).1 in
    let y = (string-there row old at h ys hs (omega (arith, short, (told-inside row old.windows at h hs).1)) iy).1 in
    omega (arith, x, y)
