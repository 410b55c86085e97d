-- The texts of values that are strings.
use Rattle.std.proofs.Common.{◌≡◌, ◌++◌, ℕ, List, [], ◌∷◌, length, Option, Some, None, codes, refl, ap, sym, append_assoc, ◌∙◌}
use Rattle.std.specs.Option.{option_map}
use Rattle.php_graph.specs.declared.kind.Kind.{Kind}
use Rattle.php_graph.specs.declared.kind.Kind.TheVariants as kinds
use Rattle.notation.specs.Appending.{Extends}
use Rattle.notation.specs.Parts.{string_head}
use Rattle.notation.specs.Notation.{child_text, string_text, text_of}
use Rattle.value_image.specs.Texts.{string_of}

-- bytes of this number
pub counted : (found : Option (List ℕ)) (n : ℕ) → Some n ≡ option_map (λ (bytes : List ℕ). length bytes) found → (bytes : List ℕ) × (found ≡ Some bytes) × (n ≡ length bytes)
counted None n h = cc
counted (Some bytes) n h = (bytes, refl, (let same : n ≡ length bytes = cc in same))

-- the text of a value that is a string
pub string-text : (g : List Kind) (bytes : List ℕ) → string_of g ≡ Some bytes → text_of g ≡ string_text bytes
unfolding child_text
string-text (kinds.Str bs ∷ ks) bytes h = let same : bs ≡ bytes = cc in ap string_text same
string-text [] bytes h = cc
string-text (kinds.Null ∷ ks) bytes h = cc
string-text (kinds.Bool b ∷ ks) bytes h = cc
string-text (kinds.Int n ∷ ks) bytes h = cc
string-text (kinds.Array ms ∷ ks) bytes h = cc
string-text (kinds.Object class ps ∷ ks) bytes h = cc
string-text (kinds.Same x ∷ ks) bytes h = cc

-- its head, its bytes and its end, one behind the other
pub joined : (out bytes : List ℕ) → ((out ++ string_head (length bytes)) ++ bytes) ++ codes "\";" ≡ out ++ string_text bytes
joined out bytes =
    append_assoc (out ++ string_head (length bytes)) bytes (codes "\";")
    ∙ (append_assoc out (string_head (length bytes)) (bytes ++ codes "\";")
    ∙ ap (λ (text : List ℕ). out ++ text) (sym (append_assoc (string_head (length bytes)) bytes (codes "\";"))))

-- what was appended in two parts
pub longer : (out head bytes now : List ℕ) → now ≡ (out ++ head) ++ bytes → Extends out now
longer out head bytes now e = record { added = head ++ bytes; is = e ∙ append_assoc out head bytes }
