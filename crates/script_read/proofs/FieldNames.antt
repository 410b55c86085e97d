-- The bit of a name, by the first of the code's fields that has it.
use Rattle.std.proofs.Common.{◌≡◌, ℕ, ◌<◌, ◌+◌, ◌≤◌, Bool, true, false, cond, List, drop, length, get_or, Option, Some, None, ap, ◌∙◌}
use Rattle.std.specs.Str.{bytes_eq}
use Rattle.std.proofs.lemmas.List.{drop_more, drop_all}
use Rattle.script_read.specs.declared.fields.Field.{Field}
use Rattle.script_read.specs.Arguments.{bit_in}
use Rattle.script_read.specs.Gives.{bits_of}

-- what the fields from this one on say
abbrev pub left : List Field → ℕ → List ℕ → Option ℕ
left fields i name = bit_in (bits_of (drop i fields)) name

step : (fields : List Field) (i : ℕ) (d : Field) (name : List ℕ) → i < length fields
    → left fields i name ≡ cond (bytes_eq name (get_or fields i d).name.now) (Some (get_or fields i d).bit) (left fields (i + 1) name)
step fields i d name inside = ap (λ (l : List Field). bit_in (bits_of l) name) (drop_more fields i d inside)

pub found : (fields : List Field) (i : ℕ) (d : Field) (name : List ℕ) → i < length fields → bytes_eq name (get_or fields i d).name.now ≡ true → left fields i name ≡ Some (get_or fields i d).bit
found fields i d name inside is = step fields i d name inside ∙ ap (λ (b : Bool). cond b (Some (get_or fields i d).bit) (left fields (i + 1) name)) is

pub passed : (fields : List Field) (i : ℕ) (d : Field) (name : List ℕ) → i < length fields → bytes_eq name (get_or fields i d).name.now ≡ false → left fields i name ≡ left fields (i + 1) name
passed fields i d name inside is = step fields i d name inside ∙ ap (λ (b : Bool). cond b (Some (get_or fields i d).bit) (left fields (i + 1) name)) is

pub none_left : (fields : List Field) (i : ℕ) (name : List ℕ) → length fields ≤ i → left fields i name ≡ None
none_left fields i name all = ap (λ (l : List Field). bit_in (bits_of l) name) (drop_all i fields all)
