-- The fields that an array names, found member by member.
use Rattle.std.proofs.Common.{◌≡◌, ℕ, ◌+◌, ◌≤◌, List, ◌∷◌, length, drop, Option, Some, None, refl, sym, ap, ◌∙◌}
use Rattle.std.specs.Prelude.{bit_or, slice_get}
use Rattle.std.specs.List.{fold}
use Rattle.std.specs.Option.{option_and_then, option_map}
use Rattle.php_graph.specs.declared.key.Key.{Key}
use Rattle.php_graph.specs.declared.child.Child.{Child}
use Rattle.php_graph.specs.declared.kind.Kind.{Kind}
use Rattle.apcu_model.specs.declared.searching.Fields.{Fields}
use Rattle.script_read.specs.Arguments.{each, members, bit_named, fields}
use Rattle.script_read.proofs.Members.{step, drop_get, drop_all}

-- the fields that were found before, and those that are still found
abbrev pub with_bits : ℕ → Option (List ℕ) → Option Fields
with_bits bits found = option_map (λ more. record { 0 = fold bit_or bits more }) found

one_before : (bits y : ℕ) (found : Option (List ℕ)) → with_bits (bit_or bits y) found ≡ with_bits bits (option_map (λ ys. y ∷ ys) found)
one_before bits y (Some ys) = refl
one_before bits y None = refl

-- the bits of the members from a place on
abbrev pub bits_behind : List Kind → List (Key × Child) → ℕ → Option (List ℕ)
bits_behind g ms i = each (λ m. bit_named g m.1) (drop i ms)

found_at : (g : List Kind) (ms : List (Key × Child)) (i : ℕ) (m : Key × Child) (found : Option ℕ) → slice_get ms i ≡ Some m → bit_named g m.1 ≡ found
    → bits_behind g ms i ≡ step (λ m. bit_named g m.1) (drop (i + 1) ms) found
found_at g ms i m found at is =
    ap (each (λ m. bit_named g m.1)) (drop_get ms i m at) ∙ ap (step (λ m. bit_named g m.1) (drop (i + 1) ms)) is

pub one_bit_more : (g : List Kind) (ms : List (Key × Child)) (i : ℕ) (m : Key × Child) (bits bit : ℕ) (whole : Option Fields) → slice_get ms i ≡ Some m → bit_named g m.1 ≡ Some bit
    → with_bits bits (bits_behind g ms i) ≡ whole → with_bits (bit_or bits bit) (bits_behind g ms (i + 1)) ≡ whole
one_bit_more g ms i m bits bit whole at is so_far =
    one_before bits bit (bits_behind g ms (i + 1)) ∙ (ap (with_bits bits) (sym (found_at g ms i m (Some bit) at is)) ∙ so_far)

pub no_field : (g : List Kind) (ms : List (Key × Child)) (i : ℕ) (m : Key × Child) (bits : ℕ) (whole : Option Fields) → slice_get ms i ≡ Some m → bit_named g m.1 ≡ None
    → with_bits bits (bits_behind g ms i) ≡ whole → None ≡ whole
no_field g ms i m bits whole at is so_far = ap (with_bits bits) (sym (found_at g ms i m None at is)) ∙ so_far

pub all_bits : (g : List Kind) (ms : List (Key × Child)) (i bits : ℕ) (whole : Option Fields) → length ms ≤ i → with_bits bits (bits_behind g ms i) ≡ whole → Some (record { 0 = bits }) ≡ whole
all_bits g ms i bits whole few so_far = ap (λ (l : List (Key × Child)). with_bits bits (each (λ m. bit_named g m.1) l)) (sym (drop_all ms i few)) ∙ so_far

pub fields_are : (g : List Kind) (ms : List (Key × Child)) → members g ≡ Some ms → fields g ≡ with_bits 0 (bits_behind g ms 0)
fields_are g ms at = ap (λ (o : Option (List (Key × Child))). option_map (λ more. record { 0 = fold bit_or 0 more }) (option_and_then (each (λ m. bit_named g m.1)) o)) at
