-- A value of one place: what is read of it, and that it is a graph.
use Rattle.std.proofs.Common.{◌≡◌, ℕ, zero, suc, ◌+◌, List, [], ◌∷◌, Some, Ok, Err, ℤ, FitsSigned, w64, refl, sym, ap, ◌∙◌, subst, length, arith}
use Rattle.seg_words.specs.Layout.{words_in}
use Rattle.php_graph.specs.ByteStrings.{AreBytes}
use Rattle.php_graph.specs.declared.kind.Kind.TheVariants as kinds
use Rattle.php_graph.specs.declared.places.Place.{Place}
use Rattle.php_graph.specs.Graph.{IsGraph, kind_at, end_of, child_end}
use Rattle.php_graph.specs.PlaceOffsets.{IsKept, kinds_at, offsets_at}
use Rattle.notation.specs.declared.fault.Fault.{Fault}
use Rattle.notation.specs.Marks.{string_at, integer_at}
use Rattle.notation.specs.Reading.{int_at, str_at, tagged_at, begun_at, value_at, reading_of}

-- ---- what is read

string_ok : (rest : List ℕ) (text : List ℕ × List ℕ) → string_at rest ≡ Ok text → reading_of (115 ∷ rest) ≡ Ok (kinds.Str text.0 ∷ [], text.1)
unfolding reading_of value_at begun_at tagged_at str_at
string_ok rest text e = rw e refl

string_err : (rest : List ℕ) (fault : Fault) → string_at rest ≡ Err fault → reading_of (115 ∷ rest) ≡ Err fault
unfolding reading_of value_at begun_at tagged_at str_at
string_err rest fault e = rw e refl

integer_ok : (rest : List ℕ) (n : ℤ × List ℕ) → integer_at rest ≡ Ok n → reading_of (105 ∷ rest) ≡ Ok (kinds.Int n.0 ∷ [], n.1)
unfolding reading_of value_at begun_at tagged_at int_at
integer_ok rest n e = rw e refl

integer_err : (rest : List ℕ) (fault : Fault) → integer_at rest ≡ Err fault → reading_of (105 ∷ rest) ≡ Err fault
unfolding reading_of value_at begun_at tagged_at int_at
integer_err rest fault e = rw e refl

pub string_found : (bytes rest : List ℕ) (text : List ℕ × List ℕ) → bytes ≡ 115 ∷ rest → string_at rest ≡ Ok text → reading_of bytes ≡ Ok (kinds.Str text.0 ∷ [], text.1)
string_found bytes rest text is read = ap reading_of is ∙ string_ok rest text read

pub string_fails : (bytes rest : List ℕ) (fault : Fault) → bytes ≡ 115 ∷ rest → string_at rest ≡ Err fault → reading_of bytes ≡ Err fault
string_fails bytes rest fault is read = ap reading_of is ∙ string_err rest fault read

pub integer_found : (bytes rest : List ℕ) (n : ℤ × List ℕ) → bytes ≡ 105 ∷ rest → integer_at rest ≡ Ok n → reading_of bytes ≡ Ok (kinds.Int n.0 ∷ [], n.1)
integer_found bytes rest n is read = ap reading_of is ∙ integer_ok rest n read

pub integer_fails : (bytes rest : List ℕ) (fault : Fault) → bytes ≡ 105 ∷ rest → integer_at rest ≡ Err fault → reading_of bytes ≡ Err fault
integer_fails bytes rest fault is read = ap reading_of is ∙ integer_err rest fault read

-- ---- graphs

no_target : (text : List ℕ) (p x : ℕ) → kind_at (kinds.Str text ∷ []) p ≡ Some (kinds.Same x) → ⊥
no_target text zero x k = cc
no_target text (suc zero) x k = cc
no_target text (suc (suc p)) x k = cc

none_named : (n : ℤ) (p x : ℕ) → kind_at (kinds.Int n ∷ []) p ≡ Some (kinds.Same x) → ⊥
none_named n zero x k = cc
none_named n (suc zero) x k = cc
none_named n (suc (suc p)) x k = cc

string_graph : (text : List ℕ) → AreBytes text → IsGraph (kinds.Str text ∷ [])
unfolding end_of child_end
string_graph text fits = record {
  sealed = refl;
  targets = λ p x k. absurd (no_target text p x k);
  well_formed = (refl, tt);
  fits = (fits, tt);
  count = omega arith;
}

integer_graph : (n : ℤ) → FitsSigned w64 n → IsGraph (kinds.Int n ∷ [])
unfolding end_of child_end
integer_graph n fits = record {
  sealed = refl;
  targets = λ p x k. absurd (none_named n p x k);
  well_formed = (refl, tt);
  fits = (fits, tt);
  count = omega arith;
}

string_alone : (text : List ℕ) → AreBytes text → IsKept (kinds.Str text ∷ []) (0 ∷ []) (1 + words_in (length text))
string_alone text fits = record { graph = string_graph text fits; offsets_are = refl; few = omega arith; words_are = omega arith; small = omega (arith, fits.0) }

integer_alone : (n : ℤ) → FitsSigned w64 n → IsKept (kinds.Int n ∷ []) (0 ∷ []) 2
integer_alone n fits = record { graph = integer_graph n fits; offsets_are = refl; few = omega arith; words_are = refl; small = omega arith }

-- with no further places
pub string_kept : (text : List ℕ) (words : ℕ) → AreBytes text → words ≡ 1 + words_in (length text) → (others : List Place) → others ≡ [] → IsKept (kinds.Str text ∷ kinds_at others) (0 ∷ offsets_at others) words
string_kept text words fits are others none =
    subst (λ (l : List Place). IsKept (kinds.Str text ∷ kinds_at l) (0 ∷ offsets_at l) words) (sym none)
    (subst (λ (w : ℕ). IsKept (kinds.Str text ∷ []) (0 ∷ []) w) (sym are) (string_alone text fits))

pub integer_kept : (n m : ℤ) → FitsSigned w64 n → m ≡ n → (others : List Place) → others ≡ [] → IsKept (kinds.Int m ∷ kinds_at others) (0 ∷ offsets_at others) 2
integer_kept n m fits is others none =
    subst (λ (l : List Place). IsKept (kinds.Int m ∷ kinds_at l) (0 ∷ offsets_at l) 2) (sym none)
    (subst (λ (z : ℤ). IsKept (kinds.Int z ∷ []) (0 ∷ []) 2) (sym is) (integer_alone n fits))
