-- The texts of values that a fetch answers at once.
use Rattle.std.proofs.Common.{◌≡◌, ℤ, Bool, true, false, [], ◌∷◌, codes, refl}
use Rattle.php_graph.specs.declared.kind.Kind.TheVariants as kinds
use Rattle.notation.specs.Notation.{child_text, integer_text, text_of}
use Rattle.reply_text.specs.Replies.{flag_text}

pub null-text : text_of (kinds.Null ∷ []) ≡ codes "N;"
unfolding child_text
null-text = refl

pub flag-text : (b : Bool) → text_of (kinds.Bool b ∷ []) ≡ flag_text b
unfolding child_text
flag-text true = refl
flag-text false = refl

pub number-text : (n : ℤ) → text_of (kinds.Int n ∷ []) ≡ integer_text n
unfolding child_text
number-text n = refl
