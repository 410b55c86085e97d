-- Text that grows.
use Rattle.std.proofs.Common.{◌≡◌, ◌∙◌, ℕ, List, [], ◌++◌, ap, sym, append_assoc, append-nil}
use Rattle.std.specs.Prelude.{Result, Ok, Err, OnOk, OnErr}
use Rattle.notation.specs.Appending.{Extends}

pub extends_same : (old new : List ℕ) → new ≡ old → Extends old new
extends_same old new e = record { added = []; is = e ∙ sym (append-nil old) }

pub extends_by : (old new more : List ℕ) → new ≡ old ++ more → Extends old new
extends_by old new more e = record { added = more; is = e }

pub extends_on : {first middle last : List ℕ} → Extends first middle → Extends middle last
    → Extends first last
extends_on {first} {middle} {last} one then = record {
  added = one.added ++ then.added;
  is = then.is ∙ ap (λ l. l ++ then.added) one.is ∙ append_assoc first one.added then.added;
}

-- the next piece of a text was appended
pub piece_on : (all now next piece rest : List ℕ) → now ++ (piece ++ rest) ≡ all
    → next ≡ now ++ piece → next ++ rest ≡ all
piece_on all now next piece rest was is =
    ap (λ l. l ++ rest) is ∙ append_assoc now piece rest ∙ was

-- what follows from what an answer brings
pub on_ok : {T E P Q : Type 0} (r : Result T E) → (P → Q) → OnOk r P → OnOk r Q
on_ok (Ok x) f h = f h
on_ok (Err e) f h = tt

pub on_err : {T E P Q : Type 0} (r : Result T E) → (P → Q) → OnErr r P → OnErr r Q
on_err (Ok x) f h = tt
on_err (Err e) f h = f h
