-- Bytes that come, or go, one piece after the other.
use Rattle.std.proofs.Common.{◌≡◌, ℕ, ◌+◌, ◌-◌, ◌≤◌, List, [], ◌++◌, length, take, drop, refl, ap, sym, subst, IfSome, ◌∙◌, append_assoc, Option, Some, None, arith, length-append, length-take}
use Rattle.std.proofs.lemmas.Grind.{common_steps}
use Rattle.std.proofs.Math.Seq.{take-add}
use Rattle.std.specs.Io.KnownBytes.{prepend_known, append_known, IsAtEnd}
use Rattle.io_edges.specs.Reading.{HasTaken}

pub prepend-append : (xs ys : List ℕ) (left : Option (List ℕ)) → prepend_known (xs ++ ys) left ≡ prepend_known xs (prepend_known ys left)
prepend-append xs ys None = refl
prepend-append xs ys (Some zs) = ap Some (append_assoc xs ys zs)

pub append-append : (held : Option (List ℕ)) (xs ys : List ℕ) → append_known held (xs ++ ys) ≡ append_known (append_known held xs) ys
append-append None xs ys = refl
append-append (Some zs) xs ys = ap Some (sym (append_assoc zs xs ys))

-- a read after those that gave xs
pub given_more : (xs ys : List ℕ) (first before after : Option (List ℕ)) → first ≡ prepend_known xs before → before ≡ prepend_known ys after → first ≡ prepend_known (xs ++ ys) after
given_more xs ys first before after e f = e ∙ (ap (prepend_known xs) f ∙ sym (prepend-append xs ys after))

pub nothing_before : (left : Option (List ℕ)) → prepend_known [] left ≡ left
nothing_before None = refl
nothing_before (Some xs) = refl

-- a read that gave nothing, after those that gave xs
pub read_before : (xs : List ℕ) (first before after : Option (List ℕ)) → first ≡ prepend_known xs before → before ≡ prepend_known [] after → first ≡ prepend_known xs after
read_before xs first before after e f = e ∙ ap (prepend_known xs) (f ∙ nothing_before after)

-- what was given is all, where nothing is left behind it
pub all_given : (xs : List ℕ) (after : Option (List ℕ)) → IsAtEnd after → IfSome (prepend_known xs after) (λ left. xs ≡ left)
all_given xs None end = tt
all_given xs (Some ys) end = grind (arith, common_steps)

pub all_read : (xs : List ℕ) (first before after : Option (List ℕ)) → first ≡ prepend_known xs before → before ≡ prepend_known [] after → IsAtEnd after → IfSome first (λ left. xs ≡ left)
all_read xs first before after e f end = subst (λ o. IfSome o (λ left. xs ≡ left)) (sym (read_before xs first before after e f)) (all_given xs after end)

-- a write after those that took the first n bytes
pub held_more : (bytes : List ℕ) (n m : ℕ) (first before after : Option (List ℕ)) → before ≡ append_known first (take n bytes) → after ≡ append_known before (take m (drop n bytes)) → after ≡ append_known first (take (n + m) bytes)
held_more bytes n m first before after e f =
    f ∙ (ap (λ held. append_known held (take m (drop n bytes))) e
    ∙ (sym (append-append first (take n bytes) (take m (drop n bytes))) ∙ ap (append_known first) (sym (take-add n m bytes))))

-- what was taken after one more read, whose bytes are the first of a buffer
pub taken_more : (xs buffer : List ℕ) (count total : ℕ) (first before after : Option (List ℕ)) → count ≤ length buffer → length xs + count ≡ total → first ≡ prepend_known xs before → before ≡ prepend_known (take count buffer) after → HasTaken first after total
taken_more xs buffer count total first before after fits sum e f =
    (xs ++ take count buffer, length-append xs (take count buffer) ∙ omega (arith, length-take count buffer), given_more xs (take count buffer) first before after e f)

-- the rest of a list, as a slice of it gives it
pub rest_from : (n : ℕ) (bytes : List ℕ) → take (length bytes - n) (drop n bytes) ≡ drop n bytes
rest_from n bytes = grind (arith, common_steps)
