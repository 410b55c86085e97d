-- How many members answered arrays have.
use Rattle.std.proofs.Common.{◌≡◌, ℕ, suc, ◌+◌, ◌≤◌, Bool, true, false, cond, List, [], ◌∷◌, ◌++◌, length, refl, sym, ap, ◌∙◌, append_assoc, arith}
use Rattle.std.specs.Str.{bytes_eq}
use Rattle.php_graph.specs.declared.kind.Kind.{Kind}
use Rattle.std.specs.Prelude.{Option, Some, None, Result, Ok, Err, OnOk, codes}
use Rattle.std.proofs.lemmas.List.{append-nil}
use Rattle.apcu_model.specs.declared.request.Reply.{Reply}
use Rattle.reply_text.specs.Replies.{numbered, value_members, noted, noted_if, all_noted}

pub numbered_len : (i : ℕ) (keys : List (List ℕ)) → length (numbered i keys) ≡ length keys
numbered_len i [] = refl
numbered_len i (key ∷ keys) = ap suc (numbered_len (i + 1) keys)

pub members_len : (base : ℕ) (ms : List (List ℕ × List Kind)) → length (value_members base ms) ≡ length ms
members_len base [] = refl
members_len base (m ∷ ms) = ap suc (members_len (base + length m.1) ms)

one_more : {A : Type 0} (b : Bool) (m x : A) (ms ns : List A) → length ns ≤ length ms + 1 → length (cond b (x ∷ ms) (m ∷ ns)) ≤ length (m ∷ ms) + 1
one_more true m x ms ns le = omega arith
one_more false m x ms ns le = omega (arith, le)

pub noted_len : {A : Type 0} (key : List ℕ) (a : A) (ns : List (List ℕ × A)) → length (noted key a ns) ≤ length ns + 1
noted_len key a [] = omega arith
noted_len key a (m ∷ ms) = one_more (bytes_eq m.0 key) m (key, a) ms (noted key a ms) (noted_len key a ms)

if_len : {A : Type 0} (key : List ℕ) (a : Option A) (ns : List (List ℕ × A)) → length (noted_if key a ns) ≤ length ns + 1
if_len key None ns = omega arith
if_len key (Some a) ns = noted_len key a ns

-- no more answers are noted than there are keys
pub all_noted_len : {A : Type 0} (answer_in : Reply → Option A) (ns : List (List ℕ × A)) (keys : List (List ℕ)) (replies : List Reply) → length (all_noted answer_in ns keys replies) ≤ length ns + length keys
all_noted_len answer_in ns [] replies = omega arith
all_noted_len answer_in ns (key ∷ keys) [] = omega arith
all_noted_len answer_in ns (key ∷ keys) (reply ∷ replies) =
    let later = all_noted_len answer_in (noted_if key (answer_in reply) ns) keys replies in
    let one = if_len key (answer_in reply) ns in
    omega (arith, later, one)

-- what is so of a result's value follows in the same result
pub on_ok : {X E P Q : Type 0} (r : Result X E) → (P → Q) → OnOk r P → OnOk r Q
on_ok (Ok x) f p = f p
on_ok (Err e) f p = tt

-- an array that was begun, whose members were written to the last, and that was closed
pub array_ends : (before head begun out last text tail : List ℕ) → begun ≡ before ++ head → out ++ tail ≡ begun ++ text → tail ≡ []
    → last ≡ out ++ codes "}" → last ≡ before ++ (head ++ (text ++ codes "}"))
array_ends before head begun out last text tail starts goes none ends =
    let whole : out ≡ (before ++ head) ++ text =
    sym (append-nil out) ∙ (ap (λ (l : List ℕ). out ++ l) (sym none) ∙ (goes ∙ ap (λ (l : List ℕ). l ++ text) starts)) in
    ends ∙ (ap (λ (l : List ℕ). l ++ codes "}") (whole ∙ append_assoc before head text)
    ∙ (append_assoc before (head ++ text) (codes "}") ∙ ap (λ (l : List ℕ). before ++ l) (append_assoc head text (codes "}"))))
