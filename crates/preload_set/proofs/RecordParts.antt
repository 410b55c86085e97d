-- The parts of a record, read by a cursor.
use Rattle.std.proofs.Common.{◌≡◌, ℕ, ◌+◌, ◌≤◌, ◌<◌, Bool, true, false, if◌then◌else◌, List, [], ◌∷◌, length, drop, Option, Some, None, Result, Ok, Err, slice_get, refl, sym, ap, subst, ◌∙◌, arith}
use Rattle.std.specs.Prelude.{◌==◌}
use Rattle.std.proofs.lemmas.List.{drop-drop, length-drop}
use Rattle.php_graph.specs.declared.kind.Kind.{Kind}
use Rattle.php_graph.specs.declared.kind.Kind.TheVariants as kinds
use Rattle.notation.specs.declared.fault.Reason.{Reason}
use Rattle.notation.specs.declared.fault.Reason.TheVariants as reasons
use Rattle.notation.specs.declared.fault.Fault.{Fault}
use Rattle.notation.specs.Marks.{◌>>=◌, fail}
use Rattle.notation.specs.Notation.{text_of, string_text, child_text}
use Rattle.notation.specs.Place.{Standing, left}
use Rattle.notation.specs.Reading.{reading_of}
use Rattle.script_read.specs.Arguments.{key}
use Rattle.script_read.specs.Reading.{chosen, choice_at, separator_at}
use Rattle.preload_set.specs.Reading.{due_byte_at}
use Rattle.preload_set.specs.Gives.{IsFaultAt}

-- a fault where the cursor stands
pub here : {Y : Type 0} (read : Result Y Fault) (from : Standing) (place : ℕ) (fault : Fault) → read ≡ Err fault → fault.left ≡ length (left from) → place ≡ from.place → from.place ≤ length from.bytes → IsFaultAt read (length from.bytes) place fault.reason
here read from place fault is at stands within = (fault, is, refl, omega (arith, at, stands, within, length-drop from.place from.bytes))

-- ---- keys

abbrev after_key : List ℕ → Result (List Kind × List ℕ) Fault → Result (List ℕ × List ℕ) Fault
after_key bytes read = read >>= λ v. chosen (key v.0) bytes v.1

no_key : (g : List Kind) → ((bytes : List ℕ) → g ≡ kinds.Str bytes ∷ [] → ⊥) → key g ≡ None
no_key [] other = refl
no_key (kinds.Null ∷ g) other = refl
no_key (kinds.Bool b ∷ g) other = refl
no_key (kinds.Int n ∷ g) other = refl
no_key (kinds.Str text ∷ []) other = absurd (other text refl)
no_key (kinds.Str text ∷ x ∷ g) other = refl
no_key (kinds.Array ms ∷ g) other = refl
no_key (kinds.Object class ps ∷ g) other = refl
no_key (kinds.Same x ∷ g) other = refl

pub key_read : (from to : Standing) (g : List Kind) (k : List ℕ) → reading_of (left from) ≡ Ok (g, left to) → g ≡ kinds.Str k ∷ [] → choice_at key (left from) ≡ Ok (k, left to)
key_read from to g k read is =
    ap (after_key (left from)) read ∙ ap (λ (h : List Kind). chosen (key h) (left from) (left to)) is

pub key_refused : (from to : Standing) (g : List Kind) (place : ℕ) → reading_of (left from) ≡ Ok (g, left to) → ((bytes : List ℕ) → g ≡ kinds.Str bytes ∷ [] → ⊥) → place ≡ from.place → from.place ≤ length from.bytes
    → IsFaultAt (choice_at key (left from)) (length from.bytes) place reasons.Argument
key_refused from to g place read other stands within =
    here (choice_at key (left from)) from place (record { reason = reasons.Argument; left = length (left from) })
    (ap (after_key (left from)) read ∙ ap (λ (o : Option (List ℕ)). chosen o (left from) (left to)) (no_key g other)) refl stands within

-- a string's text is no empty one
string_is : (k : List ℕ) → text_of (kinds.Str k ∷ []) ≡ string_text k
unfolding child_text
string_is k = refl

string_some : (k : List ℕ) → 0 < length (string_text k)
string_some k = omega arith

pub key_some : (k : List ℕ) → 0 < length (text_of (kinds.Str k ∷ []))
key_some k = omega (arith, ap (λ (l : List ℕ). length l) (string_is k), string_some k)

-- ---- the byte that is due

due_first : (due byte : ℕ) (l : List ℕ) → slice_get l 0 ≡ Some byte → (byte == due) ≡ true → due_byte_at due l ≡ Ok (tt, drop 1 l)
unfolding separator_at
due_first due byte [] there same = absurd (cc there)
due_first due byte (b ∷ l) there same =
    let is : b ≡ byte = cc there in
    ap (λ (t : Bool). (if t then Ok l else fail reasons.Separator (b ∷ l)) >>= λ rest. Ok (tt, rest)) (ap (λ (x : ℕ). x == due) is ∙ same)

pub due_read : (due byte : ℕ) (from to : Standing) → slice_get (left from) 0 ≡ Some byte → (byte == due) ≡ true → to ≡ record from { place = from.place + 1 } → due_byte_at due (left from) ≡ Ok (tt, left to)
due_read due byte from to there same moved =
    due_first due byte (left from) there same
    ∙ ap (λ (l : List ℕ). Ok (tt, l)) (drop-drop 1 from.place from.bytes ∙ sym (ap left moved))

abbrev failed : {Y : Type 0} → Reason → ℕ → Result Y Fault
failed reason n = Err (record { reason = reason; left = n })

due_none : (due : ℕ) (l : List ℕ) → slice_get l 0 ≡ None → due_byte_at due l ≡ failed reasons.End (length l)
unfolding separator_at
due_none due [] none = refl
due_none due (b ∷ l) none = absurd (cc none)

due_other : (due byte : ℕ) (l : List ℕ) → slice_get l 0 ≡ Some byte → (byte == due) ≡ false → due_byte_at due l ≡ failed reasons.Separator (length l)
unfolding separator_at
due_other due byte [] there other = absurd (cc there)
due_other due byte (b ∷ l) there other =
    let is : b ≡ byte = cc there in
    ap (λ (t : Bool). (if t then Ok l else fail reasons.Separator (b ∷ l)) >>= λ rest. Ok (tt, rest)) (ap (λ (x : ℕ). x == due) is ∙ other)

pub due_ends : (due : ℕ) (from : Standing) (place : ℕ) (reason : Reason) → slice_get (left from) 0 ≡ None → reason ≡ reasons.End → place ≡ from.place → from.place ≤ length from.bytes → IsFaultAt (due_byte_at due (left from)) (length from.bytes) place reason
due_ends due from place reason none is stands within =
    subst (IsFaultAt (due_byte_at due (left from)) (length from.bytes) place) (sym is)
    (here (due_byte_at due (left from)) from place (record { reason = reasons.End; left = length (left from) }) (due_none due (left from) none) refl stands within)

pub due_refused : (due byte : ℕ) (from : Standing) (place : ℕ) (reason : Reason) → slice_get (left from) 0 ≡ Some byte → (byte == due) ≡ false → reason ≡ reasons.Separator → place ≡ from.place → from.place ≤ length from.bytes
    → IsFaultAt (due_byte_at due (left from)) (length from.bytes) place reason
due_refused due byte from place reason there other is stands within =
    subst (IsFaultAt (due_byte_at due (left from)) (length from.bytes) place) (sym is)
    (here (due_byte_at due (left from)) from place (record { reason = reasons.Separator; left = length (left from) }) (due_other due byte (left from) there other) refl stands within)
