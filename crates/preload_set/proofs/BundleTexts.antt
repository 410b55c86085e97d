-- A bundle is read as it is written: record by record.
use Rattle.std.proofs.Common.{◌≡◌, ℕ, zero, suc, ◌≤◌, List, [], ◌∷◌, ◌++◌, length, Result, Ok, inl, inr, refl, sym, ap, ap₂, subst, ◌∙◌, append_assoc, length-append, arith}
use Rattle.std.specs.Prelude.{◌==◌, codes}
use Rattle.std.specs.List.{flat_map, AllByRecursion}
use Rattle.std.proofs.lemmas.Bool.{eqb-true}
use Rattle.std.proofs.lemmas.List.Concat.{flat_map-cons}
use Rattle.php_graph.specs.declared.kind.Kind.{Kind}
use Rattle.php_graph.specs.declared.kind.Kind.TheVariants as kinds
use Rattle.php_graph.specs.Graph.{IsGraph}
use Rattle.notation.specs.declared.fault.Reason.TheVariants as reasons
use Rattle.notation.specs.declared.fault.Fault.{Fault}
use Rattle.notation.specs.Marks.{◌>>=◌, fail}
use Rattle.notation.specs.Notation.{text_of}
use Rattle.notation.specs.Reading.{reading_of}
use Rattle.script_read.specs.Arguments.{key}
use Rattle.script_read.specs.Reading.{chosen as found, choice_at, separator_at}
use Rattle.script_read.specs.Ties.{AreSomeBytes}
use Rattle.preload_set.specs.Bundle.{Record, key_value, record_text, IsRecord}
use Rattle.preload_set.specs.Reading.{record_at, records_at}
use Rattle.preload_set.specs.Ties.{BundlesTake, BundlesAgain, BundlesAreOne}
use Rattle.script_read.proofs.ResultBinds.{ValuesTake, ValuesAgain, bind_ok, ok_is, chosen, bytes_after}

-- ---- the parts of a record

separator_takes : (mark : ℕ) (bytes rest : List ℕ) → separator_at mark bytes ≡ Ok rest → bytes ≡ mark ∷ rest
unfolding separator_at
separator_takes mark [] rest e = absurd cc
separator_takes mark (b ∷ bytes) rest e =
    elim (chosen (b == mark) (Ok bytes) (fail reasons.Separator (b ∷ bytes)) (Ok rest) e) [
      | inl p ↦ ap₂ (λ (x : ℕ) (l : List ℕ). x ∷ l) (eqb-true b mark p.0) (ok_is bytes rest p.1)
      | inr p ↦ absurd (let h = p.1 in cc)
    ]

-- a value is a key if it is one string
key_is : (g : List Kind) (bytes rest : List ℕ) (k : List ℕ × List ℕ) → found (key g) bytes rest ≡ Ok k → (g ≡ key_value k.0) × (rest ≡ k.1)
key_is [] bytes rest k e = absurd cc
key_is (kinds.Null ∷ g) bytes rest k e = absurd cc
key_is (kinds.Bool b ∷ g) bytes rest k e = absurd cc
key_is (kinds.Int n ∷ g) bytes rest k e = absurd cc
key_is (kinds.Str text ∷ []) bytes rest k e =
    let is : (text, rest) ≡ k = ok_is (text, rest) k e in
    (ap (λ (p : List ℕ × List ℕ). key_value p.0) is, ap (λ (p : List ℕ × List ℕ). p.1) is)
key_is (kinds.Str text ∷ x ∷ g) bytes rest k e = absurd cc
key_is (kinds.Array ms ∷ g) bytes rest k e = absurd cc
key_is (kinds.Object class ps ∷ g) bytes rest k e = absurd cc
key_is (kinds.Same x ∷ g) bytes rest k e = absurd cc

pub record IsKeyTaken (bytes : List ℕ) (k : List ℕ × List ℕ) : Type 0 where
  pub graph : IsGraph (key_value k.0)
  pub text : bytes ≡ text_of (key_value k.0) ++ k.1

key_takes : ValuesTake → (bytes : List ℕ) (k : List ℕ × List ℕ) → AreSomeBytes bytes → choice_at key bytes ≡ Ok k → IsKeyTaken bytes k
key_takes values bytes k fits e =
    let a = bind_ok (reading_of bytes) (λ v. found (key v.0) bytes v.1) k e in
    let f = key_is a.0.0 bytes a.0.1 k a.2 in
    let v = values bytes a.0.0 a.0.1 fits a.1 in
    record { graph = subst IsGraph f.0 v.0; text = v.1 ∙ ap₂ (λ (g : List Kind) (r : List ℕ). text_of g ++ r) f.0 f.1 }

-- ---- one record

-- the parts of a record's text, and what follows it
abbrev parts_text : Record → List ℕ → List ℕ
parts_text r rest = text_of (key_value r.0) ++ (32 ∷ (text_of r.1 ++ (10 ∷ rest)))

record_parts : (r : Record) (rest : List ℕ) → record_text r ++ rest ≡ parts_text r rest
record_parts r rest =
    append_assoc (text_of (key_value r.0)) (codes " " ++ (text_of r.1 ++ codes "\n")) rest
    ∙ ap (λ (l : List ℕ). text_of (key_value r.0) ++ (32 ∷ l)) (append_assoc (text_of r.1) (codes "\n") rest)

record_some : (r : Record) → 2 ≤ length (record_text r)
record_some r = omega (arith, length-append (text_of (key_value r.0)) (codes " " ++ (text_of r.1 ++ codes "\n")), length-append (text_of r.1) (codes "\n"))

-- what is read behind a key, and behind a value
abbrev behind_value : List ℕ → List Kind × List ℕ → Result (Record × List ℕ) Fault
behind_value k v = separator_at 10 v.1 >>= λ rest. Ok ((k, v.0), rest)

abbrev behind_key : List ℕ × List ℕ → Result (Record × List ℕ) Fault
behind_key k = separator_at 32 k.1 >>= λ argument. reading_of argument >>= λ v. behind_value k.0 v

record_takes : ValuesTake → (bytes : List ℕ) (r : Record × List ℕ) → AreSomeBytes bytes → record_at bytes ≡ Ok r → IsRecord r.0 × (bytes ≡ record_text r.0 ++ r.1)
record_takes values bytes r fits e =
    let a = bind_ok (choice_at key bytes) behind_key r e in
    let k = key_takes values bytes a.0 fits a.1 in
    let b = bind_ok (separator_at 32 a.0.1) (λ argument. reading_of argument >>= λ v. behind_value a.0.0 v) r a.2 in
    let space = separator_takes 32 a.0.1 b.0 b.1 in
    let c = bind_ok (reading_of b.0) (λ v. behind_value a.0.0 v) r b.2 in
    let inside = bytes_after a.0.1 (codes " ") b.0 space (bytes_after bytes (text_of (key_value a.0.0)) a.0.1 k.text fits) in
    let v = values b.0 c.0.0 c.0.1 inside c.1 in
    let d = bind_ok (separator_at 10 c.0.1) (λ rest. Ok ((a.0.0, c.0.0), rest)) r c.2 in
    let feed = separator_takes 10 c.0.1 d.0 d.1 in
    let made : Record = (a.0.0, c.0.0) in
    let is : (made, d.0) ≡ r = ok_is (made, d.0) r d.2 in
    let text : bytes ≡ parts_text made d.0 =
    k.text ∙ ap (λ (l : List ℕ). text_of (key_value a.0.0) ++ l) (space ∙ ap (λ (l : List ℕ). 32 ∷ l) (v.1 ∙ ap (λ (l : List ℕ). text_of c.0.0 ++ l) feed)) in
    subst (λ (x : Record × List ℕ). IsRecord x.0 × (bytes ≡ record_text x.0 ++ x.1)) is ((k.graph, v.0), text ∙ sym (record_parts made d.0))

record_again : ValuesAgain → (r : Record) (rest : List ℕ) → IsRecord r → record_at (record_text r ++ rest) ≡ Ok (r, rest)
unfolding separator_at
record_again values r rest is =
    ap record_at (record_parts r rest)
    ∙ (ap (λ (read : Result (List Kind × List ℕ) Fault). (read >>= λ v. found (key v.0) (parts_text r rest) v.1) >>= behind_key) (values (key_value r.0) (32 ∷ (text_of r.1 ++ (10 ∷ rest))) is.0)
    ∙ ap (λ (read : Result (List Kind × List ℕ) Fault). read >>= λ v. behind_value r.0 v) (values r.1 (10 ∷ rest) is.1))

-- ---- all records

abbrev AreAll : List Record → Type 0
AreAll records = AllByRecursion IsRecord records

records_take : ValuesTake → (most : ℕ) (bytes : List ℕ) (records : List Record) → AreSomeBytes bytes → length bytes ≤ most → records_at most bytes ≡ Ok records → AreAll records × (bytes ≡ flat_map record_text records)
unfolding records_at
records_take values zero [] records fits enough e = subst (λ (l : List Record). AreAll l × ([] ≡ flat_map record_text l)) (ok_is [] records e) (tt, refl)
records_take values (suc most) [] records fits enough e = subst (λ (l : List Record). AreAll l × ([] ≡ flat_map record_text l)) (ok_is [] records e) (tt, refl)
records_take values zero (b ∷ bytes) records fits enough e = absurd (omega (arith, enough))
records_take values (suc most) (b ∷ bytes) records fits enough e =
    let a = bind_ok (record_at (b ∷ bytes)) (λ r. records_at most r.1 >>= λ more. Ok (r.0 ∷ more)) records e in
    let c = bind_ok (records_at most a.0.1) (λ more. Ok (a.0.0 ∷ more)) records a.2 in
    let r = record_takes values (b ∷ bytes) a.0 fits a.1 in
    let few : length a.0.1 ≤ most = omega (arith, ap length r.1, enough, length-append (record_text a.0.0) a.0.1, record_some a.0.0) in
    let more = records_take values most a.0.1 c.0 (bytes_after (b ∷ bytes) (record_text a.0.0) a.0.1 r.1 fits) few c.1 in
    let text : b ∷ bytes ≡ flat_map record_text (a.0.0 ∷ c.0) =
    r.1 ∙ (ap (λ (l : List ℕ). record_text a.0.0 ++ l) more.1 ∙ sym (flat_map-cons record_text a.0.0 c.0)) in
    subst (λ (l : List Record). AreAll l × (b ∷ bytes ≡ flat_map record_text l)) (ok_is (a.0.0 ∷ c.0) records c.2) ((r.0, more.0), text)

one_record : (most : ℕ) (bytes rest : List ℕ) (r : Record) (records : List Record) → 1 ≤ length bytes → record_at bytes ≡ Ok (r, rest) → records_at most rest ≡ Ok records → records_at (suc most) bytes ≡ Ok (r ∷ records)
unfolding records_at
one_record most [] rest r records some first others = absurd (omega (arith, some))
one_record most (b ∷ bytes) rest r records some first others =
    ap (λ (read : Result (Record × List ℕ) Fault). read >>= λ x. records_at most x.1 >>= λ more. Ok (x.0 ∷ more)) first
    ∙ ap (λ (read : Result (List Record) Fault). read >>= λ more. Ok (r ∷ more)) others

records_again : ValuesAgain → (most : ℕ) (records : List Record) → AreAll records → length (flat_map record_text records) ≤ most → records_at most (flat_map record_text records) ≡ Ok records
unfolding records_at
records_again values zero [] are enough = refl
records_again values (suc most) [] are enough = refl
records_again values zero (r ∷ records) are enough =
    absurd (omega (arith, enough, ap length (flat_map-cons record_text r records), length-append (record_text r) (flat_map record_text records), record_some r))
records_again values (suc most) (r ∷ records) are enough =
    let rest = flat_map record_text records in
    let text : flat_map record_text (r ∷ records) ≡ record_text r ++ rest = flat_map-cons record_text r records in
    let n = ap length text in
    let few : length rest ≤ most = omega (arith, n, enough, length-append (record_text r) rest, record_some r) in
    ap (records_at (suc most)) text
    ∙ one_record most (record_text r ++ rest) rest r records (omega (arith, length-append (record_text r) rest, record_some r)) (record_again values r rest are.0) (records_again values most records are.1 few)

pub bundles_take : ValuesTake → BundlesTake
bundles_take values bytes records fits e =
    let r = records_take values (length bytes) bytes records fits (omega arith) e in
    record { text = r.1; values = r.0 }

pub bundles_again : ValuesAgain → BundlesAgain
bundles_again values bytes records are =
    subst (λ (l : List ℕ). records_at (length l) l ≡ Ok records) (sym are.text)
    (records_again values (length (flat_map record_text records)) records are.values (omega arith))

pub bundles_one : ValuesAgain → BundlesAreOne
bundles_one values bytes a b first second = ok_is a b (sym (bundles_again values bytes a first) ∙ bundles_again values bytes b second)
