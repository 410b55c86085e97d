-- Records that are read one after the other, as a loop does, and answers of their readers.
use Rattle.std.proofs.Common.{◌≡◌, ℕ, zero, suc, ◌≤◌, ◌<◌, true, false, List, [], ◌∷◌, ◌++◌, length, Option, Result, Ok, Err, slice_get, refl, sym, ap, ◌∙◌, append_assoc, arith}
use Rattle.std.specs.Prelude.{IfOk, MatchResult, is_some}
use Rattle.std.proofs.lemmas.List.{append-nil, length-drop}
use Rattle.notation.specs.declared.fault.Fault.{Fault}
use Rattle.notation.specs.declared.fault.ReadFault.{ReadFault}
use Rattle.notation.specs.declared.fault.ReadFault.TheVariants as reads
use Rattle.notation.specs.Marks.{◌>>=◌}
use Rattle.notation.specs.Place.{Standing, left}
use Rattle.script_read.specs.declared.fault.ScriptFault.{ScriptFault}
use Rattle.script_read.specs.declared.fault.ScriptFault.TheVariants as faults
use Rattle.script_read.specs.Ties.{AreSomeBytes}
use Rattle.preload_set.specs.Bundle.{Record, AreRecords}
use Rattle.preload_set.specs.Reading.{record_at, records_at, bundle_at}
use Rattle.preload_set.specs.Gives.{ReadsFromTo, ReadsRecords, ReadsBundle}
use Rattle.preload_set.specs.Ties.{BundlesTake, BundlesAgain}
use Rattle.script_read.proofs.ResultBinds.{ok_is}

-- ---- the loop

abbrev All : Type 0
All = Result (List Record) Fault

abbrev with_front : List Record → All → All
with_front front read = read >>= λ more. Ok (front ++ more)

-- what was read before, with what is still read, is the whole
pub record IsSoFar (front : List Record) (rest : List ℕ) (whole : All) : Type 0 where
  pub most : ℕ
  pub enough : length rest ≤ most
  pub reads : with_front front (records_at most rest) ≡ whole

pub begins : (bytes : List ℕ) → IsSoFar [] bytes (bundle_at bytes)
begins bytes = record { most = length bytes; enough = omega arith; reads = none_before (bundle_at bytes) }
  where
    none_before : (read : All) → with_front [] read ≡ read
    none_before (Ok more) = refl
    none_before (Err e) = refl

-- there is a record more
record IsNext (front : List Record) (rest : List ℕ) (whole : All) : Type 0 where
  pub most : ℕ
  pub enough : length rest ≤ suc most
  pub reads : with_front front (record_at rest >>= λ r. records_at most r.1 >>= λ more. Ok (r.0 ∷ more)) ≡ whole

next_of : (front : List Record) (most : ℕ) (rest : List ℕ) (whole : All) → 0 < length rest → length rest ≤ most → with_front front (records_at most rest) ≡ whole → IsNext front rest whole
unfolding records_at
next_of front most [] whole some enough reads = absurd (omega (arith, some))
next_of front zero (b ∷ rest) whole some enough reads = absurd (omega (arith, enough))
next_of front (suc most) (b ∷ rest) whole some enough reads = record { most = most; enough = enough; reads = reads }

pub goes_on : (front : List Record) (rest : List ℕ) (r : Record) (after : List ℕ) (whole : All) → 0 < length rest → length after < length rest → record_at rest ≡ Ok (r, after) → IsSoFar front rest whole → IsSoFar (front ++ r ∷ []) after whole
goes_on front rest r after whole some fewer read so_far =
    let n = next_of front so_far.most rest whole some so_far.enough so_far.reads in
    record {
      most = n.most;
      enough = omega (arith, n.enough, fewer);
      reads = sym (one_more (records_at n.most after)) ∙ (sym (ap (λ (x : Result (Record × List ℕ) Fault). with_front front (x >>= λ r. records_at n.most r.1 >>= λ more. Ok (r.0 ∷ more))) read) ∙ n.reads);
    }
  where
    one_more : (read : All) → with_front front (read >>= λ more. Ok (r ∷ more)) ≡ with_front (front ++ r ∷ []) read
    one_more (Ok more) = ap (λ (l : List Record). Ok l) (sym (append_assoc front (r ∷ []) more))
    one_more (Err e) = refl

pub fails : (front : List Record) (rest : List ℕ) (fault : Fault) (whole : All) → 0 < length rest → record_at rest ≡ Err fault → IsSoFar front rest whole → whole ≡ Err fault
fails front rest fault whole some read so_far =
    let n = next_of front so_far.most rest whole some so_far.enough so_far.reads in
    sym n.reads ∙ ap (λ (x : Result (Record × List ℕ) Fault). with_front front (x >>= λ r. records_at n.most r.1 >>= λ more. Ok (r.0 ∷ more))) read

ends : (front : List Record) (most : ℕ) (rest : List ℕ) (whole : All) → length rest ≡ 0 → with_front front (records_at most rest) ≡ whole → whole ≡ Ok front
unfolding records_at
ends front zero [] whole none reads = sym reads ∙ ap (λ (l : List Record). Ok l) (append-nil front)
ends front (suc most) [] whole none reads = sym reads ∙ ap (λ (l : List Record). Ok l) (append-nil front)
ends front most (b ∷ rest) whole none reads = absurd (omega (arith, none))

pub is_done : (front : List Record) (rest : List ℕ) (whole : All) → length rest ≡ 0 → IsSoFar front rest whole → whole ≡ Ok front
is_done front rest whole none so_far = ends front so_far.most rest whole none so_far.reads

-- a byte is left, or none
pub some_left : {A : Type 0} (l : List A) (o : Option A) → o ≡ slice_get l 0 → is_some o ≡ true → 0 < length l
some_left [] o is some = absurd (cc (sym (ap (λ o. is_some o) is) ∙ some))
some_left (x ∷ l) o is some = omega arith

pub none_left : {A : Type 0} (l : List A) (o : Option A) → o ≡ slice_get l 0 → is_some o ≡ false → length l ≡ 0
none_left [] o is none = refl
none_left (x ∷ l) o is none = absurd (cc (sym (ap (λ o. is_some o) is) ∙ none))

pub fewer_left : (from to : Standing) → to.bytes ≡ from.bytes → from.place < to.place → 0 < length (left from) → length (left to) < length (left from)
fewer_left from to same on some =
    omega (arith, on, some, length-drop from.place from.bytes, length-drop to.place to.bytes, ap (λ (l : List ℕ). length l) same)

pub records_fail : (e : ReadFault) (bytes : List ℕ) (from to : Standing) (front : List Record) → ReadsFromTo (record_at (left from)) from to (Err e) → from.bytes ≡ bytes → 0 < length (left from) → IsSoFar front (left from) (bundle_at bytes) → ReadsRecords bytes (Err e)
records_fail reads.Memory bytes from to front read same some so_far = tt
records_fail (reads.Bad place reason) bytes from to front read same some so_far =
    (read.0, fails front (left from) read.0 (bundle_at bytes) some read.1 so_far, read.2, read.3 ∙ ap (λ (l : List ℕ). length l) same)

-- ---- what a reader answers is what is written

pub found_read : BundlesTake → (bytes : List ℕ) (r : Result (List Record) ScriptFault) → AreSomeBytes bytes → ReadsBundle bytes r → IfOk r (AreRecords bytes)
found_read takes bytes (Ok records) fits read = takes bytes records fits read
found_read takes bytes (Err e) fits read = tt

pub only_read : BundlesAgain → (bytes : List ℕ) (r : Result (List Record) ScriptFault) → ReadsBundle bytes r → (records : List Record) → AreRecords bytes records → MatchResult r (λ read. read ≡ records) (λ e. e ≡ faults.Memory)
only_read again bytes (Ok found) read records are = ok_is found records (sym read ∙ again bytes records are)
only_read again bytes (Err faults.Memory) read records are = refl
only_read again bytes (Err (faults.Bad place reason)) read records are = let clash = sym read.1 ∙ again bytes records are in absurd cc
