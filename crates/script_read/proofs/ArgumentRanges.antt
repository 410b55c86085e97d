-- What arguments spell is in range, and the keys among it are strings of bytes.
use Rattle.std.proofs.Common.{◌≡◌, ℕ, zero, suc, ◌<◌, ◌≤◌, Bool, true, false, List, [], ◌∷◌, length, map, Option, Some, None, ℤ, pos, negsuc, FitsSigned, w64, refl, ap, subst, ◌∙◌, arith}
use Rattle.std.specs.Prelude.{◌&&◌, nat_le, slice_get, if◌then◌else◌}
use Rattle.std.specs.Fmt.{decimal, signed_decimal}
use Rattle.std.specs.List.{AllByRecursion}
use Rattle.std.specs.Option.{option_and_then, option_map}
use Rattle.std.specs.Str.{IsAscii}
use Rattle.std.proofs.lemmas.Fmt.{IsAscii-decimal}
use Rattle.php_graph.specs.declared.key.Key.{Key}
use Rattle.php_graph.specs.declared.key.Key.TheVariants as key_kinds
use Rattle.php_graph.specs.declared.child.Child.{Child}
use Rattle.php_graph.specs.declared.child.Child.TheVariants.{Own, Back}
use Rattle.php_graph.specs.declared.kind.Kind.{Kind}
use Rattle.php_graph.specs.declared.kind.Kind.TheVariants as kinds
use Rattle.php_graph.specs.Graph.{FitsKey, FitsKind, IsGraph}
use Rattle.apcu_model.specs.Levels.{EntryLevel, Generator}
use Rattle.simple_pool.specs.Requests.{is_good_ttl}
use Rattle.script_read.specs.declared.choices.Asked.{Asked}
use Rattle.script_read.specs.declared.choices.Asked.TheVariants as asked_kinds
use Rattle.script_read.specs.declared.choices.Stored.{Stored}
use Rattle.script_read.specs.declared.choices.Stored.TheVariants as stored_kinds
use Rattle.script_read.specs.Arguments.{ttl_in, each, or_else, key, integer, from_to, chunk_size, members, string_of_kind, member_string, keys, key_bytes, member_value, pair_at, pairs, asked_of, stored, null, kept_if, own_ttl}
use Rattle.script_read.specs.Calls.{most_items}
use Rattle.script_read.specs.GenParts.{literal_gen, entry_round}
use Rattle.script_read.specs.Grammar.{WrittenGen, Literal, Nested, Limited, IsWrittenGen, gen_meant}
use Rattle.script_read.specs.Ranges.{keys_in_pairs}
use Rattle.script_read.specs.Ties.{AreSomeBytes}
use Rattle.script_read.proofs.ResultBinds.{some_is, then_some, map_some}

-- ---- bytes

ascii_bytes : (bytes : List ℕ) → IsAscii bytes → AreSomeBytes bytes
ascii_bytes [] ascii = tt
ascii_bytes (b ∷ bytes) ascii = (omega (arith, ascii 0), ascii_bytes bytes (λ i. ascii (suc i)))

decimal_bytes : (n : ℤ) → FitsSigned w64 n → AreSomeBytes (signed_decimal n)
decimal_bytes (pos n) fits = ascii_bytes (decimal n) (IsAscii-decimal n (omega (arith, fits.sfits)))
decimal_bytes (negsuc n) fits = (omega arith, ascii_bytes (decimal (suc n)) (IsAscii-decimal (suc n) (omega (arith, fits.sfits))))

key_is_bytes : (k : Key) → FitsKey k → AreSomeBytes (key_bytes k)
key_is_bytes (key_kinds.Int n) fits = decimal_bytes n fits
key_is_bytes (key_kinds.Str bytes) fits = fits.1

-- ---- arguments

-- all keys of a list are bytes
abbrev pub AreKeys : List (List ℕ) → Type 0
AreKeys ks = AllByRecursion AreSomeBytes ks

pub key_fits : (g : List Kind) (k : List ℕ) → IsGraph g → key g ≡ Some k → AreSomeBytes k
key_fits g k graph is = by_places g graph.fits is
  where
    by_places : (g : List Kind) → AllByRecursion FitsKind g → key g ≡ Some k → AreSomeBytes k
    by_places [] fits is = absurd cc
    by_places (kinds.Str bytes ∷ []) fits is = subst AreSomeBytes (some_is bytes k is) fits.0.1
    by_places (kinds.Str bytes ∷ x ∷ places) fits is = absurd cc
    by_places (kinds.Null ∷ places) fits is = absurd cc
    by_places (kinds.Bool b ∷ places) fits is = absurd cc
    by_places (kinds.Int n ∷ places) fits is = absurd cc
    by_places (kinds.Array ms ∷ places) fits is = absurd cc
    by_places (kinds.Object class ps ∷ places) fits is = absurd cc
    by_places (kinds.Same x ∷ places) fits is = absurd cc

place_fits : (g : List Kind) (x : ℕ) (kind : Kind) → AllByRecursion FitsKind g → slice_get g x ≡ Some kind → FitsKind kind
place_fits [] x kind fits is = absurd cc
place_fits (first ∷ g) zero kind fits is = subst FitsKind (some_is first kind is) fits.0
place_fits (first ∷ g) (suc x) kind fits is = place_fits g x kind fits.1 is

string_fits : (kind : Kind) (k : List ℕ) → FitsKind kind → string_of_kind kind ≡ Some k → AreSomeBytes k
string_fits (kinds.Str bytes) k fits is = subst AreSomeBytes (some_is bytes k is) fits.1
string_fits kinds.Null k fits is = absurd cc
string_fits (kinds.Bool b) k fits is = absurd cc
string_fits (kinds.Int n) k fits is = absurd cc
string_fits (kinds.Array ms) k fits is = absurd cc
string_fits (kinds.Object class ps) k fits is = absurd cc
string_fits (kinds.Same x) k fits is = absurd cc

member_fits : (g : List Kind) (c : Child) (k : List ℕ) → AllByRecursion FitsKind g → member_string g c ≡ Some k → AreSomeBytes k
member_fits g (Back x) k fits is = absurd cc
member_fits g (Own zero) k fits is = absurd cc
member_fits g (Own (suc x)) k fits is =
    let s = then_some string_of_kind (slice_get g x) k is in
    string_fits s.0 k (place_fits g x s.0 fits s.1) s.2

-- the members fit if they are keys with what fits
members_fit : (g : List Kind) (ms : List (Key × Child)) → AllByRecursion FitsKind g → members g ≡ Some ms → AllByRecursion (λ (m : Key × Child). FitsKey m.0) ms
members_fit [] ms fits is = absurd cc
members_fit (kinds.Array found ∷ places) ms fits is = subst (λ (l : List (Key × Child)). AllByRecursion (λ (m : Key × Child). FitsKey m.0) l) (some_is found ms is) fits.0
members_fit (kinds.Null ∷ places) ms fits is = absurd cc
members_fit (kinds.Bool b ∷ places) ms fits is = absurd cc
members_fit (kinds.Int n ∷ places) ms fits is = absurd cc
members_fit (kinds.Str bytes ∷ places) ms fits is = absurd cc
members_fit (kinds.Object class ps ∷ places) ms fits is = absurd cc
members_fit (kinds.Same x ∷ places) ms fits is = absurd cc

strings_fit : (g : List Kind) (ms : List (Key × Child)) (ks : List (List ℕ)) → AllByRecursion FitsKind g → each (λ (m : Key × Child). member_string g m.1) ms ≡ Some ks → AreKeys ks
strings_fit g [] ks fits is = subst AreKeys (some_is [] ks is) tt
strings_fit g (m ∷ ms) ks fits is =
    let f = λ (m : Key × Child). member_string g m.1 in
    let one = then_some (λ y. option_map (λ ys. y ∷ ys) (each f ms)) (member_string g m.1) ks is in
    let more = map_some (λ ys. one.0 ∷ ys) (each f ms) ks one.2 in
    subst AreKeys more.2 (member_fits g m.1 one.0 fits one.1, strings_fit g ms more.0 fits more.1)

pub keys_fit : (g : List Kind) (ks : List (List ℕ)) → IsGraph g → keys g ≡ Some ks → AreKeys ks
keys_fit g ks graph is =
    let ms = then_some (each (λ (m : Key × Child). member_string g m.1)) (members g) ks is in
    strings_fit g ms.0 ks graph.fits ms.2

abbrev pub Pair : Type 0
Pair = List ℕ × List Kind

all_pairs_fit : (g : List Kind) (ms : List (Key × Child)) (ps : List Pair) → AllByRecursion (λ (m : Key × Child). FitsKey m.0) ms → each (pair_at g) ms ≡ Some ps → AreKeys (keys_in_pairs ps)
all_pairs_fit g [] ps fits is = subst (λ (l : List Pair). AreKeys (keys_in_pairs l)) (some_is [] ps is) tt
all_pairs_fit g (m ∷ ms) ps fits is =
    let one = then_some (λ y. option_map (λ ys. y ∷ ys) (each (pair_at g) ms)) (pair_at g m) ps is in
    let more = map_some (λ ys. one.0 ∷ ys) (each (pair_at g) ms) ps one.2 in
    let value = map_some (λ v. (key_bytes m.0, v)) (member_value g m.1) one.0 one.1 in
    let first : AreSomeBytes one.0.0 = subst AreSomeBytes (ap (λ (p : Pair). p.0) value.2) (key_is_bytes m.0 fits.0) in
    subst (λ (l : List Pair). AreKeys (keys_in_pairs l)) more.2 (first, all_pairs_fit g ms more.0 fits.1 more.1)

pub pairs_fit : (g : List Kind) (ps : List Pair) → IsGraph g → pairs g ≡ Some ps → AreKeys (keys_in_pairs ps)
pairs_fit g ps graph is =
    let ms = then_some (each (pair_at g)) (members g) ps is in
    all_pairs_fit g ms.0 ps (members_fit g ms.0 graph.fits ms.1) ms.2

-- ---- one or many

abbrev pub keys_of_asked : Asked → List (List ℕ)
keys_of_asked (asked_kinds.One k) = k ∷ []
keys_of_asked (asked_kinds.Many ks) = ks

pub asked_fits : (g : List Kind) (a : Asked) → IsGraph g → asked_of g ≡ Some a → AreKeys (keys_of_asked a)
asked_fits g a graph is = by_key (key g) refl is
  where
    by_key : (o : Option (List ℕ)) → key g ≡ o → or_else (option_map asked_kinds.One o) (option_map asked_kinds.Many (keys g)) ≡ Some a → AreKeys (keys_of_asked a)
    by_key (Some k) found is = subst (λ (x : Asked). AreKeys (keys_of_asked x)) (some_is (asked_kinds.One k) a is) (key_fits g k graph found, tt)
    by_key None found is =
        let ks = map_some asked_kinds.Many (keys g) a is in
        subst (λ (x : Asked). AreKeys (keys_of_asked x)) ks.2 (keys_fit g ks.0 graph ks.1)

abbrev pub keys_of_stored : Stored → List (List ℕ)
keys_of_stored (stored_kinds.One k) = k ∷ []
keys_of_stored (stored_kinds.Many ps) = keys_in_pairs ps

pub stored_fits : (g : List Kind) (s : Stored) → IsGraph g → stored g ≡ Some s → AreKeys (keys_of_stored s)
stored_fits g s graph is = by_key (key g) refl is
  where
    by_key : (o : Option (List ℕ)) → key g ≡ o → or_else (option_map stored_kinds.One o) (option_map stored_kinds.Many (pairs g)) ≡ Some s → AreKeys (keys_of_stored s)
    by_key (Some k) found is = subst (λ (x : Stored). AreKeys (keys_of_stored x)) (some_is (stored_kinds.One k) s is) (key_fits g k graph found, tt)
    by_key None found is =
        let ps = map_some stored_kinds.Many (pairs g) s is in
        subst (λ (x : Stored). AreKeys (keys_of_stored x)) ps.2 (pairs_fit g ps.0 graph ps.1)

-- ---- ranges

in_range : (low high : ℕ) (z : ℤ) (n : ℕ) → from_to low high z ≡ Some n → (low ≤ n) × (n ≤ high)
in_range low high (negsuc m) n is = absurd cc
in_range low high (pos m) n is = by_test (nat_le low m && nat_le m high) refl is
  where
    within : (nat_le low m && nat_le m high) ≡ true → (low ≤ m) × (m ≤ high)
    within e = (grind (arith, e), grind (arith, e))

    by_test : (b : Bool) → (nat_le low m && nat_le m high) ≡ b → (if b then Some m else None) ≡ Some n → (low ≤ n) × (n ≤ high)
    by_test true e is = subst (λ (k : ℕ). (low ≤ k) × (k ≤ high)) (some_is m n is) (within e)
    by_test false e is = absurd cc

pub size_fits : (g : List Kind) (n : ℕ) → chunk_size g ≡ Some n → (0 < n) × (n ≤ most_items)
size_fits g n is =
    let z = then_some (from_to 1 most_items) (integer g) n is in
    let r = in_range 1 most_items z.0 n z.2 in
    (omega (arith, r.0), r.1)

pub kept_is : {A : Type 0} (test : A → Bool) (o : Option A) (x : A) → kept_if test o ≡ Some x → (test x ≡ true) × (o ≡ Some x)
kept_is test None x is = absurd cc
kept_is {A = A} test (Some y) x is = by_test (test y) refl is
  where
    by_test : (b : Bool) → test y ≡ b → (if b then Some y else None) ≡ Some x → (test x ≡ true) × (Some y ≡ Some x)
    by_test true e is = let same = some_is y x is in (subst (λ (z : A). test z ≡ true) same e, ap (λ (z : A). Some z) same)
    by_test false e is = absurd cc

pub both : (a b : Bool) → a ≡ true → b ≡ true → (a && b) ≡ true
both true b p q = q
both false b p q = absurd cc

pub ttl_fits : (g : List Kind) (t : Option ℤ) → own_ttl g ≡ Some t → (n : ℤ) → t ≡ Some n → is_good_ttl n ≡ true
ttl_fits g t is n some = by_null (null g) is
  where
    by_null : (o : Option (Unit {0})) → or_else (option_map (λ u. None) o) (option_map Some (kept_if is_good_ttl (integer g))) ≡ Some t → is_good_ttl n ≡ true
    by_null (Some u) is = let none : None ≡ t = some_is None t is in absurd cc
    by_null None is =
        let z = map_some Some (kept_if is_good_ttl (integer g)) t is in
        let same : z.0 ≡ n = some_is z.0 n (z.2 ∙ some) in
        subst (λ (m : ℤ). is_good_ttl m ≡ true) same (kept_is is_good_ttl (integer g) z.0 z.1).0

-- ---- generators

-- a generator of at most this many entries, under keys of bytes
pub record FitsGen (levels : ℕ) (gen : Generator) : Type 0 where
  pub few : length gen.levels ≤ levels
  pub keys : AreKeys (map {A = EntryLevel} (λ level. level.key) gen.levels)

entry_fits : (levels : ℕ) (k : List Kind) (inner : Option Generator) (t : Option ℕ) (gen : Generator) → IsGraph k → ((found : Generator) → inner ≡ Some found → FitsGen levels found)
    → option_and_then (λ bytes. option_and_then (λ made. option_map (λ limit. entry_round bytes limit made) t) inner) (key k) ≡ Some gen → FitsGen (suc levels) gen
entry_fits levels k inner t gen graph inside is =
    let name = then_some (λ bytes. option_and_then (λ made. option_map (λ limit. entry_round bytes limit made) t) inner) (key k) gen is in
    let made = then_some (λ made. option_map (λ limit. entry_round name.0 limit made) t) inner gen name.2 in
    let limit = map_some (λ limit. entry_round name.0 limit made.0) t gen made.2 in
    let fit = inside made.0 made.1 in
    subst (FitsGen (suc levels)) limit.2 (record { few = omega (arith, fit.few); keys = (key_fits k name.0 graph name.1, fit.keys) })

pub gen_fits : (levels : ℕ) (written : WrittenGen) (gen : Generator) → IsWrittenGen written → gen_meant levels written ≡ Some gen → FitsGen levels gen
gen_fits levels (Literal g) gen are means = subst (FitsGen levels) (some_is (literal_gen g) gen means) (record { few = omega arith; keys = tt })
gen_fits zero (Nested k inner) gen are means = absurd cc
gen_fits (suc levels) (Nested k inner) gen are means = entry_fits levels k (gen_meant levels inner) (Some 0) gen are.0 (λ found is. gen_fits levels inner found are.1 is) means
gen_fits zero (Limited k inner t) gen are means = absurd cc
gen_fits (suc levels) (Limited k inner t) gen are means = entry_fits levels k (gen_meant levels inner) (ttl_in t) gen are.0 (λ found is. gen_fits levels inner found are.1 is) means
