-- What a look-up for an integer finds, and the cache once the integer was set.
use Rattle.std.proofs.Common.{◌≡◌, ℕ, Bool, true, false, not, ◌&&◌, cond, List, [], ◌∷◌, Option, Some, None, refl, sym, ap, ◌∙◌, subst}
use Rattle.std.specs.Prelude.{ℤ, Contains, find, option_map}
use Rattle.std.specs.Ordering.{int_eq}
use Rattle.seg_words.specs.Windows.{Aside, is_named}
use Rattle.seg_words.specs.Members.{Contains-first, Contains-later}
use Rattle.php_graph.specs.declared.kind.Kind.{Kind}
use Rattle.php_graph.specs.declared.kind.Kind.TheVariants as kinds
use Rattle.php_graph.specs.Graph.{kind_at}
use Rattle.apcu_model.specs.declared.request.StoreAnswer.{StoreAnswer}
use Rattle.apcu_model.specs.declared.request.StoreAnswer.TheVariants as answers
use Rattle.apcu_model.specs.Cache.{Row, Cache, has_key}
use Rattle.apcu_model.specs.Expiry.{is_hard_expired, live_row}
use Rattle.apcu_model.specs.History.{is_scalar}
use Rattle.apcu_model.specs.Counters.{integer_in, Count, number_if, counted, counted_at, counted_on, is_expected, is_integer}
use Rattle.apcu_model.specs.Sequential.{number_reply}
use Rattle.entry_slots.specs.Entries.{HoldsInt}
use Rattle.entry_slots.specs.Standing.{entries}
use Rattle.cache_core.specs.declared.cache.Core.{Core}
use Rattle.cache_core.specs.declared.scalar.Scalar.{Scalar}
use Rattle.cache_core.specs.CoreCache.{cache_of}
use Rattle.cache_core.specs.Integers.{NameNoScalar}
use Rattle.cache_core.specs.Looking.{scalar_of}
use Rattle.counter_entry.specs.declared.looking.Found.TheVariants.{Nothing, Other, Integer}
use Rattle.counter_entry.specs.declared.answer.IncAnswer.{IncAnswer}
use Rattle.counter_entry.specs.declared.answer.IncAnswer.TheVariants.{NotInteger, NoRoom, Value}
use Rattle.counter_entry.specs.Numbers.{integer_of, found_at, found_of, begun_answer, new_counter, number_answered, answer_at, sum_answer, inc_answer, reply_of}

integer_is : (g : List Kind) → integer_of (scalar_of g) ≡ integer_in g
integer_is [] = refl
integer_is (kinds.Null ∷ ks) = refl
integer_is (kinds.Bool b ∷ ks) = refl
integer_is (kinds.Int n ∷ ks) = refl
integer_is (kinds.Str s ∷ ks) = refl
integer_is (kinds.Array ms ∷ ks) = refl
integer_is (kinds.Object class ps ∷ ks) = refl
integer_is (kinds.Same x ∷ ks) = refl

-- what a look at a row without a use tells
abbrev pub seen : Option Row → Option (ℕ × Option Scalar)
seen o = option_map (λ (row : Row). (row.place, scalar_of row.graph)) o

pub nothing_seen : (o : Option Row) → None ≡ seen o → Nothing ≡ found_of o
nothing_seen None h = refl
nothing_seen (Some row) h = absurd (cc h)

pub row_seen : (o : Option Row) (p : ℕ × Option Scalar) → Some p ≡ seen o → found_at p.0 (integer_of p.1) ≡ found_of o
row_seen None p h = absurd (cc h)
row_seen (Some row) p h =
    let same : p ≡ (row.place, scalar_of row.graph) = cc h in
    ap (λ (q : ℕ × Option Scalar). found_at q.0 (integer_of q.1)) same ∙ ap (found_at row.place) (integer_is row.graph)

-- the row that holds the integer n at the place `at`
pub record IsCounter (key : List ℕ) (t : ℕ) (c : Cache) (at : ℕ) (n : ℤ) : Type 0 where
  pub row : Row
  pub live : live_row key t c ≡ Some row
  pub place : row.place ≡ at
  pub int : integer_in row.graph ≡ Some n

pub counter_of : (key : List ℕ) (t : ℕ) (c : Cache) (at : ℕ) (n : ℤ) → Integer at n ≡ found_of (live_row key t c) → IsCounter key t c at n
counter_of key t c at n h = go (live_row key t c) refl h
  where
    at_int : (row : Row) → live_row key t c ≡ Some row → (o : Option ℤ) → integer_in row.graph ≡ o → Integer at n ≡ found_at row.place o → IsCounter key t c at n
    at_int row live None e q = absurd (cc q)
    at_int row live (Some m) e q =
        let place : at ≡ row.place = cc q in
        let same : n ≡ m = cc q in
        record { row = row; live = live; place = sym place; int = e ∙ ap (λ z. Some z) (sym same) }

    go : (o : Option Row) → live_row key t c ≡ o → Integer at n ≡ found_of o → IsCounter key t c at n
    go None live q = absurd (cc q)
    go (Some row) live q = at_int row live (integer_in row.graph) refl q

pub nothing_of : (o : Option Row) → Nothing ≡ found_of o → o ≡ None
nothing_of None h = refl
nothing_of (Some row) h = go (integer_in row.graph) h
  where
    go : (i : Option ℤ) → Nothing ≡ found_at row.place i → Some row ≡ None
    go None q = absurd (cc q)
    go (Some n) q = absurd (cc q)

-- a row that holds no integer
pub other_of : (o : Option Row) → Other ≡ found_of o → (row : Row) × (o ≡ Some row) × (integer_in row.graph ≡ None)
other_of None h = absurd (cc h)
other_of (Some row) h = (row, refl, go (integer_in row.graph) h)
  where
    go : (i : Option ℤ) → Other ≡ found_at row.place i → i ≡ None
    go None q = refl
    go (Some n) q = absurd (cc q)

found_there : (p : Row → Bool) (rows : List Row) (row : Row) → find p rows ≡ Some row → Contains rows row
found_there p [] row h = absurd (cc h)
found_there p (x ∷ rows) row h = go (p x) (found_there p rows row) h
  where
    go : (b : Bool) → (find p rows ≡ Some row → Contains rows row) → cond b (Some x) (find p rows) ≡ Some row → Contains (x ∷ rows) row
    go true later q = let e : x ≡ row = cc q in subst (λ z. Contains (x ∷ rows) z) e (Contains-first x rows)
    go false later q = Contains-later x rows row (later q)

pub live_there : (key : List ℕ) (t : ℕ) (c : Cache) (row : Row) → live_row key t c ≡ Some row → Contains c.rows row
live_there key t c row h = found_there (λ row. has_key key row && not (is_hard_expired t row)) c.rows row h

int_kind : (g : List Kind) (n : ℤ) → integer_in g ≡ Some n → kind_at g 1 ≡ Some (kinds.Int n)
int_kind [] n e = absurd (cc e)
int_kind (kinds.Null ∷ ks) n e = absurd (cc e)
int_kind (kinds.Bool b ∷ ks) n e = absurd (cc e)
int_kind (kinds.Int m ∷ ks) n e = let same : m ≡ n = cc e in ap (λ z. Some (kinds.Int z)) same
int_kind (kinds.Str s ∷ ks) n e = absurd (cc e)
int_kind (kinds.Array ms ∷ ks) n e = absurd (cc e)
int_kind (kinds.Object class ps ∷ ks) n e = absurd (cc e)
int_kind (kinds.Same x ∷ ks) n e = absurd (cc e)

int_scalar : (g : List Kind) (n : ℤ) → integer_in g ≡ Some n → is_scalar g ≡ true
int_scalar [] n e = absurd (cc e)
int_scalar (kinds.Null ∷ ks) n e = absurd (cc e)
int_scalar (kinds.Bool b ∷ ks) n e = absurd (cc e)
int_scalar (kinds.Int m ∷ ks) n e = refl
int_scalar (kinds.Str s ∷ ks) n e = absurd (cc e)
int_scalar (kinds.Array ms ∷ ks) n e = absurd (cc e)
int_scalar (kinds.Object class ps ∷ ks) n e = absurd (cc e)
int_scalar (kinds.Same x ∷ ks) n e = absurd (cc e)

-- its value may be set
pub holds_int : {key : List ℕ} {t : ℕ} (core : Core) {at : ℕ} {n : ℤ} → IsCounter key t (cache_of core) at n → HoldsInt (entries core.slots) at
holds_int {key} {t} core {n = n} k = record { row = k.row; there = live_there key t (cache_of core) k.row k.live; place = k.place; number = n; int = int_kind k.row.graph n k.int }

pub unnamed_at : {key : List ℕ} {t : ℕ} {c : Cache} {at : ℕ} {n : ℤ} (old new : Aside) → IsCounter key t c at n → NameNoScalar old.windows c.rows → new ≡ old → is_named new.windows at ≡ false
unnamed_at {key} {t} {c} {at} {n} old new k names same =
    ap (λ (a : Aside). is_named a.windows at) same
    ∙ subst (λ p. is_named old.windows p ≡ false) k.place (names.each k.row (live_there key t c k.row k.live) (int_scalar k.row.graph n k.int))

pub number_begun : (step : ℤ) (a : StoreAnswer) → number_if step a ≡ number_answered (begun_answer step a)
number_begun step answers.Stored = refl
number_begun step answers.TooLarge = refl
number_begun step answers.Exists = refl
number_begun step answers.NoRoom = refl

pub reply_is : (a : IncAnswer) → reply_of a ≡ number_reply (number_answered a)
reply_is NotInteger = refl
reply_is NoRoom = refl
reply_is (Value n) = refl

-- nothing counts on from a value that is no integer
pub other_counted : (held key : List ℕ) (step : ℤ) (ttl t : ℕ) (c : Cache) → Other ≡ found_of (live_row key t c) → counted held key step ttl t c ≡ record { number = None; cache = c }
other_counted held key step ttl t c h =
    let o = other_of (live_row key t c) h in
    ap (counted_at held key step ttl t c) o.1 ∙ ap (counted_on key step t c) o.2

pub other_answer : (held key : List ℕ) (step : ℤ) (ttl t : ℕ) (c : Cache) → Other ≡ found_of (live_row key t c) → NotInteger ≡ inc_answer held key step ttl t c
other_answer held key step ttl t c h =
    let o = other_of (live_row key t c) h in
    sym (ap (answer_at held key step ttl t c) o.1 ∙ ap (sum_answer step) o.2)

-- the number that counting gives is that of its answer
pub number_told : (held key : List ℕ) (step : ℤ) (ttl t : ℕ) (c : Cache) → (counted held key step ttl t c).number ≡ number_answered (inc_answer held key step ttl t c)
number_told held key step ttl t c = go (live_row key t c)
  where
    at_row : (o : Option ℤ) → (counted_on key step t c o).number ≡ number_answered (sum_answer step o)
    at_row None = refl
    at_row (Some n) = refl

    go : (o : Option Row) → (counted_at held key step ttl t c o).number ≡ number_answered (answer_at held key step ttl t c o)
    go None = number_begun step (new_counter held key step ttl t c).answer
    go (Some row) = at_row (integer_in row.graph)

-- an integer that is there counts on, whatever is held
pub counts_on : (held key : List ℕ) (step : ℤ) (ttl t : ℕ) (c : Cache) {at : ℕ} {n : ℤ} → IsCounter key t c at n → counted held key step ttl t c ≡ counted_on key step t c (Some n)
counts_on held key step ttl t c k = ap (counted_at held key step ttl t c) k.live ∙ ap (counted_on key step t c) k.int

pub same_count : (x y : Count) → x.number ≡ y.number → x.cache ≡ y.cache → x ≡ y
same_count x y number cache = λ i. record { number = number i; cache = cache i }

-- what is expected is the integer that was found
pub expected_is : {key : List ℕ} {t : ℕ} {c : Cache} {at : ℕ} {n : ℤ} (expect : ℤ) → IsCounter key t c at n → is_expected expect (live_row key t c) ≡ int_eq n expect
expected_is expect k = ap (is_expected expect) k.live ∙ ap (is_integer expect) k.int

-- a new counter is never reported as another value
pub begun_number : (step : ℤ) (a : StoreAnswer) → begun_answer step a ≡ NotInteger → ⊥
begun_number step answers.Stored h = cc h
begun_number step answers.TooLarge h = cc h
begun_number step answers.Exists h = cc h
begun_number step answers.NoRoom h = cc h
