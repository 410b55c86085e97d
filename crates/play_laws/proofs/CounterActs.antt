-- What a step of a counter does, that no store or increment is answered no, and what any act does.
use Rattle.std.proofs.Common.{◌≡◌, ◌⊎◌, inl, inr, ℕ, zero, suc, ◌+◌, ◌^◌, ◌<◌, ◌≤◌, Bool, true, false, not, cond, if◌then◌else◌, List, [], ◌∷◌, length, filter, Option, Some, None, refl, sym, ap, ◌∙◌, subst, arith, w64}
use Rattle.std.specs.Prelude.{ℤ, pos, nat_lt, find, ◌==◌, option_map, replicate}
use Rattle.std.specs.Int.RustNames.{FitsSigned}
use Rattle.std.specs.Str.{bytes_eq}
use Rattle.std.specs.List.{Contains, count_by, range_with_len}
use Rattle.std.proofs.lemmas.Bool.{cases_Bool, false≢true, false_from_ne_true, ltb-true, lt-ltb, eqb-true, eq-eqb}
use Rattle.std.proofs.lemmas.Int.{wrapping_add_is, int_wrap_fits}
use Rattle.seg_words.specs.Members.{count-cons}
use Rattle.php_graph.specs.declared.kind.Kind.{Kind}
use Rattle.php_graph.specs.declared.kind.Kind.TheVariants as kinds
use Rattle.php_graph.specs.Size.{block_size}
use Rattle.apcu_model.specs.declared.conf.Conf.{Conf}
use Rattle.apcu_model.specs.Cache.{Row, Cache, has_key}
use Rattle.apcu_model.specs.Change.{is_held, with_row, inserted, Insertion}
use Rattle.apcu_model.specs.Counters.{integer_in, with_integer, with_integer_at, integer_set, sum_of, counted_on, counted_at, begun, Count}
use Rattle.apcu_model.specs.Expiry.{live_row}
use Rattle.apcu_model.specs.History.{Stage, held_places}
use Rattle.apcu_model.specs.Lookups.{looked_up}
use Rattle.apcu_model.specs.Sequential.{cache_after, reply_to, is_stored, number_reply}
use Rattle.script_read.specs.GeneratedScripts.{Fetches, Stores, Counts, value_key, counter_key}
use Rattle.play_laws.specs.Summary.{is_no, is_declined}
use Rattle.play_laws.proofs.RowFacts.{key_is, found_there}
use Rattle.play_laws.proofs.CountLemmas.{count_alike}
use Rattle.play_laws.proofs.NewRows.{value_at, live_is, finds_own, finds_other, finds_changed}
use Rattle.apcu_model.proofs.FirstMoment.{new_row}
use Rattle.play_laws.proofs.SmallRows.{IsRoomy, Alike, laid_changed, few_held}
use Rattle.play_laws.proofs.ScriptKeys.{names_of, few_names, value_named, counter_named, value_small, counter_small, other_counter}
use Rattle.play_laws.proofs.Acts.{Act, Does, Watches, Ends, request_of, IsAct, stores_in, times_in, sums_in, begun_counters, counter_value, Good, good_same, good_looked, IsShort, few_begun, Inserted, inserted_so, good_store}

-- ---- a counter

abbrev pub stepped_times : ℕ → (ℕ → ℕ) → ℕ → ℕ
stepped_times n t i = t i + cond (n == i) 1 0

abbrev pub stepped_sums : ℕ → ℕ → (ℕ → ℕ) → ℕ → ℕ
stepped_sums n step u i = u i + cond (n == i) step 0

-- one more counter if the counter was not created before, and as many as before if it was
count_one_more : (p q : ℕ → Bool) (n from len : ℕ) → from ≤ n → n < from + len → p n ≡ false → q n ≡ true → ((i : ℕ) → (i ≡ n → ⊥) → q i ≡ p i) → count_by q (range_with_len from len) ≡ count_by p (range_with_len from len) + 1
count_one_more p q n from zero low high a b others = absurd (omega (arith, low, high))
count_one_more p q n from (suc len) low high a b others = elim (cases_Bool (from == n)) [
  | inl t ↦
      let same : from ≡ n = eqb-true from n t in
      let one : cond {A = ℕ} (p from) 1 0 ≡ 0 = ap (λ x. cond {A = ℕ} x 1 0) (ap p same ∙ a) in
      let two : cond {A = ℕ} (q from) 1 0 ≡ 1 = ap (λ x. cond {A = ℕ} x 1 0) (ap q same ∙ b) in
      let rest = count_past p q n (from + 1) len (omega (arith, same)) others in
      omega (arith, one, two, rest, count-cons p from (range_with_len (from + 1) len), count-cons q from (range_with_len (from + 1) len))
  | inr f ↦
      let differ : from ≡ n → ⊥ = λ e. false≢true (sym f ∙ eq-eqb from n e) in
      let one : cond {A = ℕ} (q from) 1 0 ≡ cond {A = ℕ} (p from) 1 0 = ap (λ x. cond {A = ℕ} x 1 0) (others from differ) in
      let rest = count_one_more p q n (from + 1) len (past (from) n low differ) (omega (arith, high)) a b others in
      omega (arith, one, rest, count-cons p from (range_with_len (from + 1) len), count-cons q from (range_with_len (from + 1) len))
]
  where
    past : (a b : ℕ) → a ≤ b → (a ≡ b → ⊥) → a + 1 ≤ b
    past a b l d = omega (arith, l, d)

    count_past : (p q : ℕ → Bool) (n from len : ℕ) → n < from → ((i : ℕ) → (i ≡ n → ⊥) → q i ≡ p i) → count_by q (range_with_len from len) ≡ count_by p (range_with_len from len)
    count_past p q n from zero low others = refl
    count_past p q n from (suc len) low others =
        let one : cond {A = ℕ} (q from) 1 0 ≡ cond {A = ℕ} (p from) 1 0 = ap (λ x. cond {A = ℕ} x 1 0) (others from (λ e. omega (arith, low, e))) in
        omega (arith, one, count_past p q n (from + 1) len (omega (arith, low)) others, count-cons p from (range_with_len (from + 1) len), count-cons q from (range_with_len (from + 1) len))

nothing_found : (o : Option Row) → option_map (λ (r : Row). r.graph) o ≡ None → o ≡ None
nothing_found None e = refl
nothing_found (Some r) e = absurd (cc e)

something_found : (o : Option Row) (g : List Kind) → option_map (λ (r : Row). r.graph) o ≡ Some g → (r : Row) × (o ≡ Some r) × (r.graph ≡ g)
something_found None g e = absurd (cc e)
something_found (Some r) g e = (r, refl, cc e)

fits_signed : (n : ℕ) → n < 2 ^ 63 → FitsSigned w64 (pos n)
fits_signed n h = record { sfits = h }

-- sums that are small are exact
sum_small : (a b : ℕ) → a + b < 2 ^ 63 → sum_of (pos a) (pos b) ≡ pos (a + b)
sum_small a b h = wrapping_add_is w64 (pos a) (pos b) (fits_signed a (omega (arith, h))) (fits_signed b (omega (arith, h))) ∙ int_wrap_fits w64 (pos (a + b)) (fits_signed (a + b) h)

at_own : (n : ℕ) (x : ℕ) → cond (n == n) x 0 ≡ x
at_own n x = ap (λ b. cond b x 0) (eq-eqb n n refl)

at_other : (n i x : ℕ) → (i ≡ n → ⊥) → cond (n == i) x 0 ≡ 0
at_other n i x d = ap (λ b. cond b x 0) (false_from_ne_true (n == i) (λ t. d (sym (eqb-true n i t))))

pub zero_value : (t u : ℕ) → t ≡ 0 → counter_value t u ≡ None
zero_value t u e = ap (λ n. counter_value n u) e

pub some_value : (t u : ℕ) → (t ≡ 0 → ⊥) → counter_value t u ≡ Some (kinds.Int (pos u) ∷ [])
some_value t u d = ap (λ b. if b then None else Some (kinds.Int (pos u) ∷ [])) (false_from_ne_true (t == 0) (λ e. d (eqb-true t 0 e)))

pub same_or_not : (a b : ℕ) → (a ≡ b) ⊎ (a ≡ b → ⊥)
same_or_not a b = elim (cases_Bool (a == b)) [
  | inl t ↦ inl (eqb-true a b t)
  | inr f ↦ inr (λ e. false≢true (sym f ∙ eq-eqb a b e))
]

-- a counter that begins
good_begun : (conf : Conf) (workers : ℕ) (held : List ℕ) (n step : ℕ) (c : Cache) (s : ℕ) (t u : ℕ → ℕ) → IsRoomy conf → workers ≤ 64 → length (filter (is_held held) c.removed) ≤ 64 → IsShort s u → n < 8 → t n ≡ 0
    → Good conf (names_of workers) c s t u → Good conf (names_of workers) (inserted held (counter_key n) (kinds.Int (pos step) ∷ []) 0 false 0 c).cache s (stepped_times n t) (stepped_sums n step u)
good_begun conf workers held n step c s t u roomy most few short within after_sweep g =
    subst (λ (x : Insertion). Good conf (names_of workers) x.cache s (stepped_times n t) (stepped_sums n step u)) (sym i.is) (record {
      laid = i.laid;
      expunges = g.expunges;
      inserts = omega (arith, g.inserts, short.stores, few_begun t, more);
      next = omega (arith, g.next, g.inserts, short.stores, few_begun t);
      values = λ k h. ap (λ (l : List Row). value_at (counter_key k) l) i.rows ∙ value k h (same_or_not k n);
      none = λ k z. none k z (same_or_not k n);
    })
  where
    key : List ℕ
    key = counter_key n

    graph : List Kind
    graph = kinds.Int (pos step) ∷ []

    i : Inserted conf (names_of workers) held key graph c
    i = inserted_so conf (names_of workers) held key graph c roomy (few_names workers most) g.laid few (counter_named workers n within) (omega (arith, g.next, g.inserts, short.stores, few_begun t)) (counter_small n (kinds.Int (pos step)) within refl)

    new : Row
    new = new_row key graph (block_size (length key) graph) i.place c.next_number

    own : stepped_times n t n ≡ t n + 1
    own = ap (λ x. t n + x) (at_own n 1)

    others : (k : ℕ) → (k ≡ n → ⊥) → stepped_times n t k ≡ t k
    others k d = omega (arith, at_other n k 1 d)

    more : begun_counters (stepped_times n t) ≡ begun_counters t + 1
    more =
        count_one_more (λ i. nat_lt 0 (t i)) (λ i. nat_lt 0 (stepped_times n t i)) n 0 8 (omega arith) (omega (arith, within)) (false_from_ne_true (nat_lt 0 (t n)) (λ h. omega (arith, ltb-true 0 (t n) h, after_sweep))) (lt-ltb 0 (stepped_times n t n) (omega (arith, own)))
        (λ k d. ap (λ x. nat_lt 0 x) (others k d))

    value : (k : ℕ) → k < 8 → (k ≡ n) ⊎ (k ≡ n → ⊥) → value_at (counter_key k) (with_row new c.rows) ≡ counter_value (stepped_times n t k) (stepped_sums n step u k)
    value k h (inl same) =
        let sum : u n + cond (n == n) step 0 ≡ step = omega (arith, at_own n step, g.none n after_sweep) in
        subst (λ x. value_at (counter_key x) (with_row new c.rows) ≡ counter_value (stepped_times n t x) (stepped_sums n step u x)) (sym same)
        (ap (λ (o : Option Row). option_map (λ (r : Row). r.graph) o) (finds_own new c.rows) ∙ sym (some_value (stepped_times n t n) (stepped_sums n step u n) (λ z. omega (arith, own, z)) ∙ ap (λ x. Some (kinds.Int (pos x) ∷ [])) sum))
    value k h (inr d) =
        let sum : u k + cond (n == k) step 0 ≡ u k = omega (arith, at_other n k step d) in
        ap (λ (o : Option Row). option_map (λ (r : Row). r.graph) o) (finds_other (counter_key k) new c.rows (other_counter n k within h (λ e. d (sym e))))
        ∙ (g.values k h ∙ (ap (λ x. counter_value x (u k)) (sym (others k d)) ∙ ap (λ x. counter_value (stepped_times n t k) x) (sym sum)))

    none : (k : ℕ) → stepped_times n t k ≡ 0 → (k ≡ n) ⊎ (k ≡ n → ⊥) → stepped_sums n step u k ≡ 0
    none k z (inl same) = absurd (omega (arith, own, subst (λ x. stepped_times n t x ≡ 0) same z))
    none k z (inr d) = omega (arith, at_other n k step d, g.none k (omega (arith, z)))

-- a counter that goes on
good_on : (conf : Conf) (workers n step : ℕ) (row : Row) (c : Cache) (s : ℕ) (t u : ℕ → ℕ) → IsShort s u → n < 8 → step < 100 → (t n ≡ 0 → ⊥) → find (has_key (counter_key n)) c.rows ≡ Some row
    → Good conf (names_of workers) c s t u → Good conf (names_of workers) (integer_set (counter_key n) (pos (u n + step)) 0 c) s (stepped_times n t) (stepped_sums n step u)
good_on conf workers n step row c s t u short within low old found g = record {
  laid = laid_changed conf (names_of workers) f c (integer_set (counter_key n) (pos (u n + step)) 0 c) alike refl refl refl refl g.laid;
  expunges = g.expunges;
  inserts = omega (arith, g.inserts, same);
  next = g.next;
  values = λ k h. ap (λ (o : Option Row). option_map (λ (r : Row). r.graph) o) (finds_changed (counter_key k) f c.rows alike.key) ∙ value k h (same_or_not k n);
  none = λ k z. none k z (same_or_not k n);
}
  where
    f : Row → Row
    f = with_integer_at (counter_key n) (pos (u n + step)) 0

    alike : Alike f
    alike = record {
      key = λ r. elim (has_key (counter_key n) r) as (λ b. (if b then with_integer (pos (u n + step)) 0 r else r).key ≡ r.key) [ true ↦ refl | false ↦ refl ];
      number = λ r. elim (has_key (counter_key n) r) as (λ b. (if b then with_integer (pos (u n + step)) 0 r else r).number ≡ r.number) [ true ↦ refl | false ↦ refl ];
      place = λ r. elim (has_key (counter_key n) r) as (λ b. (if b then with_integer (pos (u n + step)) 0 r else r).place ≡ r.place) [ true ↦ refl | false ↦ refl ];
      size = λ r. elim (has_key (counter_key n) r) as (λ b. (if b then with_integer (pos (u n + step)) 0 r else r).size ≡ r.size) [ true ↦ refl | false ↦ refl ];
    }

    own : stepped_times n t n ≡ t n + 1
    own = ap (λ x. t n + x) (at_own n 1)

    others : (k : ℕ) → (k ≡ n → ⊥) → stepped_times n t k ≡ t k
    others k d = omega (arith, at_other n k 1 d)

    positive : 0 < t n
    positive = go old
      where
        go : (t n ≡ 0 → ⊥) → 0 < t n
        go d = omega (arith, d)

    same : begun_counters (stepped_times n t) ≡ begun_counters t
    same = count_alike (λ i. nat_lt 0 (stepped_times n t i)) (λ i. nat_lt 0 (t i)) (range_with_len 0 8) (λ k. at k (same_or_not k n))
      where
        at : (k : ℕ) → (k ≡ n) ⊎ (k ≡ n → ⊥) → nat_lt 0 (stepped_times n t k) ≡ nat_lt 0 (t k)
        at k (inl e) = subst (λ x. nat_lt 0 (stepped_times n t x) ≡ nat_lt 0 (t x)) (sym e) (lt-ltb 0 (stepped_times n t n) (omega (arith, own)) ∙ sym (lt-ltb 0 (t n) positive))
        at k (inr d) = ap (λ x. nat_lt 0 x) (others k d)

    there : Contains c.rows row × (has_key (counter_key n) row ≡ true)
    there = found_there (has_key (counter_key n)) c.rows row found

    value : (k : ℕ) → k < 8 → (k ≡ n) ⊎ (k ≡ n → ⊥) → option_map (λ (r : Row). r.graph) (option_map f (find (has_key (counter_key k)) c.rows)) ≡ counter_value (stepped_times n t k) (stepped_sums n step u k)
    value k h (inl e) =
        let sum : u n + cond (n == n) step 0 ≡ u n + step = omega (arith, at_own n step) in
        subst (λ x. option_map (λ (r : Row). r.graph) (option_map f (find (has_key (counter_key x)) c.rows)) ≡ counter_value (stepped_times n t x) (stepped_sums n step u x)) (sym e)
        (ap (λ (o : Option Row). option_map (λ (r : Row). r.graph) (option_map f o)) found
        ∙ (ap (λ b. Some (if b then with_integer (pos (u n + step)) 0 row else row).graph) there.1
        ∙ sym (some_value (stepped_times n t n) (stepped_sums n step u n) (λ z. omega (arith, own, z)) ∙ ap (λ x. Some (kinds.Int (pos x) ∷ [])) sum)))
    value k h (inr d) =
        let sum : u k + cond (n == k) step 0 ≡ u k = omega (arith, at_other n k step d) in
        unchanged (find (has_key (counter_key k)) c.rows) refl
        ∙ (g.values k h ∙ (ap (λ x. counter_value x (u k)) (sym (others k d)) ∙ ap (λ x. counter_value (stepped_times n t k) x) (sym sum)))
      where
        unchanged : (o : Option Row) → find (has_key (counter_key k)) c.rows ≡ o → option_map (λ (r : Row). r.graph) (option_map f o) ≡ option_map (λ (r : Row). r.graph) o
        unchanged None q = refl
        unchanged (Some r) q =
            let has = (found_there (has_key (counter_key k)) c.rows r q).1 in
            let lacks : has_key (counter_key n) r ≡ false = subst (λ (x : List ℕ). bytes_eq x (counter_key n) ≡ false) (sym (key_is (counter_key k) r has)) (other_counter k n h within d) in
            ap (λ b. Some (if b then with_integer (pos (u n + step)) 0 r else r).graph) lacks

    none : (k : ℕ) → stepped_times n t k ≡ 0 → (k ≡ n) ⊎ (k ≡ n → ⊥) → stepped_sums n step u k ≡ 0
    none k z (inl e) = absurd (omega (arith, own, subst (λ x. stepped_times n t x ≡ 0) e z))
    none k z (inr d) = omega (arith, at_other n k step d, g.none k (omega (arith, z)))

good_counted : (conf : Conf) (workers : ℕ) (held : List ℕ) (n step : ℕ) (c : Cache) (s : ℕ) (t u : ℕ → ℕ) → IsRoomy conf → workers ≤ 64 → length (filter (is_held held) c.removed) ≤ 64 → IsShort s u → n < 8 → step < 100
    → Good conf (names_of workers) c s t u → Good conf (names_of workers) (counted_at held (counter_key n) (pos step) 0 0 c (live_row (counter_key n) 0 c)).cache s (stepped_times n t) (stepped_sums n step u)
good_counted conf workers held n step c s t u roomy most few short within low g = go (same_or_not (t n) 0)
  where
    key : List ℕ
    key = counter_key n

    After : Cache → Type 0
    After d = Good conf (names_of workers) d s (stepped_times n t) (stepped_sums n step u)

    is_live : find (has_key key) c.rows ≡ live_row key 0 c
    is_live = sym (live_is key c)

    go : (t n ≡ 0) ⊎ (t n ≡ 0 → ⊥) → After (counted_at held key (pos step) 0 0 c (live_row key 0 c)).cache
    go (inl after_sweep) =
        let nothing : live_row key 0 c ≡ None = sym is_live ∙ nothing_found (find (has_key key) c.rows) (g.values n within ∙ zero_value (t n) (u n) after_sweep) in
        subst (λ (o : Option Row). After (counted_at held key (pos step) 0 0 c o).cache) (sym nothing) (good_begun conf workers held n step c s t u roomy most few short within after_sweep g)
    go (inr old) =
        let r = something_found (find (has_key key) c.rows) (kinds.Int (pos (u n)) ∷ []) (g.values n within ∙ some_value (t n) (u n) old) in
        let live : live_row key 0 c ≡ Some r.0 = sym is_live ∙ r.1 in
        let is : integer_in r.0.graph ≡ Some (pos (u n)) = ap integer_in r.2 in
        let sum = sum_small (u n) step (omega (arith, short.sums n, low)) in
        subst (λ (o : Option Row). After (counted_at held key (pos step) 0 0 c o).cache) (sym live)
        (subst (λ (o : Option ℤ). After (counted_on key (pos step) 0 c o).cache) (sym is)
        (subst (λ (z : ℤ). After (integer_set key z 0 c)) (sym sum) (good_on conf workers n step r.0 c s t u short within low old r.1 g)))

-- ---- what is stored finds room

not_declined_store : (conf : Conf) (workers : ℕ) (held : List ℕ) (worker n len : ℕ) (c : Cache) (s : ℕ) (t u : ℕ → ℕ) → IsRoomy conf → workers ≤ 64 → length (filter (is_held held) c.removed) ≤ 64 → IsShort s u → (worker < workers) × (n < 16) × (len < 200)
    → Good conf (names_of workers) c s t u → is_declined (request_of (Does worker (Stores n len))) (reply_to held 0 (request_of (Does worker (Stores n len))) c) ≡ false
not_declined_store conf workers held worker n len c s t u roomy most few short ranges g =
    let key = value_key worker n in
    let i = inserted_so conf (names_of workers) held key (kinds.Str (replicate len 120) ∷ []) c roomy (few_names workers most) g.laid few (value_named workers worker n ranges.0 ranges.1) (omega (arith, g.next, g.inserts, short.stores, few_begun t)) (value_small worker n len (omega (arith, ranges.0, most)) ranges.1 ranges.2) in
    ap (λ (x : Insertion). not (is_stored x.answer)) i.is

not_declined_count : (conf : Conf) (workers : ℕ) (held : List ℕ) (worker n step : ℕ) (c : Cache) (s : ℕ) (t u : ℕ → ℕ) → IsRoomy conf → workers ≤ 64 → length (filter (is_held held) c.removed) ≤ 64 → IsShort s u → n < 8
    → Good conf (names_of workers) c s t u → is_declined (request_of (Does worker (Counts n step))) (reply_to held 0 (request_of (Does worker (Counts n step))) c) ≡ false
not_declined_count conf workers held worker n step c s t u roomy most few short within g = go (same_or_not (t n) 0)
  where
    key : List ℕ
    key = counter_key n

    After : Count → Type 0
    After d = is_no (number_reply d.number) ≡ false

    is_live : find (has_key key) c.rows ≡ live_row key 0 c
    is_live = sym (live_is key c)

    go : (t n ≡ 0) ⊎ (t n ≡ 0 → ⊥) → After (counted_at held key (pos step) 0 0 c (live_row key 0 c))
    go (inl after_sweep) =
        let nothing : live_row key 0 c ≡ None = sym is_live ∙ nothing_found (find (has_key key) c.rows) (g.values n within ∙ zero_value (t n) (u n) after_sweep) in
        let i = inserted_so conf (names_of workers) held key (kinds.Int (pos step) ∷ []) c roomy (few_names workers most) g.laid few (counter_named workers n within) (omega (arith, g.next, g.inserts, short.stores, few_begun t)) (counter_small n (kinds.Int (pos step)) within refl) in
        subst (λ (o : Option Row). After (counted_at held key (pos step) 0 0 c o)) (sym nothing) (ap (λ (x : Insertion). is_no (number_reply (begun (pos step) x).number)) i.is)
    go (inr old) =
        let r = something_found (find (has_key key) c.rows) (kinds.Int (pos (u n)) ∷ []) (g.values n within ∙ some_value (t n) (u n) old) in
        let live : live_row key 0 c ≡ Some r.0 = sym is_live ∙ r.1 in
        let is : integer_in r.0.graph ≡ Some (pos (u n)) = ap integer_in r.2 in
        subst (λ (o : Option Row). After (counted_at held key (pos step) 0 0 c o)) (sym live)
        (subst (λ (o : Option ℤ). After (counted_on key (pos step) 0 c o)) (sym is) refl)

pub not_declined : (conf : Conf) (workers : ℕ) (m : Stage) (mask : ℕ) (act : Act) (s : ℕ) (t u : ℕ → ℕ) → IsRoomy conf → workers ≤ 64 → length m.windows ≤ 64 → IsShort s u → IsAct workers act → Good conf (names_of workers) m.cache s t u
    → is_declined (request_of act) (reply_to (held_places m mask) 0 (request_of act) m.cache) ≡ false
not_declined conf workers m mask act s t u roomy most windows short ranges g = go act ranges (few_held conf (names_of workers) m mask g.laid windows)
  where
    held : List ℕ
    held = held_places m mask

    go : (act : Act) → IsAct workers act → length (filter (is_held held) m.cache.removed) ≤ 64 → is_declined (request_of act) (reply_to held 0 (request_of act) m.cache) ≡ false
    go (Does worker (Fetches owner n)) r few = refl
    go (Does worker (Stores n len)) r few = not_declined_store conf workers held worker n len m.cache s t u roomy most few short r g
    go (Does worker (Counts n step)) r few = not_declined_count conf workers held worker n step m.cache s t u roomy most few short r.0 g
    go (Watches n) r few = refl
    go Ends r few = refl

-- ---- any act

pub good_act : (conf : Conf) (workers : ℕ) (m : Stage) (mask : ℕ) (act : Act) (s : ℕ) (t u : ℕ → ℕ) → IsRoomy conf → workers ≤ 64 → length m.windows ≤ 64 → IsShort s u → IsAct workers act → Good conf (names_of workers) m.cache s t u
    → Good conf (names_of workers) (cache_after (held_places m mask) 0 (request_of act) m.cache) (s + stores_in act) (λ i. t i + times_in i act) (λ i. u i + sums_in i act)
good_act conf workers m mask act s t u roomy most windows short ranges g = go act ranges
  where
    names : List (List ℕ)
    names = names_of workers

    held : List ℕ
    held = held_places m mask

    few : length (filter (is_held held) m.cache.removed) ≤ 64
    few = few_held conf names m mask g.laid windows

    same : (d : Cache) → Good conf names d s t u → Good conf names d (s + 0) (λ i. t i + 0) (λ i. u i + 0)
    same d h = good_same conf names d s (s + 0) t (λ i. t i + 0) u (λ i. u i + 0) (omega arith) (λ i. omega arith) (λ i. omega arith) h

    go : (act : Act) → IsAct workers act → Good conf names (cache_after held 0 (request_of act) m.cache) (s + stores_in act) (λ i. t i + times_in i act) (λ i. u i + sums_in i act)
    go (Does worker (Fetches owner n)) r = same (looked_up (value_key owner n) 0 (live_row (value_key owner n) 0 m.cache) m.cache) (good_looked conf names (value_key owner n) (live_row (value_key owner n) 0 m.cache) m.cache s t u g)
    go (Does worker (Stores n len)) r =
        good_same conf names (cache_after held 0 (request_of (Does worker (Stores n len))) m.cache) (s + 1) (s + 1) t (λ i. t i + 0) u (λ i. u i + 0) refl (λ i. omega arith) (λ i. omega arith) (good_store conf workers held worker n len m.cache s t u roomy most few short r g)
    go (Does worker (Counts n step)) r =
        good_same conf names (cache_after held 0 (request_of (Does worker (Counts n step))) m.cache) s (s + 0) (stepped_times n t) (stepped_times n t) (stepped_sums n step u) (stepped_sums n step u) (omega arith) (λ i. refl) (λ i. refl)
        (good_counted conf workers held n step m.cache s t u roomy most few short r.0 r.1 g)
    go (Watches n) r = same (looked_up (counter_key n) 0 (live_row (counter_key n) 0 m.cache) m.cache) (good_looked conf names (counter_key n) (live_row (counter_key n) 0 m.cache) m.cache s t u g)
    go Ends r = same m.cache g
