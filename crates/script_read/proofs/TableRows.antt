-- A row of the table, as the steps that a function of its own takes: each argument by what it is made of.
use Rattle.std.proofs.Common.{◌≡◌, ℕ, Bool, true, false, cond, List, [], Option, Some, None, Result, Ok, Err, refl, sym, ap, subst, ◌∙◌}
use Rattle.std.specs.Prelude.{codes, ℤ, pos}
use Rattle.std.specs.Option.{option_map}
use Rattle.php_graph.specs.declared.kind.Kind.{Kind}
use Rattle.notation.specs.declared.fault.Fault.{Fault}
use Rattle.notation.specs.Marks.{◌>>=◌, fail}
use Rattle.notation.specs.Reading.{reading_of}
use Rattle.apcu_model.specs.Levels.{Generator}
use Rattle.apcu_model.specs.declared.searching.List.TheVariants.{Active}
use Rattle.script_read.specs.declared.call.Call.TheVariants.{StoreOne, StoreMany, Inc, Cas, Entry, KeyInfo, CacheInfo, SmaInfo, Walk, WalkDelete, Totals}
use Rattle.script_read.specs.declared.effect.Effect.{Effect}
use Rattle.script_read.specs.declared.effect.Effect.TheVariants.{Calls}
use Rattle.script_read.specs.declared.choices.Stored.{Stored}
use Rattle.script_read.specs.declared.choices.Stored.TheVariants as stores
use Rattle.script_read.specs.Arguments.{any_value, key, integer, truth, null, ttl_in, moment, asked_of, stored, search_for, fields, all_fields, chunk_size, which_list}
use Rattle.script_read.specs.Table.{Form, Done, Need, May, Make, Refuse, or_refuse, taken, needs, may, call_form, timing, moment_form, store_one, store_many, store_by, fetch_of, exists_of, delete_of, step_by, count_form, cas_form, entry_form, key_info_form, info_form, usual_size, walk_form, walk_delete_form, totals_form, form_in, form_of}
use Rattle.script_read.specs.GenParts.{entry_round}
use Rattle.script_read.specs.Grammar.{inner_levels}
use Rattle.script_read.specs.Reading.{space_at, ends_here, end_at, chosen, choice_at, argument_at, optional_at, last_argument_at, generator_at, gen_argument_at, rest_at, line_word, behind_word, form_after, line_at}
use Rattle.script_read.specs.declared.fault.Stop.{Stop}
use Rattle.script_read.specs.declared.fault.Stop.TheVariants as stops
use Rattle.script_read.specs.Gives.{Stops, GivesItem}
use Rattle.notation.specs.declared.fault.Reason.{Reason}
use Rattle.notation.specs.declared.fault.Reason.TheVariants as reasons

-- a form that refuses nothing by itself
abbrev pub Goes : Form → Type 0
Goes (Done e) = Unit {0}
Goes (Need next) = Unit {0}
Goes (May short next) = Goes short
Goes (Make next) = Unit {0}
Goes (Refuse reason) = ⊥

-- such a form does not look at what stands last
pub last_is : (form : Form) (a b bytes : List ℕ) → Goes form → rest_at form a bytes ≡ rest_at form b bytes
unfolding rest_at
last_is (Done e) a b bytes goes = refl
last_is (Need next) a b bytes goes = refl
last_is (May short next) a b bytes goes = ap (λ (r : Result (Effect × List ℕ) Fault). cond (ends_here bytes) r (space_at bytes >>= λ argument. reading_of argument >>= λ v. rest_at (next v.0) argument v.1)) (last_is short a b bytes goes)
last_is (Make next) a b bytes goes = refl
last_is (Refuse reason) a b bytes goes = absurd goes

-- what follows an argument
abbrev pub on : {A : Type 0} → (A → Form) → Result (A × List ℕ) Fault → Result (Effect × List ℕ) Fault
on next r = r >>= λ x. rest_at (next x.0) [] x.1

value_on : {A : Type 0} (choose : List Kind → Option A) (next : A → Form) (argument : List ℕ) (r : Result (List Kind × List ℕ) Fault) → ((x : A) → Goes (next x))
    → (r >>= λ v. rest_at (taken choose next v.0) argument v.1) ≡ on next (r >>= λ v. chosen (choose v.0) argument v.1)
unfolding rest_at
value_on {A = A} choose next argument (Err e) goes = refl
value_on {A = A} choose next argument (Ok v) goes = by_choice (choose v.0)
  where
    by_choice : (o : Option A) → rest_at (or_refuse (option_map next o)) argument v.1 ≡ on next (chosen o argument v.1)
    by_choice None = refl
    by_choice (Some x) = last_is (next x) argument [] v.1 (goes x)

space_on : {A : Type 0} (choose : List Kind → Option A) (next : A → Form) (r : Result (List ℕ) Fault) → ((x : A) → Goes (next x))
    → (r >>= λ argument. reading_of argument >>= λ v. rest_at (taken choose next v.0) argument v.1) ≡ on next (r >>= λ argument. choice_at choose argument)
space_on choose next (Err e) goes = refl
space_on choose next (Ok argument) goes = value_on choose next argument (reading_of argument) goes

pub needs_is : {A : Type 0} (choose : List Kind → Option A) (next : A → Form) (last bytes : List ℕ) → ((x : A) → Goes (next x)) → rest_at (needs choose next) last bytes ≡ on next (argument_at choose bytes)
unfolding rest_at
needs_is choose next last bytes goes = space_on choose next (space_at bytes) goes

pub may_is : {A : Type 0} (default : A) (choose : List Kind → Option A) (next : A → Form) (last bytes : List ℕ) → ((x : A) → Goes (next x)) → rest_at (may default choose next) last bytes ≡ on next (optional_at default choose bytes)
unfolding rest_at
may_is {A = A} default choose next last bytes goes = by_end (ends_here bytes)
  where
    by_end : (b : Bool) → cond b (rest_at (next default) last bytes) (space_at bytes >>= λ argument. reading_of argument >>= λ v. rest_at (taken choose next v.0) argument v.1) ≡ on next (cond b (Ok (default, bytes)) (argument_at choose bytes))
    by_end true = last_is (next default) last [] bytes (goes default)
    by_end false = space_on choose next (space_at bytes) goes

gen_on : (next : Generator → Form) (argument : List ℕ) (r : Result (Generator × List ℕ) Fault) → ((x : Generator) → Goes (next x)) → (r >>= λ v. rest_at (next v.0) argument v.1) ≡ on next r
gen_on next argument (Err e) goes = refl
gen_on next argument (Ok v) goes = last_is (next v.0) argument [] v.1 (goes v.0)

space_gen : (next : Generator → Form) (r : Result (List ℕ) Fault) → ((x : Generator) → Goes (next x))
    → (r >>= λ argument. generator_at inner_levels argument >>= λ v. rest_at (next v.0) argument v.1) ≡ on next (r >>= λ argument. generator_at inner_levels argument)
space_gen next (Err e) goes = refl
space_gen next (Ok argument) goes = gen_on next argument (generator_at inner_levels argument) goes

pub make_is : (next : Generator → Form) (last bytes : List ℕ) → ((x : Generator) → Goes (next x)) → rest_at (Make next) last bytes ≡ on next (gen_argument_at bytes)
unfolding rest_at
make_is next last bytes goes = space_gen next (space_at bytes) goes

-- a step fails, and so does what begins with it
pub fails : {A : Type 0} (e : Stop) (r : Result A Fault) (f : A → Result (Effect × List ℕ) Fault) (whole : Result (Effect × List ℕ) Fault) → whole ≡ (r >>= f) → Stops e r → Stops e whole
fails stops.Memory r f whole is stop = tt
fails (stops.Fault fault) r f whole is stop = is ∙ ap (λ r. r >>= f) stop

-- a step was taken, and what comes after it is all
pub goes_on : {A : Type 0} (r : Result A Fault) (f : A → Result (Effect × List ℕ) Fault) (x : A) (whole : Result (Effect × List ℕ) Fault) → whole ≡ (r >>= f) → r ≡ Ok x → whole ≡ f x
goes_on r f x whole is e = is ∙ ap (λ r. r >>= f) e

-- this effect was read
abbrev pub was_read : List ℕ → Effect → Result (Effect × List ℕ) Fault
was_read rest e = Ok (e, rest)

-- ---- words, each by the three above

then_is : {A B : Type 0} (r : Result A Fault) (f g : A → Result B Fault) → ((x : A) → f x ≡ g x) → (r >>= f) ≡ (r >>= g)
then_is (Ok x) f g same = same x
then_is (Err e) f g same = refl

-- the end of the line, after which this is its effect
abbrev pub ended : {A : Type 0} → (A → Effect) → A × List ℕ → Result (Effect × List ℕ) Fault
ended effect x = end_at x.1 >>= λ rest. Ok (effect x.0, rest)

pub moment_is : (begins : Bool) (last bytes : List ℕ) → rest_at (moment_form begins) last bytes ≡ (argument_at moment bytes >>= ended (timing begins))
unfolding rest_at
moment_is begins last bytes = needs_is moment (λ t. Done (timing begins t)) last bytes (λ t. tt)

pub store_one_is : (exclusive : Bool) (k last bytes : List ℕ) → rest_at (store_one exclusive k) last bytes
    ≡ (argument_at any_value bytes >>= λ v. on (λ t. call_form (StoreOne k v.0 t exclusive)) (optional_at 0 ttl_in v.1))
unfolding rest_at
store_one_is exclusive k last bytes =
    needs_is any_value (λ v. may 0 ttl_in (λ t. call_form (StoreOne k v t exclusive))) last bytes (λ v. tt)
    ∙ then_is (argument_at any_value bytes) _ _ (λ v. may_is 0 ttl_in (λ t. call_form (StoreOne k v.0 t exclusive)) [] v.1 (λ t. tt))

pub store_many_is : (exclusive : Bool) (ps : List (List ℕ × List Kind)) (last bytes : List ℕ) → rest_at (store_many exclusive ps) last bytes
    ≡ (optional_at tt null bytes >>= λ n. on (λ t. call_form (StoreMany ps t exclusive)) (optional_at 0 ttl_in n.1))
unfolding rest_at
store_many_is exclusive ps last bytes =
    may_is tt null (λ n. may 0 ttl_in (λ t. call_form (StoreMany ps t exclusive))) last bytes (λ n. tt)
    ∙ then_is (optional_at tt null bytes) _ _ (λ n. may_is 0 ttl_in (λ t. call_form (StoreMany ps t exclusive)) [] n.1 (λ t. tt))

by_goes : (exclusive : Bool) (s : Stored) → Goes (store_by exclusive s)
by_goes exclusive (stores.One k) = tt
by_goes exclusive (stores.Many ps) = tt

pub stored_is : (exclusive : Bool) (last bytes : List ℕ) → rest_at (needs stored (store_by exclusive)) last bytes ≡ (argument_at stored bytes >>= λ s. rest_at (store_by exclusive s.0) [] s.1)
stored_is exclusive last bytes = needs_is stored (store_by exclusive) last bytes (by_goes exclusive)

-- the argument and the end first, and its effect then
abbrev kept : {A : Type 0} → A → List ℕ → Result (A × List ℕ) Fault
kept x rest = Ok (x, rest)

effect_last : {A : Type 0} (r : Result (A × List ℕ) Fault) (effect : A → Effect) → (r >>= ended effect) ≡ ((r >>= λ x. end_at x.1 >>= λ rest. kept x.0 rest) >>= λ a. kept (effect a.0) a.1)
effect_last {A = A} (Err e) effect = refl
effect_last {A = A} (Ok x) effect = by_end (end_at x.1)
  where
    by_end : (r : Result (List ℕ) Fault) → (r >>= λ rest. kept (effect x.0) rest) ≡ ((r >>= λ rest. kept x.0 rest) >>= λ a. kept (effect a.0) a.1)
    by_end (Ok rest) = refl
    by_end (Err e) = refl

pub fetch_is : (last bytes : List ℕ) → rest_at (form_of (codes "apcu_fetch")) last bytes ≡ (last_argument_at asked_of bytes >>= λ a. Ok (Calls (fetch_of a.0), a.1))
unfolding form_in rest_at
fetch_is last bytes = needs_is asked_of (λ a. call_form (fetch_of a)) last bytes (λ a. tt) ∙ effect_last (argument_at asked_of bytes) (λ a. Calls (fetch_of a))

pub exists_is : (last bytes : List ℕ) → rest_at (form_of (codes "apcu_exists")) last bytes ≡ (last_argument_at asked_of bytes >>= λ a. Ok (Calls (exists_of a.0), a.1))
unfolding form_in rest_at
exists_is last bytes = needs_is asked_of (λ a. call_form (exists_of a)) last bytes (λ a. tt) ∙ effect_last (argument_at asked_of bytes) (λ a. Calls (exists_of a))

pub delete_is : (last bytes : List ℕ) → rest_at (form_of (codes "apcu_delete")) last bytes ≡ (last_argument_at asked_of bytes >>= λ a. Ok (Calls (delete_of a.0), a.1))
unfolding form_in rest_at
delete_is last bytes = needs_is asked_of (λ a. call_form (delete_of a)) last bytes (λ a. tt) ∙ effect_last (argument_at asked_of bytes) (λ a. Calls (delete_of a))

-- ---- counters

pub count_is : (down : Bool) (last bytes : List ℕ) → rest_at (count_form down) last bytes
    ≡ (argument_at key bytes >>= λ k. optional_at (pos 1) integer k.1 >>= λ n. on (λ t. call_form (Inc k.0 (step_by down n.0) t)) (optional_at 0 ttl_in n.1))
unfolding rest_at
count_is down last bytes =
    needs_is key (λ k. may (pos 1) integer (λ n. may 0 ttl_in (λ t. call_form (Inc k (step_by down n) t)))) last bytes (λ k. tt)
    ∙ then_is (argument_at key bytes) _ _ (λ k. may_is (pos 1) integer (λ n. may 0 ttl_in (λ t. call_form (Inc k.0 (step_by down n) t))) [] k.1 (λ n. tt)
    ∙ then_is (optional_at (pos 1) integer k.1) _ _ (λ n. may_is 0 ttl_in (λ t. call_form (Inc k.0 (step_by down n.0) t)) [] n.1 (λ t. tt)))

pub cas_is : (last bytes : List ℕ) → rest_at cas_form last bytes
    ≡ (argument_at key bytes >>= λ k. argument_at integer k.1 >>= λ expect. argument_at integer expect.1 >>= ended (λ set. Calls (Cas k.0 expect.0 set)))
unfolding rest_at
cas_is last bytes =
    needs_is key (λ k. needs integer (λ expect. needs integer (λ set. call_form (Cas k expect set)))) last bytes (λ k. tt)
    ∙ then_is (argument_at key bytes) _ _ (λ k. needs_is integer (λ expect. needs integer (λ set. call_form (Cas k.0 expect set))) [] k.1 (λ expect. tt)
    ∙ then_is (argument_at integer k.1) _ _ (λ expect. needs_is integer (λ set. call_form (Cas k.0 expect.0 set)) [] expect.1 (λ set. tt)))

-- ---- entries and information

pub entry_is : (last bytes : List ℕ) → rest_at entry_form last bytes
    ≡ (argument_at key bytes >>= λ k. gen_argument_at k.1 >>= λ gen. optional_at 0 ttl_in gen.1 >>= ended (λ t. Calls (Entry (entry_round k.0 t gen.0))))
unfolding rest_at
entry_is last bytes =
    needs_is key (λ k. Make (λ gen. may 0 ttl_in (λ t. call_form (Entry (entry_round k t gen))))) last bytes (λ k. tt)
    ∙ then_is (argument_at key bytes) _ _ (λ k. make_is (λ gen. may 0 ttl_in (λ t. call_form (Entry (entry_round k.0 t gen)))) [] k.1 (λ gen. tt)
    ∙ then_is (gen_argument_at k.1) _ _ (λ gen. may_is 0 ttl_in (λ t. call_form (Entry (entry_round k.0 t gen.0))) [] gen.1 (λ t. tt)))

pub key_info_is : (last bytes : List ℕ) → rest_at key_info_form last bytes ≡ on (λ k. call_form (KeyInfo k)) (argument_at key bytes)
unfolding rest_at
key_info_is last bytes = needs_is key (λ k. call_form (KeyInfo k)) last bytes (λ k. tt)

pub cache_info_is : (last bytes : List ℕ) → rest_at (info_form CacheInfo) last bytes ≡ on (λ limited. call_form (CacheInfo limited)) (optional_at false truth bytes)
unfolding rest_at
cache_info_is last bytes = may_is false truth (λ limited. call_form (CacheInfo limited)) last bytes (λ limited. tt)

pub sma_info_is : (last bytes : List ℕ) → rest_at (info_form SmaInfo) last bytes ≡ on (λ limited. call_form (SmaInfo limited)) (optional_at false truth bytes)
unfolding rest_at
sma_info_is last bytes = may_is false truth (λ limited. call_form (SmaInfo limited)) last bytes (λ limited. tt)

-- ---- iterators

pub walk_is : (last bytes : List ℕ) → rest_at walk_form last bytes
    ≡ (argument_at search_for bytes >>= λ s. optional_at all_fields fields s.1 >>= λ f. optional_at usual_size chunk_size f.1 >>= λ n. on (λ l. call_form (Walk s.0 f.0 n.0 l)) (optional_at Active which_list n.1))
unfolding rest_at
walk_is last bytes =
    needs_is search_for (λ s. may all_fields fields (λ f. may usual_size chunk_size (λ n. may Active which_list (λ l. call_form (Walk s f n l))))) last bytes (λ s. tt)
    ∙ then_is (argument_at search_for bytes) _ _ (λ s. may_is all_fields fields (λ f. may usual_size chunk_size (λ n. may Active which_list (λ l. call_form (Walk s.0 f n l)))) [] s.1 (λ f. tt)
    ∙ then_is (optional_at all_fields fields s.1) _ _ (λ f. may_is usual_size chunk_size (λ n. may Active which_list (λ l. call_form (Walk s.0 f.0 n l))) [] f.1 (λ n. tt)
    ∙ then_is (optional_at usual_size chunk_size f.1) _ _ (λ n. may_is Active which_list (λ l. call_form (Walk s.0 f.0 n.0 l)) [] n.1 (λ l. tt))))

pub walk_delete_is : (last bytes : List ℕ) → rest_at walk_delete_form last bytes
    ≡ (argument_at search_for bytes >>= λ s. on (λ n. call_form (WalkDelete s.0 n)) (optional_at usual_size chunk_size s.1))
unfolding rest_at
walk_delete_is last bytes =
    needs_is search_for (λ s. may usual_size chunk_size (λ n. call_form (WalkDelete s n))) last bytes (λ s. tt)
    ∙ then_is (argument_at search_for bytes) _ _ (λ s. may_is usual_size chunk_size (λ n. call_form (WalkDelete s.0 n)) [] s.1 (λ n. tt))

pub totals_is : (last bytes : List ℕ) → rest_at totals_form last bytes
    ≡ (argument_at search_for bytes >>= λ s. on (λ l. call_form (Totals s.0 l)) (optional_at Active which_list s.1))
unfolding rest_at
totals_is last bytes =
    needs_is search_for (λ s. may Active which_list (λ l. call_form (Totals s l))) last bytes (λ s. tt)
    ∙ then_is (argument_at search_for bytes) _ _ (λ s. may_is Active which_list (λ l. call_form (Totals s.0 l)) [] s.1 (λ l. tt))

-- ---- stores

pub stored_at : (exclusive : Bool) (last bytes : List ℕ) (s : Stored) (rest : List ℕ) → argument_at stored bytes ≡ Ok (s, rest) → rest_at (needs stored (store_by exclusive)) last bytes ≡ rest_at (store_by exclusive s) [] rest
stored_at exclusive last bytes s rest read = stored_is exclusive last bytes ∙ ap (λ (r : Result (Stored × List ℕ) Fault). r >>= λ x. rest_at (store_by exclusive x.0) [] x.1) read

pub stored_fails : (exclusive : Bool) (last bytes : List ℕ) (e : Stop) → Stops e (argument_at stored bytes) → Stops e (rest_at (needs stored (store_by exclusive)) last bytes)
stored_fails exclusive last bytes stops.Memory stop = tt
stored_fails exclusive last bytes (stops.Fault f) stop = stored_is exclusive last bytes ∙ ap (λ (r : Result (Stored × List ℕ) Fault). r >>= λ x. rest_at (store_by exclusive x.0) [] x.1) stop

-- the same reading gives the same
pub moved : {X Y : Type 0} (view : X → Y) (r : Result X Stop) (a b : Result Y Fault) → a ≡ b → GivesItem view r b → GivesItem view r a
moved view r a b e h = subst (λ c. GivesItem view r c) (sym e) h

-- a call that counts was read, with its step
pub count_goes : {X : Type 0} (view : X → Effect × List ℕ) (r : Result X Stop) (k : List ℕ) (n m : ℤ) (t : ℕ) (rest : List ℕ) (whole : Result (Effect × List ℕ) Fault)
    → whole ≡ rest_at (call_form (Inc k n t)) [] rest → GivesItem view r (rest_at (call_form (Inc k m t)) [] rest) → m ≡ n → GivesItem view r whole
count_goes view r k n m t rest whole is h same = moved view r whole (rest_at (call_form (Inc k m t)) [] rest) (is ∙ ap (λ (x : ℤ). rest_at (call_form (Inc k x t)) [] rest) (sym same)) h

-- ---- the first line

first_reads : (begun : ℕ) (line : List ℕ) → begun ≡ 0 → line_at begun line ≡ fail reasons.Line line
unfolding rest_at
first_reads begun line none = ap (λ (n : ℕ). rest_at (form_after n (line_word line)) line (behind_word line)) none

-- the fault that begins with these bytes, whatever is to be read
pub fault_is : (A B : Type 0) (e : Stop) (reason : Reason) (bytes : List ℕ) → Stops {Y = A} e (fail reason bytes) → Stops {Y = B} e (fail reason bytes)
fault_is A B stops.Memory reason bytes stop = tt
fault_is A B (stops.Fault f) reason bytes stop = cc

pub first_refused : (e : Stop) (begun : ℕ) (line : List ℕ) → begun ≡ 0 → Stops {Y = ℕ} e (fail reasons.Line line) → Stops e (line_at begun line)
first_refused e begun line none stop =
    subst (λ (r : Result (Effect × List ℕ) Fault). Stops e r) (sym (first_reads begun line none)) (fault_is ℕ (Effect × List ℕ) e reasons.Line line stop)
