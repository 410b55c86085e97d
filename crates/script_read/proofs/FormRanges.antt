-- What the forms of words come to is in range, and its keys are strings of bytes.
use Rattle.std.proofs.Common.{◌≡◌, ℕ, Bool, true, List, [], ◌∷◌, Option, Some, None, ℤ, pos, refl, subst, arith}
use Rattle.std.specs.Option.{option_map}
use Rattle.php_graph.specs.declared.kind.Kind.{Kind}
use Rattle.php_graph.specs.Graph.{IsGraph}
use Rattle.apcu_model.specs.Levels.{Generator}
use Rattle.apcu_model.specs.declared.searching.List.TheVariants.{Active}
use Rattle.simple_pool.specs.declared.call.PoolAsk.{PoolAsk}
use Rattle.simple_pool.specs.declared.call.PoolAsk.TheVariants as pools
use Rattle.simple_pool.specs.Names.{is_good_name, is_good_key}
use Rattle.simple_pool.specs.Requests.{is_good_ask, is_good_ttl, are_good_keys, are_good_pairs}
use Rattle.script_read.specs.declared.call.Call.{Call}
use Rattle.script_read.specs.declared.call.Call.TheVariants.{StoreOne, StoreMany, Inc, Cas, Entry, KeyInfo, Walk, WalkDelete, Totals}
use Rattle.script_read.specs.declared.choices.Asked.{Asked}
use Rattle.script_read.specs.declared.choices.Asked.TheVariants as asked_kinds
use Rattle.script_read.specs.declared.choices.Stored.{Stored}
use Rattle.script_read.specs.declared.choices.Stored.TheVariants as stored_kinds
use Rattle.script_read.specs.declared.effect.Effect.{Effect}
use Rattle.script_read.specs.declared.effect.Effect.TheVariants.{Sets, Begins, Calls}
use Rattle.script_read.specs.Arguments.{any_value, ttl_in, search_for, fields, all_fields, which_list, null_value, key, integer, chunk_size, keys, pairs, asked_of, stored, null, pool_name, own_key, own_keys, own_pairs, own_ttl}
use Rattle.script_read.specs.Calls.{HasRanges}
use Rattle.script_read.specs.GenParts.{entry_round}
use Rattle.script_read.specs.Grammar.{Argument, Plain, Making, AreArguments, gen_meant, inner_levels, effect_by}
use Rattle.script_read.specs.Ranges.{keys_in_pairs, keys_asked, keys_called}
use Rattle.script_read.specs.Table.{Form, Done, Need, May, Make, Refuse, or_refuse, taken, needs, may, call_form, step_by, pool_call, store_by, fetch_of, exists_of, delete_of, count_form, cas_form, entry_form, key_info_form, usual_size, walk_form, walk_delete_form, totals_form, set_ask, set_many_ask, pool_get_form, pool_set_form, pool_delete_form, pool_clear_form, pool_get_multiple_form, pool_set_multiple_form, pool_delete_multiple_form, pool_has_form}
use Rattle.script_read.proofs.ResultBinds.{some_is, then_some}
use Rattle.script_read.proofs.ArgumentRanges.{AreKeys, key_fits, keys_fit, Pair, pairs_fit, keys_of_asked, asked_fits, keys_of_stored, stored_fits, size_fits, kept_is, both, ttl_fits, FitsGen, gen_fits}

-- ---- forms

-- a line's call is in range, and its keys are bytes
abbrev pub FitsEffect : Effect → Type 0
FitsEffect (Sets t) = Unit {0}
FitsEffect (Begins t) = Unit {0}
FitsEffect (Calls call) = HasRanges call × AreKeys (keys_called call)

-- so is every one that the form comes to
abbrev pub FitsForm : Form → Type 0
FitsForm (Done e) = FitsEffect e
FitsForm (Need next) = (g : List Kind) → IsGraph g → FitsForm (next g)
FitsForm (May short next) = FitsForm short × ((g : List Kind) → IsGraph g → FitsForm (next g))
FitsForm (Make next) = (gen : Generator) → FitsGen inner_levels gen → FitsForm (next gen)
FitsForm (Refuse reason) = Unit {0}

pub effect_fits : (form : Form) (arguments : List Argument) (e : Effect) → FitsForm form → AreArguments arguments → effect_by form arguments ≡ Some e → FitsEffect e
effect_fits (Done x) [] e fit are means = subst FitsEffect (some_is x e means) fit
effect_fits (Done x) (a ∷ more) e fit are means = absurd cc
effect_fits (Need next) [] e fit are means = absurd cc
effect_fits (Need next) (Making written ∷ more) e fit are means = absurd cc
effect_fits (Need next) (Plain g ∷ more) e fit are means = effect_fits (next g) more e (fit g are.0) are.1 means
effect_fits (May short next) [] e fit are means = effect_fits short [] e fit.0 are means
effect_fits (May short next) (Making written ∷ more) e fit are means = absurd cc
effect_fits (May short next) (Plain g ∷ more) e fit are means = effect_fits (next g) more e (fit.1 g are.0) are.1 means
effect_fits (Make next) [] e fit are means = absurd cc
effect_fits (Make next) (Plain g ∷ more) e fit are means = absurd cc
effect_fits (Make next) (Making written ∷ more) e fit are means =
    let made = then_some (λ gen. effect_by (next gen) more) (gen_meant inner_levels written) e means in
    effect_fits (next made.0) more e (fit made.0 (gen_fits inner_levels written made.0 are.0 made.1)) are.1 made.2
effect_fits (Refuse reason) arguments e fit are means = absurd cc

taken_fits : {A : Type 0} (choose : List Kind → Option A) (next : A → Form) (g : List Kind) → ((x : A) → choose g ≡ Some x → FitsForm (next x)) → FitsForm (taken choose next g)
taken_fits {A = A} choose next g fit = by_choice (choose g) refl
  where
    by_choice : (o : Option A) → choose g ≡ o → FitsForm (or_refuse (option_map next o))
    by_choice None is = tt
    by_choice (Some x) is = fit x is

needs_fit : {A : Type 0} (choose : List Kind → Option A) (next : A → Form) → ((g : List Kind) (x : A) → IsGraph g → choose g ≡ Some x → FitsForm (next x)) → FitsForm (needs choose next)
needs_fit choose next fit = λ g graph. taken_fits choose next g (λ x is. fit g x graph is)

may_fit : {A : Type 0} (default : A) (choose : List Kind → Option A) (next : A → Form) → FitsForm (next default) → ((g : List Kind) (x : A) → IsGraph g → choose g ≡ Some x → FitsForm (next x)) → FitsForm (may default choose next)
may_fit default choose next first fit = (first, λ g graph. taken_fits choose next g (λ x is. fit g x graph is))

-- whatever the argument is
pub may_any : {A : Type 0} (default : A) (choose : List Kind → Option A) (next : A → Form) → ((x : A) → FitsForm (next x)) → FitsForm (may default choose next)
may_any default choose next fit = may_fit default choose next (fit default) (λ g x graph is. fit x)

pub needs_any : {A : Type 0} (choose : List Kind → Option A) (next : A → Form) → ((x : A) → FitsForm (next x)) → FitsForm (needs choose next)
needs_any choose next fit = needs_fit choose next (λ g x graph is. fit x)

-- ---- words

pub stored_rows : (exclusive : Bool) → FitsForm (needs stored (store_by exclusive))
stored_rows exclusive = needs_fit stored (store_by exclusive) (λ g s graph is. by_kind s (stored_fits g s graph is))
  where
    by_kind : (s : Stored) → AreKeys (keys_of_stored s) → FitsForm (store_by exclusive s)
    by_kind (stored_kinds.One k) fit = needs_any any_value (λ v. may 0 ttl_in (λ t. call_form (StoreOne k v t exclusive))) (λ v. may_any 0 ttl_in (λ t. call_form (StoreOne k v t exclusive)) (λ t. (tt, fit)))
    by_kind (stored_kinds.Many ps) fit = may_any tt null (λ n. may 0 ttl_in (λ t. call_form (StoreMany ps t exclusive))) (λ n. may_any 0 ttl_in (λ t. call_form (StoreMany ps t exclusive)) (λ t. (tt, fit)))

pub asked_rows : (call : Asked → Call) → ((a : Asked) → AreKeys (keys_of_asked a) → FitsEffect (Calls (call a))) → FitsForm (needs asked_of (λ a. call_form (call a)))
asked_rows call fits = needs_fit asked_of (λ a. call_form (call a)) (λ g a graph is. fits a (asked_fits g a graph is))

pub fetch_row : (a : Asked) → AreKeys (keys_of_asked a) → FitsEffect (Calls (fetch_of a))
fetch_row (asked_kinds.One k) fit = (tt, fit)
fetch_row (asked_kinds.Many ks) fit = (tt, fit)

pub exists_row : (a : Asked) → AreKeys (keys_of_asked a) → FitsEffect (Calls (exists_of a))
exists_row (asked_kinds.One k) fit = (tt, fit)
exists_row (asked_kinds.Many ks) fit = (tt, fit)

pub delete_row : (a : Asked) → AreKeys (keys_of_asked a) → FitsEffect (Calls (delete_of a))
delete_row (asked_kinds.One k) fit = (tt, fit)
delete_row (asked_kinds.Many ks) fit = (tt, fit)

pub count_row : (down : Bool) → FitsForm (count_form down)
count_row down =
    needs_fit key (λ k. may (pos 1) integer (λ n. may 0 ttl_in (λ t. call_form (Inc k (step_by down n) t)))) (λ g k graph is.
    may_any (pos 1) integer (λ n. may 0 ttl_in (λ t. call_form (Inc k (step_by down n) t))) (λ n.
    may_any 0 ttl_in (λ t. call_form (Inc k (step_by down n) t)) (λ t. (tt, (key_fits g k graph is, tt)))))

pub cas_row : FitsForm cas_form
cas_row =
    needs_fit key (λ k. needs integer (λ expect. needs integer (λ set. call_form (Cas k expect set)))) (λ g k graph is.
    needs_any integer (λ expect. needs integer (λ set. call_form (Cas k expect set))) (λ expect.
    needs_any integer (λ set. call_form (Cas k expect set)) (λ set. (tt, (key_fits g k graph is, tt)))))

pub entry_row : FitsForm entry_form
entry_row =
    needs_fit key (λ k. Make (λ gen. may 0 ttl_in (λ t. call_form (Entry (entry_round k t gen))))) (λ g k graph is. λ gen fit.
    may_any 0 ttl_in (λ t. call_form (Entry (entry_round k t gen))) (λ t. ((omega arith, omega (arith, fit.few)), (key_fits g k graph is, fit.keys))))

pub key_info_row : FitsForm key_info_form
key_info_row = needs_fit key (λ k. call_form (KeyInfo k)) (λ g k graph is. (tt, (key_fits g k graph is, tt)))

pub walk_row : FitsForm walk_form
walk_row =
    needs_any search_for (λ s. may all_fields fields (λ f. may usual_size chunk_size (λ n. may Active which_list (λ l. call_form (Walk s f n l))))) (λ s.
    may_any all_fields fields (λ f. may usual_size chunk_size (λ n. may Active which_list (λ l. call_form (Walk s f n l)))) (λ f.
    may_fit usual_size chunk_size (λ n. may Active which_list (λ l. call_form (Walk s f n l)))
    (may_any Active which_list (λ l. call_form (Walk s f usual_size l)) (λ l. ((omega arith, omega arith), tt)))
    (λ g n graph is. may_any Active which_list (λ l. call_form (Walk s f n l)) (λ l. (size_fits g n is, tt)))))

pub walk_delete_row : FitsForm walk_delete_form
walk_delete_row =
    needs_any search_for (λ s. may usual_size chunk_size (λ n. call_form (WalkDelete s n))) (λ s.
    may_fit usual_size chunk_size (λ n. call_form (WalkDelete s n)) ((omega arith, omega arith), tt) (λ g n graph is. (size_fits g n is, tt)))

pub totals_row : FitsForm totals_form
totals_row = needs_any search_for (λ s. may Active which_list (λ l. call_form (Totals s l))) (λ s. may_any Active which_list (λ l. call_form (Totals s l)) (λ l. (tt, tt)))

-- ---- words of pools

-- a good call, with keys of bytes
pool_fits : (p : List ℕ) (ask : PoolAsk) → is_good_name p ≡ true → is_good_ask ask ≡ true → AreKeys (keys_asked ask) → FitsForm (pool_call p ask)
pool_fits p ask named well fit = (record { named = named; asks_well = well }, fit)

-- the pool's name comes first
named_fits : (next : List ℕ → Form) → ((p : List ℕ) → is_good_name p ≡ true → FitsForm (next p)) → FitsForm (needs pool_name next)
named_fits next fit = needs_fit pool_name next (λ g p graph is. fit p (kept_is is_good_name (key g) p is).0)

own_key_fits : (next : List ℕ → Form) → ((k : List ℕ) → is_good_key k ≡ true → AreKeys (k ∷ []) → FitsForm (next k)) → FitsForm (needs own_key next)
own_key_fits next fit = needs_fit own_key next (λ g k graph is. let kept = kept_is is_good_key (key g) k is in fit k kept.0 (key_fits g k graph kept.1, tt))

own_keys_fit : (next : List (List ℕ) → Form) → ((ks : List (List ℕ)) → are_good_keys ks ≡ true → AreKeys ks → FitsForm (next ks)) → FitsForm (needs own_keys next)
own_keys_fit next fit = needs_fit own_keys next (λ g ks graph is. let kept = kept_is are_good_keys (keys g) ks is in fit ks kept.0 (keys_fit g ks graph kept.1))

own_pairs_fit : (next : List Pair → Form) → ((ps : List Pair) → are_good_pairs ps ≡ true → AreKeys (keys_in_pairs ps) → FitsForm (next ps)) → FitsForm (needs own_pairs next)
own_pairs_fit next fit = needs_fit own_pairs next (λ g ps graph is. let kept = kept_is are_good_pairs (pairs g) ps is in fit ps kept.0 (pairs_fit g ps graph kept.1))

abbrev IsGoodTtl : Option ℤ → Type 0
IsGoodTtl t = (n : ℤ) → t ≡ Some n → is_good_ttl n ≡ true

own_ttl_fits : (next : Option ℤ → Form) → ((t : Option ℤ) → IsGoodTtl t → FitsForm (next t)) → FitsForm (may None own_ttl next)
own_ttl_fits next fit = may_fit None own_ttl next (fit None (λ n some. absurd cc)) (λ g t graph is. fit t (ttl_fits g t is))

pub get_row : FitsForm pool_get_form
get_row =
    named_fits (λ p. needs own_key (λ k. may null_value any_value (λ d. pool_call p (pools.Get k d)))) (λ p named.
    own_key_fits (λ k. may null_value any_value (λ d. pool_call p (pools.Get k d))) (λ k good fit.
    may_any null_value any_value (λ d. pool_call p (pools.Get k d)) (λ d. pool_fits p (pools.Get k d) named good fit)))

set_fits : (p k : List ℕ) (v : List Kind) (t : Option ℤ) → is_good_name p ≡ true → is_good_key k ≡ true → AreKeys (k ∷ []) → IsGoodTtl t → FitsForm (pool_call p (set_ask k v t))
set_fits p k v None named good fit right = pool_fits p (pools.SetPlain k v) named good fit
set_fits p k v (Some n) named good fit right = pool_fits p (pools.Set k v n) named (both (is_good_key k) (is_good_ttl n) good (right n refl)) fit

pub set_row : FitsForm pool_set_form
set_row =
    named_fits (λ p. needs own_key (λ k. needs any_value (λ v. may None own_ttl (λ t. pool_call p (set_ask k v t))))) (λ p named.
    own_key_fits (λ k. needs any_value (λ v. may None own_ttl (λ t. pool_call p (set_ask k v t)))) (λ k good fit.
    needs_any any_value (λ v. may None own_ttl (λ t. pool_call p (set_ask k v t))) (λ v.
    own_ttl_fits (λ t. pool_call p (set_ask k v t)) (λ t right. set_fits p k v t named good fit right))))

pub pool_delete_row : FitsForm pool_delete_form
pool_delete_row =
    named_fits (λ p. needs own_key (λ k. pool_call p (pools.Delete k))) (λ p named.
    own_key_fits (λ k. pool_call p (pools.Delete k)) (λ k good fit. pool_fits p (pools.Delete k) named good fit))

pub clear_row : FitsForm pool_clear_form
clear_row = named_fits (λ p. pool_call p pools.Clear) (λ p named. pool_fits p pools.Clear named refl tt)

pub get_many_row : FitsForm pool_get_multiple_form
get_many_row =
    named_fits (λ p. needs own_keys (λ ks. may null_value any_value (λ d. pool_call p (pools.GetMany ks d)))) (λ p named.
    own_keys_fit (λ ks. may null_value any_value (λ d. pool_call p (pools.GetMany ks d))) (λ ks good fit.
    may_any null_value any_value (λ d. pool_call p (pools.GetMany ks d)) (λ d. pool_fits p (pools.GetMany ks d) named good fit)))

set_many_fits : (p : List ℕ) (ps : List Pair) (t : Option ℤ) → is_good_name p ≡ true → are_good_pairs ps ≡ true → AreKeys (keys_in_pairs ps) → IsGoodTtl t → FitsForm (pool_call p (set_many_ask ps t))
set_many_fits p ps None named good fit right = pool_fits p (pools.SetManyPlain ps) named good fit
set_many_fits p ps (Some n) named good fit right = pool_fits p (pools.SetMany ps n) named (both (are_good_pairs ps) (is_good_ttl n) good (right n refl)) fit

pub set_many_row : FitsForm pool_set_multiple_form
set_many_row =
    named_fits (λ p. needs own_pairs (λ ps. may None own_ttl (λ t. pool_call p (set_many_ask ps t)))) (λ p named.
    own_pairs_fit (λ ps. may None own_ttl (λ t. pool_call p (set_many_ask ps t))) (λ ps good fit.
    own_ttl_fits (λ t. pool_call p (set_many_ask ps t)) (λ t right. set_many_fits p ps t named good fit right)))

pub delete_many_row : FitsForm pool_delete_multiple_form
delete_many_row =
    named_fits (λ p. needs own_keys (λ ks. pool_call p (pools.DeleteMany ks))) (λ p named.
    own_keys_fit (λ ks. pool_call p (pools.DeleteMany ks)) (λ ks good fit. pool_fits p (pools.DeleteMany ks) named good fit))

pub has_row : FitsForm pool_has_form
has_row =
    named_fits (λ p. needs own_key (λ k. pool_call p (pools.Has k))) (λ p named.
    own_key_fits (λ k. pool_call p (pools.Has k)) (λ k good fit. pool_fits p (pools.Has k) named good fit))
