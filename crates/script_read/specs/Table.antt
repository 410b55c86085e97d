-- The words of lines, and the arguments that each takes.
use Rattle.std.specs.Prelude.{ℕ, Bool, true, false, List, [], ◌∷◌, codes, Option, Some, None}
use Rattle.std.specs.Prelude.{if◌then◌else◌, ℤ, pos}
use Rattle.std.specs.Int.{w64, int_wrapping_neg}
use Rattle.std.specs.Option.{option_map}
use Rattle.std.specs.Str.{bytes_eq}
use Rattle.php_graph.specs.declared.kind.Kind.{Kind}
use Rattle.apcu_model.specs.Levels.{Generator}
use Rattle.apcu_model.specs.declared.searching.List.TheVariants.{Active}
use Rattle.notation.specs.declared.fault.Reason.{Reason}
use Rattle.notation.specs.declared.fault.Reason.TheVariants.{Argument, Line}
use Rattle.script_read.specs.declared.call.Call.{Call}
use Rattle.script_read.specs.declared.call.Call.TheVariants.{StoreOne, StoreMany, FetchOne}
use Rattle.script_read.specs.declared.call.Call.TheVariants.{FetchMany, ExistsOne, ExistsMany}
use Rattle.script_read.specs.declared.call.Call.TheVariants.{DeleteOne, DeleteMany, Inc, Cas, Clear}
use Rattle.script_read.specs.declared.call.Call.TheVariants.{Enabled, Entry, KeyInfo, CacheInfo}
use Rattle.script_read.specs.declared.call.Call.TheVariants.{SmaInfo, Walk, WalkDelete, Totals}
use Rattle.script_read.specs.declared.call.Call.TheVariants.{Pool}
use Rattle.script_read.specs.declared.effect.Effect.{Effect}
use Rattle.script_read.specs.declared.effect.Effect.TheVariants.{Sets, Begins, Calls}
use Rattle.script_read.specs.declared.choices.Asked.{Asked}
use Rattle.script_read.specs.declared.choices.Asked.TheVariants as asks
use Rattle.script_read.specs.declared.choices.Stored.{Stored}
use Rattle.script_read.specs.declared.choices.Stored.TheVariants as stores
use Rattle.script_read.specs.Arguments.{any_value, key, integer, truth, null, ttl_in, moment}
use Rattle.script_read.specs.Arguments.{asked_of, stored, search_for, fields, all_fields}
use Rattle.script_read.specs.Arguments.{chunk_size, which_list, pool_name, own_key, own_keys}
use Rattle.script_read.specs.Arguments.{own_pairs, own_ttl, null_value}
use Rattle.simple_pool.specs.declared.call.PoolAsk.{PoolAsk}
use Rattle.simple_pool.specs.declared.call.PoolAsk.TheVariants as asks_of
use Rattle.simple_pool.specs.declared.call.PoolAsk.TheVariants.{Get, Set, SetPlain, GetMany, SetMany}
use Rattle.simple_pool.specs.declared.call.PoolAsk.TheVariants.{SetManyPlain, DeleteMany, Has}
use Rattle.script_read.specs.GenParts.{entry_round}

-- ---- forms

-- What may follow in a line.
pub data Form : Type 0 where
  -- its end
  Done : Effect → Form
  -- a value, which decides how the line continues
  Need : (List Kind → Form) → Form
  -- the same, or the end: then it continues as if nothing more could come
  May : Form → (List Kind → Form) → Form
  -- a generator
  Make : (Generator → Form) → Form
  -- nothing: the last argument is refused for the reason
  Refuse : Reason → Form

abbrev pub or_refuse : Option Form → Form
or_refuse (Some form) = form
or_refuse None = Refuse Argument

-- the value, as this takes it, decides how the line continues
abbrev pub taken : {A : Type 0} → (List Kind → Option A) → (A → Form) → List Kind → Form
taken choose next g = or_refuse (option_map next (choose g))

-- an expected argument
abbrev pub needs : {A : Type 0} → (List Kind → Option A) → (A → Form) → Form
needs choose next = Need (taken choose next)

-- an argument with this default
abbrev pub may : {A : Type 0} → A → (List Kind → Option A) → (A → Form) → Form
may default choose next = May (next default) (taken choose next)

abbrev pub call_form : Call → Form
call_form call = Done (Calls call)

-- ---- words

-- a line with a moment begins a request, or only sets the moment
abbrev pub timing : Bool → ℕ → Effect
timing false t = Sets t
timing true t = Begins t

abbrev pub moment_form : Bool → Form
moment_form begins = needs moment (λ t. Done (timing begins t))

-- a key's value, and a ttl
abbrev pub store_one : Bool → List ℕ → Form
store_one exclusive k =
    needs any_value (λ v. may 0 ttl_in (λ t. call_form (StoreOne k v t exclusive)))

-- after an array of keys with their values: a null, and a ttl
abbrev pub store_many : Bool → List (List ℕ × List Kind) → Form
store_many exclusive ps =
    may tt null (λ n. may 0 ttl_in (λ t. call_form (StoreMany ps t exclusive)))

-- the first argument decides what follows it
abbrev pub store_by : Bool → Stored → Form
store_by exclusive (stores.One k) = store_one exclusive k
store_by exclusive (stores.Many ps) = store_many exclusive ps

abbrev pub fetch_of : Asked → Call
fetch_of (asks.One k) = FetchOne k
fetch_of (asks.Many ks) = FetchMany ks

abbrev pub exists_of : Asked → Call
exists_of (asks.One k) = ExistsOne k
exists_of (asks.Many ks) = ExistsMany ks

abbrev pub delete_of : Asked → Call
delete_of (asks.One k) = DeleteOne k
delete_of (asks.Many ks) = DeleteMany ks

-- the step of a call that counts up or down: down is by the negated step, as a signed 64-bit number
abbrev pub step_by : Bool → ℤ → ℤ
step_by false n = n
step_by true n = int_wrapping_neg w64 n

-- the step, 1 if it is left out, and a ttl
abbrev pub count_form : Bool → Form
count_form down =
    needs key (λ k. may (pos 1) integer (λ n.
    may 0 ttl_in (λ t. call_form (Inc k (step_by down n) t))))

-- the integer that is expected, and the one that is set
abbrev pub cas_form : Form
cas_form =
    needs key (λ k. needs integer (λ expect. needs integer (λ set. call_form (Cas k expect set))))

-- a key, the generator of the value if no live row has it, and a ttl
abbrev pub entry_form : Form
entry_form =
    needs key (λ k. Make (λ gen. may 0 ttl_in (λ t. call_form (Entry (entry_round k t gen)))))

abbrev pub key_info_form : Form
key_info_form = needs key (λ k. call_form (KeyInfo k))

-- whether the lists are left out, by default they are not
abbrev pub info_form : (Bool → Call) → Form
info_form info = may false truth (λ limited. call_form (info limited))

-- the least number of items of a step of a walk, if it is left out
abbrev pub usual_size : ℕ
usual_size = 100

-- The keys, the fields of their rows, the least number of items of a step, and the list of rows:
-- all fields, the default number and the active rows if they are left out.
abbrev pub walk_form : Form
walk_form =
    needs search_for (λ s. may all_fields fields (λ f.
    may usual_size chunk_size (λ n. may Active which_list (λ l. call_form (Walk s f n l)))))

abbrev pub walk_delete_form : Form
walk_delete_form =
    needs search_for (λ s. may usual_size chunk_size (λ n. call_form (WalkDelete s n)))

abbrev pub totals_form : Form
totals_form = needs search_for (λ s. may Active which_list (λ l. call_form (Totals s l)))

-- ---- words of pools: the pool's name comes first

abbrev pub pool_call : List ℕ → PoolAsk → Form
pool_call p ask = call_form (Pool (record { pool = p; ask = ask }))

-- without a time to live a value is kept without limit
abbrev pub set_ask : List ℕ → List Kind → Option ℤ → PoolAsk
set_ask k v None = SetPlain k v
set_ask k v (Some n) = Set k v n

abbrev pub set_many_ask : List (List ℕ × List Kind) → Option ℤ → PoolAsk
set_many_ask ps None = SetManyPlain ps
set_many_ask ps (Some n) = SetMany ps n

-- a key, and the value if it does not exist: a null if it is left out
abbrev pub pool_get_form : Form
pool_get_form =
    needs pool_name (λ p. needs own_key (λ k.
    may null_value any_value (λ d. pool_call p (Get k d))))

-- a key, its value, and a time to live: none if it is left out
abbrev pub pool_set_form : Form
pool_set_form =
    needs pool_name (λ p. needs own_key (λ k. needs any_value (λ v.
    may None own_ttl (λ t. pool_call p (set_ask k v t)))))

abbrev pub pool_delete_form : Form
pool_delete_form = needs pool_name (λ p. needs own_key (λ k. pool_call p (asks_of.Delete k)))

abbrev pub pool_clear_form : Form
pool_clear_form = needs pool_name (λ p. pool_call p asks_of.Clear)

-- the same for several keys
abbrev pub pool_get_multiple_form : Form
pool_get_multiple_form =
    needs pool_name (λ p. needs own_keys (λ ks.
    may null_value any_value (λ d. pool_call p (GetMany ks d))))

abbrev pub pool_set_multiple_form : Form
pool_set_multiple_form =
    needs pool_name (λ p. needs own_pairs (λ ps.
    may None own_ttl (λ t. pool_call p (set_many_ask ps t))))

abbrev pub pool_delete_multiple_form : Form
pool_delete_multiple_form =
    needs pool_name (λ p. needs own_keys (λ ks. pool_call p (DeleteMany ks)))

abbrev pub pool_has_form : Form
pool_has_form = needs pool_name (λ p. needs own_key (λ k. pool_call p (Has k)))

-- the words, except `worker`
abbrev pub table : List (List ℕ × Form)
table =
    (codes "time", moment_form false)
    ∷ (codes "request", moment_form true)
    ∷ (codes "apcu_store", needs stored (store_by false))
    ∷ (codes "apcu_add", needs stored (store_by true))
    ∷ (codes "apcu_fetch", needs asked_of (λ a. call_form (fetch_of a)))
    ∷ (codes "apcu_exists", needs asked_of (λ a. call_form (exists_of a)))
    ∷ (codes "apcu_delete", needs asked_of (λ a. call_form (delete_of a)))
    ∷ (codes "apcu_inc", count_form false)
    ∷ (codes "apcu_dec", count_form true)
    ∷ (codes "apcu_cas", cas_form)
    ∷ (codes "apcu_entry", entry_form)
    ∷ (codes "apcu_clear_cache", call_form Clear)
    ∷ (codes "apcu_enabled", call_form Enabled)
    ∷ (codes "apcu_key_info", key_info_form)
    ∷ (codes "apcu_cache_info", info_form CacheInfo)
    ∷ (codes "apcu_sma_info", info_form SmaInfo)
    ∷ (codes "APCUIterator", walk_form)
    ∷ (codes "APCUIterator_delete", walk_delete_form)
    ∷ (codes "APCUIterator_totals", totals_form)
    ∷ (codes "pool_get", pool_get_form)
    ∷ (codes "pool_set", pool_set_form)
    ∷ (codes "pool_delete", pool_delete_form)
    ∷ (codes "pool_clear", pool_clear_form)
    ∷ (codes "pool_get_multiple", pool_get_multiple_form)
    ∷ (codes "pool_set_multiple", pool_set_multiple_form)
    ∷ (codes "pool_delete_multiple", pool_delete_multiple_form)
    ∷ (codes "pool_has", pool_has_form)
    ∷ []

-- what follows a word, by the first row that has it; no other word may begin a line
unfoldable pub form_in : List (List ℕ × Form) → List ℕ → Form
form_in [] word = Refuse Line
form_in (row ∷ rows) word = if bytes_eq word row.0 then row.1 else form_in rows word

abbrev pub form_of : List ℕ → Form
form_of word = form_in table word
