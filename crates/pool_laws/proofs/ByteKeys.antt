-- What calls ask names keys of bytes, where the calls do.
use Rattle.std.proofs.Common.{◌≡◌, ℕ, ℤ, Bool, true, false, if◌then◌else◌, List, [], ◌∷◌, map, refl, subst, arith}
use Rattle.std.specs.Prelude.{pos, int_lt, nat_abs, nat_le, nat_lt}
use Rattle.std.specs.List.{list_all, AllByRecursion}
use Rattle.std.proofs.lemmas.Bool.{and_from, le-leb}
use Rattle.php_graph.specs.declared.kind.Kind.{Kind}
use Rattle.apcu_model.specs.declared.conf.Conf.{Conf}
use Rattle.apcu_model.specs.declared.request.Reply.{Reply}
use Rattle.apcu_model.specs.declared.request.Request.{Request}
use Rattle.apcu_model.specs.declared.request.Request.TheVariants as asks
use Rattle.apcu_model.specs.declared.searching.List.TheVariants.{Active, Deleted}
use Rattle.simple_pool.specs.declared.call.PoolAsk.{PoolAsk}
use Rattle.simple_pool.specs.declared.call.PoolAsk.TheVariants as pools
use Rattle.simple_pool.specs.Names.{is_good_name, pool_key, braced}
use Rattle.simple_pool.specs.Requests.{pool_asking, store_of, set_of}
use Rattle.script_read.specs.declared.call.Call.{Call}
use Rattle.script_read.specs.declared.call.Call.TheVariants as calls
use Rattle.script_read.specs.Calls.{HasRanges}
use Rattle.script_read.specs.Play.{Asking, Each, Steps, Asks, Leaves, asking_in, asking_of, asks_each, asks_steps, asks_so, slot_after, next_of}
use Rattle.script_read.specs.Ranges.{keys_in_pairs, keys_asked, keys_called}
use Rattle.script_read.specs.Ties.{AreSomeBytes}
use Rattle.pool_laws.specs.Pools.{named_keys, are_bytes}
use Rattle.pool_laws.proofs.BracedNames.{small_braced}
use Rattle.pool_laws.proofs.CallEvents.{small_are_bytes, bytes-append}

-- ---- keys

abbrev pub NamesBytes : Request → Type 0
NamesBytes request = list_all are_bytes (named_keys request) ≡ true

some_bytes : (key : List ℕ) → AreSomeBytes key → are_bytes key ≡ true
some_bytes [] fits = refl
some_bytes (b ∷ key) fits = let small = fits.0 in and_from (nat_le b 255) (are_bytes key) (le-leb b 255 (omega (arith, small))) (some_bytes key fits.1)

all_bytes : (keys : List (List ℕ)) → AllByRecursion AreSomeBytes keys → list_all are_bytes keys ≡ true
all_bytes [] fits = refl
all_bytes (key ∷ keys) fits = and_from (are_bytes key) (list_all are_bytes keys) (some_bytes key fits.0) (all_bytes keys fits.1)

-- the key of the cache
cache_key : (name key : List ℕ) → is_good_name name ≡ true → AreSomeBytes key → list_all are_bytes (pool_key name key ∷ []) ≡ true
cache_key name key good fits =
    and_from (are_bytes (pool_key name key)) true
    (bytes-append (braced name) key (small_are_bytes (braced name) (small_braced name good)) (some_bytes key fits)) refl

-- ---- what a call asks

-- all that is asked so names keys of bytes
abbrev AskBytes : Asking → Type 0
AskBytes (Each asked) = AllByRecursion NamesBytes asked
AskBytes (Steps ask) = (from : ℕ) → NamesBytes (ask from)

each_key : (make : List ℕ → Request) (keys : List (List ℕ)) → ((key : List ℕ) → AreSomeBytes key → NamesBytes (make key)) → AllByRecursion AreSomeBytes keys → AllByRecursion NamesBytes (map make keys)
each_key make [] named fits = tt
each_key make (key ∷ keys) named fits = (named key fits.0, each_key make keys named fits.1)

abbrev Pair : Type 0
Pair = List ℕ × List Kind

each_pair : (make : Pair → Request) (pairs : List Pair) → ((pair : Pair) → AreSomeBytes pair.0 → NamesBytes (make pair)) → AllByRecursion AreSomeBytes (keys_in_pairs pairs) → AllByRecursion NamesBytes (map make pairs)
each_pair make [] named fits = tt
each_pair make (pair ∷ pairs) named fits = (named pair fits.0, each_pair make pairs named fits.1)

set_bytes : (pool : List ℕ) (pair : Pair) (ttl : ℤ) → is_good_name pool ≡ true → AreSomeBytes pair.0 → NamesBytes (set_of pool pair ttl)
set_bytes pool pair ttl good fits = by_test (int_lt (pos 0) ttl)
  where
    by_test : (b : Bool) → NamesBytes (if b then store_of pool pair (nat_abs ttl) else asks.Delete (pool_key pool pair.0))
    by_test true = cache_key pool pair.0 good fits
    by_test false = cache_key pool pair.0 good fits

pool_bytes : (pool : List ℕ) (ask : PoolAsk) → is_good_name pool ≡ true → AllByRecursion AreSomeBytes (keys_asked ask) → AskBytes (asking_in (pool_asking pool ask))
pool_bytes pool (pools.Get key default) good fits = (cache_key pool key good fits.0, tt)
pool_bytes pool (pools.Set key value ttl) good fits = (set_bytes pool (key, value) ttl good fits.0, tt)
pool_bytes pool (pools.SetPlain key value) good fits = (cache_key pool key good fits.0, tt)
pool_bytes pool (pools.Delete key) good fits = (cache_key pool key good fits.0, tt)
pool_bytes pool pools.Clear good fits = λ from. refl
pool_bytes pool (pools.GetMany keys default) good fits = each_key (λ key. asks.Fetch (pool_key pool key)) keys (λ key small. cache_key pool key good small) fits
pool_bytes pool (pools.SetMany pairs ttl) good fits = each_pair (λ pair. set_of pool pair ttl) pairs (λ pair small. set_bytes pool pair ttl good small) fits
pool_bytes pool (pools.SetManyPlain pairs) good fits = each_pair (λ pair. store_of pool pair 0) pairs (λ pair small. cache_key pool pair.0 good small) fits
pool_bytes pool (pools.DeleteMany keys) good fits = each_key (λ key. asks.Delete (pool_key pool key)) keys (λ key small. cache_key pool key good small) fits
pool_bytes pool (pools.Has key) good fits = (cache_key pool key good fits.0, tt)

one_key : (key : List ℕ) → AreSomeBytes key → list_all are_bytes (key ∷ []) ≡ true
one_key key fits = all_bytes (key ∷ []) (fits, tt)

asked_bytes : (call : Call) → HasRanges call → AllByRecursion AreSomeBytes (keys_called call) → AskBytes (asking_of call)
asked_bytes (calls.StoreOne key value ttl exclusive) ranges fits = (all_bytes (key ∷ []) fits, tt)
asked_bytes (calls.StoreMany pairs ttl exclusive) ranges fits = each_pair (λ pair. asks.Store pair.0 pair.1 ttl exclusive) pairs (λ pair small. one_key pair.0 small) fits
asked_bytes (calls.FetchOne key) ranges fits = (all_bytes (key ∷ []) fits, tt)
asked_bytes (calls.FetchMany keys) ranges fits = each_key asks.Fetch keys one_key fits
asked_bytes (calls.ExistsOne key) ranges fits = (all_bytes (key ∷ []) fits, tt)
asked_bytes (calls.ExistsMany keys) ranges fits = each_key asks.Exists keys one_key fits
asked_bytes (calls.DeleteOne key) ranges fits = (all_bytes (key ∷ []) fits, tt)
asked_bytes (calls.DeleteMany keys) ranges fits = each_key asks.Delete keys one_key fits
asked_bytes (calls.Inc key step ttl) ranges fits = (all_bytes (key ∷ []) fits, tt)
asked_bytes (calls.Cas key expect set) ranges fits = (all_bytes (key ∷ []) fits, tt)
asked_bytes (calls.Entry gen) ranges fits = (all_bytes (keys_called (calls.Entry gen)) fits, tt)
asked_bytes calls.Clear ranges fits = (refl, tt)
asked_bytes calls.Enabled ranges fits = tt
asked_bytes (calls.KeyInfo key) ranges fits = (all_bytes (key ∷ []) fits, tt)
asked_bytes (calls.CacheInfo limited) ranges fits = (refl, tt)
asked_bytes (calls.SmaInfo limited) ranges fits = (refl, tt)
asked_bytes (calls.Walk wanted fields size Active) ranges fits = λ from. refl
asked_bytes (calls.Walk wanted fields size Deleted) ranges fits = (refl, tt)
asked_bytes (calls.WalkDelete wanted size) ranges fits = λ from. refl
asked_bytes (calls.Totals wanted list) ranges fits = (refl, tt)
asked_bytes (calls.Pool call) ranges fits = pool_bytes call.pool call.ask ranges.named fits

-- ---- one of its requests

from_each : (asked : List Request) (replies : List Reply) (request : Request) → AllByRecursion NamesBytes asked → asks_each asked replies ≡ Asks request → NamesBytes request
from_each [] replies request fits e = absurd (cc e)
from_each (first ∷ more) [] request fits e = let same : first ≡ request = cc e in subst NamesBytes same fits.0
from_each (first ∷ more) (reply ∷ replies) request fits e = from_each more replies request fits.1 e

from_steps : (slots : ℕ) (ask : ℕ → Request) (from : ℕ) (replies : List Reply) (request : Request) → ((from : ℕ) → NamesBytes (ask from)) → asks_steps slots ask from replies ≡ Asks request → NamesBytes request
from_steps slots ask from [] request fits e = go (nat_lt from slots) e
  where
    go : (b : Bool) → (if b then Asks (ask from) else Leaves []) ≡ Asks request → NamesBytes request
    go true e = let same : ask from ≡ request = cc e in subst NamesBytes same (fits from)
    go false e = absurd (cc e)
from_steps slots ask from (reply ∷ replies) request fits e = go (nat_lt from slots) (from_steps slots ask (slot_after slots from reply) replies request fits) e
  where
    go : (b : Bool) → (asks_steps slots ask (slot_after slots from reply) replies ≡ Asks request → NamesBytes request)
        → (if b then asks_steps slots ask (slot_after slots from reply) replies else Leaves (reply ∷ replies)) ≡ Asks request → NamesBytes request
    go true later e = later e
    go false later e = absurd (cc e)

from_asking : (slots : ℕ) (asking : Asking) (replies : List Reply) (request : Request) → AskBytes asking → asks_so slots asking replies ≡ Asks request → NamesBytes request
from_asking slots (Each asked) replies request fits e = from_each asked replies request fits e
from_asking slots (Steps ask) replies request fits e = from_steps slots ask 0 replies request fits e

pub call_bytes : (conf : Conf) (call : Call) (replies : List Reply) (request : Request) → HasRanges call → AllByRecursion AreSomeBytes (keys_called call) → next_of conf call replies ≡ Asks request → NamesBytes request
call_bytes conf call replies request ranges fits e = from_asking conf.slots (asking_of call) replies request (asked_bytes call ranges fits) e
