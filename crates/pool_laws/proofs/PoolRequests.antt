-- What a pool's call asks has the pool's form.
use Rattle.std.proofs.Common.{◌≡◌, ℕ, ℤ, ◌==◌, Bool, true, false, if◌then◌else◌, List, [], ◌∷◌, map, Some, slice_get, refl, sym, ap, ◌∙◌, zero, suc}
use Rattle.std.specs.Prelude.{pos, int_lt, nat_abs}
use Rattle.std.specs.List.{list_all}
use Rattle.std.proofs.lemmas.Bool.{and_parts, and_from}
use Rattle.std.proofs.lemmas.Option.{none-some, same_Some}
use Rattle.std.proofs.lemmas.Slice.Eq.{bytes_eq-Decides}
use Rattle.php_graph.specs.declared.kind.Kind.{Kind}
use Rattle.apcu_model.specs.declared.request.Request.{Request}
use Rattle.apcu_model.specs.declared.request.Request.TheVariants as asks
use Rattle.simple_pool.specs.declared.call.PoolCall.{PoolCall}
use Rattle.simple_pool.specs.declared.call.PoolAsk.{PoolAsk}
use Rattle.simple_pool.specs.declared.call.PoolAsk.TheVariants.{Get, Set, SetPlain, Delete, Clear, GetMany, SetMany, SetManyPlain, DeleteMany, Has}
use Rattle.simple_pool.specs.Names.{is_good_key, pool_key, braced, escaped, pattern_of}
use Rattle.simple_pool.specs.Requests.{IsGoodCall, pool_step, store_of, set_of, asked_at, pool_asking, request_at, is_good_ask, is_good_ttl, are_good_pairs}
use Rattle.pool_laws.specs.Pools.{is_of_pool}
use Rattle.pool_laws.specs.PoolKeys.{is_pattern_of}
use Rattle.pool_laws.specs.Calls.{HasPoolForm}
use Rattle.pool_laws.proofs.CallEvents.{own_key}

set_own : (pool : List ℕ) (pair : List ℕ × List Kind) (ttl : ℤ) → is_good_key pair.0 ≡ true → is_of_pool pool (set_of pool pair ttl) ≡ true
set_own pool pair ttl good = go (int_lt (pos 0) ttl)
  where
    go : (b : Bool) → is_of_pool pool (if b then store_of pool pair (nat_abs ttl) else asks.Delete (pool_key pool pair.0)) ≡ true
    go true = own_key pool pair.0 good
    go false = own_key pool pair.0 good

-- one request, or one for each of some
one : (pool : List ℕ) (r request : Request) (i : ℕ) → is_of_pool pool r ≡ true → slice_get (r ∷ []) i ≡ Some request → is_of_pool pool request ≡ true
one pool r request zero own e = ap (is_of_pool pool) (sym (same_Some r request e)) ∙ own
one pool r request (suc i) own e = absurd (none-some request e)

each : {A : Type 0} (pool : List ℕ) (good : A → Bool) (make : A → Request) (xs : List A) (request : Request) (i : ℕ) → ((x : A) → good x ≡ true → is_of_pool pool (make x) ≡ true) → list_all good xs ≡ true
    → slice_get (map make xs) i ≡ Some request → is_of_pool pool request ≡ true
each pool good make [] request i own all e = absurd (none-some request e)
each pool good make (x ∷ xs) request zero own all e = ap (is_of_pool pool) (sym (same_Some (make x) request e)) ∙ own x (and_parts (good x) (list_all good xs) all).0
each pool good make (x ∷ xs) request (suc i) own all e = each pool good make xs request i own (and_parts (good x) (list_all good xs) all).1 e

of_pool : (pool : List ℕ) (ask : PoolAsk) (request : Request) (i : ℕ) → is_good_ask ask ≡ true → asked_at (pool_asking pool ask) i ≡ Some request → is_of_pool pool request ≡ true
of_pool pool (Get key default) request i good e = one pool (asks.Fetch (pool_key pool key)) request i (own_key pool key good) e
of_pool pool (Set key value ttl) request i good e = one pool (set_of pool (key, value) ttl) request i (set_own pool (key, value) ttl (and_parts (is_good_key key) (is_good_ttl ttl) good).0) e
of_pool pool (SetPlain key value) request i good e = one pool (store_of pool (key, value) 0) request i (own_key pool key good) e
of_pool pool (Delete key) request i good e = one pool (asks.Delete (pool_key pool key)) request i (own_key pool key good) e
of_pool pool Clear request i good e =
    let step : Request = asks.ChunkDelete (Some (pattern_of pool)) i pool_step in
    ap (is_of_pool pool) (sym (same_Some step request e))
    ∙ and_from (is_pattern_of pool (Some (pattern_of pool))) (pool_step == pool_step) ((bytes_eq-Decides (escaped (braced pool)) (escaped (braced pool))).1 refl) refl
of_pool pool (GetMany keys default) request i good e = each pool is_good_key (λ key. asks.Fetch (pool_key pool key)) keys request i (λ key g. own_key pool key g) good e
of_pool pool (SetMany pairs ttl) request i good e =
    each pool (λ (pair : List ℕ × List Kind). is_good_key pair.0) (λ (pair : List ℕ × List Kind). set_of pool pair ttl) pairs request i (λ pair g. set_own pool pair ttl g) (and_parts (are_good_pairs pairs) (is_good_ttl ttl) good).0 e
of_pool pool (SetManyPlain pairs) request i good e =
    each pool (λ (pair : List ℕ × List Kind). is_good_key pair.0) (λ (pair : List ℕ × List Kind). store_of pool pair 0) pairs request i (λ pair g. own_key pool pair.0 g) good e
of_pool pool (DeleteMany keys) request i good e = each pool is_good_key (λ key. asks.Delete (pool_key pool key)) keys request i (λ key g. own_key pool key g) good e
of_pool pool (Has key) request i good e = one pool (asks.Exists (pool_key pool key)) request i (own_key pool key good) e

pub tied : (call : PoolCall) (i : ℕ) (request : Request) → IsGoodCall call → request_at call i ≡ Some request → HasPoolForm (Some call.pool) request
tied call i request good e = (good.named, of_pool call.pool call.ask request i good.asks_well e)
