-- What a call on a pool asks next.
use Rattle.std.proofs.Common.{◌≡◌, ℕ, zero, suc, ◌<◌, ◌≤◌, ◌^◌, Bool, true, false, cond, List, [], ◌∷◌, length, drop, map, Option, Some, None, refl, ap, sym, subst, ◌∙◌, arith, length-append}
use Rattle.std.specs.Prelude.{not, slice_get, nat_le, nat_lt, nat_abs, int_lt, pos}
use Rattle.std.specs.List.{list_all}
use Rattle.std.proofs.lemmas.Bool.{and_parts, leb-true, ltb-true, ltb-false, lt-ltb}
use Rattle.std.proofs.Math.ListN.{drop_of_length-le}
use Rattle.php_graph.specs.declared.kind.Kind.{Kind}
use Rattle.apcu_model.specs.declared.conf.Conf.{Conf}
use Rattle.apcu_model.specs.declared.request.Request.{Request}
use Rattle.apcu_model.specs.declared.request.Request.TheVariants as requests
use Rattle.apcu_model.specs.declared.searching.Pattern.{Pattern}
use Rattle.simple_pool.specs.declared.call.PoolCall.{PoolCall}
use Rattle.simple_pool.specs.declared.call.PoolAsk.{PoolAsk}
use Rattle.simple_pool.specs.declared.call.PoolAsk.TheVariants as pools
use Rattle.simple_pool.specs.Names.{braced, is_name_byte, is_reserved, is_good_name, is_good_key, pool_key, pattern_of}
use Rattle.simple_pool.specs.Requests.{PoolAsking, Each, IsGoodCall, is_good_ask, are_good_pairs, is_good_ttl, pool_asking, pool_step, ask_pattern, asked_at, set_of, store_of}
use Rattle.script_read.specs.Play.{Asks, Leaves, asking_in, asks_each}
use Rattle.mark_play.specs.Asks.{MayBeAsked}
use Rattle.run_verify.specs.Seats.{IsNextEvent, next_from}

-- ---- the event of this number is the next

at_drop : (l : List Request) (k : ℕ) (r : Request) → slice_get l k ≡ Some r → asks_each (drop k l) [] ≡ Asks r
at_drop [] k r h = absurd (cc h)
at_drop (x ∷ xs) zero r h = let e : x ≡ r = cc h in ap Asks e
at_drop (x ∷ xs) (suc k) r h = at_drop xs k r h

first_of : (l : List Request) (k : ℕ) → k < length l → (r : Request) × (slice_get l k ≡ Some r)
first_of [] k less = absurd (omega (arith, less))
first_of (x ∷ xs) zero less = (x, refl)
first_of (x ∷ xs) (suc k) less = first_of xs k (omega (arith, less))

-- a call that asks one after the other
pub each_next : (slots : ℕ) (call : PoolCall) (k from : ℕ) (l : List Request) (count : ℕ) (found : Option ℕ) → pool_asking call.pool call.ask ≡ Each l → length l ≡ count → found ≡ cond (nat_lt k count) (Some k) None
    → IsNextEvent call (next_from slots (asking_in (pool_asking call.pool call.ask)) k from []) found
each_next slots call k from l count found is many told =
    subst (IsNextEvent call (next_from slots (asking_in (pool_asking call.pool call.ask)) k from [])) (sym told) (go (nat_lt k count) refl)
  where
    go : (b : Bool) → nat_lt k count ≡ b → IsNextEvent call (next_from slots (asking_in (pool_asking call.pool call.ask)) k from []) (cond b (Some k) None)
    go true less =
        let r = first_of l k (omega (arith, many, ltb-true k count less)) in
        (r.0, ap (λ (a : PoolAsking). asked_at a k) is ∙ r.1, ap (λ (a : PoolAsking). next_from slots (asking_in a) k from []) is ∙ at_drop l k r.0 r.1)
    go false over =
        ap (λ (a : PoolAsking). next_from slots (asking_in a) k from []) is
        ∙ ap (λ (x : List Request). asks_each x []) (drop_of_length-le l (omega (arith, many, ltb-false k count over)))

-- one that goes over the slots
pub clear_next : (slots : ℕ) (call : PoolCall) (k from : ℕ) → call.ask ≡ pools.Clear → from < slots → IsNextEvent call (next_from slots (asking_in (pool_asking call.pool call.ask)) k from []) (Some from)
clear_next slots call k from is less =
    let step : Request = requests.ChunkDelete (Some (pattern_of call.pool)) from pool_step in (
      step,
      ap (λ (ask : PoolAsk). asked_at (pool_asking call.pool ask) from) is,
      ap (λ (ask : PoolAsk). next_from slots (asking_in (pool_asking call.pool ask)) k from []) is ∙ ap (λ (b : Bool). cond b (Asks step) (Leaves [])) (lt-ltb from slots less),
    )

-- ---- it may be asked

at_back : (l : List Request) (k : ℕ) (r : Request) → asks_each (drop k l) [] ≡ Asks r → slice_get l k ≡ Some r
at_back [] zero r h = absurd (cc h)
at_back [] (suc k) r h = absurd (cc h)
at_back (x ∷ xs) zero r h = let e : x ≡ r = cc h in ap Some e
at_back (x ∷ xs) (suc k) r h = at_back xs k r h

one_may : (P : Request → Type 0) (x : Request) (k : ℕ) (r : Request) → P x → slice_get (x ∷ []) k ≡ Some r → P r
one_may P x zero r p h = let e : x ≡ r = cc h in subst P e p
one_may P x (suc k) r p h = absurd (cc h)

map_may : {X : Type 0} (P : Request → Type 0) (f : X → Request) (good : X → Bool) (xs : List X) (k : ℕ) (r : Request) → ((x : X) → good x ≡ true → P (f x)) → list_all good xs ≡ true → slice_get (map f xs) k ≡ Some r → P r
map_may P f good [] k r p all h = absurd (cc h)
map_may P f good (x ∷ xs) zero r p all h = let e : f x ≡ r = cc h in subst P e (p x (and_parts (good x) (list_all good xs) all).0)
map_may P f good (x ∷ xs) (suc k) r p all h = map_may P f good xs k r p (and_parts (good x) (list_all good xs) all).1 h

name_fits : (pool : List ℕ) → is_good_name pool ≡ true → length pool ≤ 64
name_fits pool named = leb-true (length pool) 64 (and_parts (nat_le (length pool) 64) (list_all is_name_byte pool) (and_parts (nat_le 1 (length pool)) _ named).1).0

own_fits : (key : List ℕ) → is_good_key key ≡ true → length key ≤ 4294967229
own_fits key good = leb-true (length key) 4294967229 (and_parts (nat_le (length key) 4294967229) (list_all (λ b. not (is_reserved b)) key) (and_parts (nat_le 1 (length key)) _ good).1).0

key_fits : (pool key : List ℕ) → is_good_name pool ≡ true → is_good_key key ≡ true → length (pool_key pool key) < 2 ^ 32
key_fits pool key named good = omega (arith, length-append (braced pool) key, length-append pool (125 ∷ []), name_fits pool named, own_fits key good)

set_may : (conf : Conf) (p : Option Pattern) (b : Bool) (key : List ℕ) (value : List Kind) (ttl : ℕ) → length key < 2 ^ 32 → MayBeAsked conf p (cond b (requests.Store key value ttl false) (requests.Delete key))
set_may conf p true key value ttl fits = fits
set_may conf p false key value ttl fits = fits

-- by its form
ask_may : (conf : Conf) (pool : List ℕ) (ask : PoolAsk) (k from : ℕ) (r : Request) → is_good_name pool ≡ true → is_good_ask ask ≡ true → next_from conf.slots (asking_in (pool_asking pool ask)) k from [] ≡ Asks r → MayBeAsked conf (ask_pattern pool ask) r
ask_may conf pool (pools.Get key default) k from r named good h = one_may (MayBeAsked conf None) (requests.Fetch (pool_key pool key)) k r (key_fits pool key named good) (at_back _ k r h)
ask_may conf pool (pools.Set key value ttl) k from r named good h =
    one_may (MayBeAsked conf None) (set_of pool (key, value) ttl) k r (set_may conf None (int_lt (pos 0) ttl) (pool_key pool key) value (nat_abs ttl) (key_fits pool key named (and_parts (is_good_key key) (is_good_ttl ttl) good).0)) (at_back _ k r h)
ask_may conf pool (pools.SetPlain key value) k from r named good h = one_may (MayBeAsked conf None) (store_of pool (key, value) 0) k r (key_fits pool key named good) (at_back _ k r h)
ask_may conf pool (pools.Delete key) k from r named good h = one_may (MayBeAsked conf None) (requests.Delete (pool_key pool key)) k r (key_fits pool key named good) (at_back _ k r h)
ask_may conf pool pools.Clear k from r named good h = go (nat_lt from conf.slots) refl h
  where
    step : Request
    step = requests.ChunkDelete (Some (pattern_of pool)) from pool_step

    go : (b : Bool) → nat_lt from conf.slots ≡ b → cond b (Asks step) (Leaves []) ≡ Asks r → MayBeAsked conf (Some (pattern_of pool)) r
    go true less q =
        let e : step ≡ r = cc q in
        let within : from ≤ conf.slots = omega (arith, ltb-true from conf.slots less) in
        subst (MayBeAsked conf (Some (pattern_of pool))) e (record { same = refl; within = within; some = omega arith })
    go false over q = absurd (cc q)
ask_may conf pool (pools.GetMany keys default) k from r named good h =
    map_may (MayBeAsked conf None) (λ (key : List ℕ). requests.Fetch (pool_key pool key)) is_good_key keys k r (λ key own. key_fits pool key named own) good (at_back _ k r h)
ask_may conf pool (pools.SetMany pairs ttl) k from r named good h =
    map_may (MayBeAsked conf None) (λ (pair : List ℕ × List Kind). set_of pool pair ttl) (λ (pair : List ℕ × List Kind). is_good_key pair.0) pairs k r
    (λ pair own. set_may conf None (int_lt (pos 0) ttl) (pool_key pool pair.0) pair.1 (nat_abs ttl) (key_fits pool pair.0 named own)) (and_parts (are_good_pairs pairs) (is_good_ttl ttl) good).0 (at_back _ k r h)
ask_may conf pool (pools.SetManyPlain pairs) k from r named good h =
    map_may (MayBeAsked conf None) (λ (pair : List ℕ × List Kind). store_of pool pair 0) (λ (pair : List ℕ × List Kind). is_good_key pair.0) pairs k r (λ pair own. key_fits pool pair.0 named own) good (at_back _ k r h)
ask_may conf pool (pools.DeleteMany keys) k from r named good h =
    map_may (MayBeAsked conf None) (λ (key : List ℕ). requests.Delete (pool_key pool key)) is_good_key keys k r (λ key own. key_fits pool key named own) good (at_back _ k r h)
ask_may conf pool (pools.Has key) k from r named good h = one_may (MayBeAsked conf None) (requests.Exists (pool_key pool key)) k r (key_fits pool key named good) (at_back _ k r h)

-- the request of the next event
pub event_may : (conf : Conf) (call : PoolCall) (k from event : ℕ) (r : Request) → IsGoodCall call → IsNextEvent call (next_from conf.slots (asking_in (pool_asking call.pool call.ask)) k from []) (Some event)
    → asked_at (pool_asking call.pool call.ask) event ≡ Some r → MayBeAsked conf (ask_pattern call.pool call.ask) r
event_may conf call k from event r good next is =
    let e : next.0 ≡ r = cc (next.1, is) in
    ask_may conf call.pool call.ask k from r good.named good.asks_well (next.2 ∙ ap Asks e)
