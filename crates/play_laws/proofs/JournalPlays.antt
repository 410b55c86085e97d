-- The events that a journal tells lead where its play does, and none of them is deep.
use Rattle.std.proofs.Common.{◌≡◌, ℕ, zero, suc, ◌≤◌, Bool, true, false, if◌then◌else◌, List, [], ◌∷◌, ◌++◌, length, map, Option, Some, None, refl, ap, sym, ◌∙◌, subst, arith}
use Rattle.std.specs.Prelude.{ℤ, pos, Contains, unwrap_or, slice_get, nat_lt, int_lt, nat_abs}
use Rattle.std.specs.List.{AllByRecursion}
use Rattle.std.specs.Option.{option_and_then}
use Rattle.std.proofs.lemmas.List.{length-append}
use Rattle.std.proofs.lemmas.Bool.{le-leb, and_from, and_parts}
use Rattle.php_graph.specs.declared.kind.Kind.{Kind}
use Rattle.apcu_model.specs.declared.conf.Conf.{Conf}
use Rattle.apcu_model.specs.declared.request.Event.{Event}
use Rattle.apcu_model.specs.declared.journal.Mark.{Mark}
use Rattle.apcu_model.specs.declared.request.Request.{Request}
use Rattle.apcu_model.specs.declared.request.Request.TheVariants as request
use Rattle.apcu_model.specs.declared.request.Reply.{Reply}
use Rattle.apcu_model.specs.declared.searching.List.TheVariants.{Active, Deleted}
use Rattle.apcu_model.specs.Laws.{RowsStayApart}
use Rattle.apcu_model.specs.Cache.{Row}
use Rattle.apcu_model.specs.Counters.{integer_in}
use Rattle.apcu_model.specs.History.{Stage, start_of, stage_of, is_shallow, are_shallow, after_events}
use Rattle.apcu_model.specs.Levels.{most_levels}
use Rattle.script_read.specs.declared.call.Call.{Call}
use Rattle.script_read.specs.declared.call.Call.TheVariants as calls
use Rattle.script_read.specs.declared.script.Step.{Step}
use Rattle.script_read.specs.Calls.{IsRanged, HasRanges}
use Rattle.simple_pool.specs.declared.call.PoolAsk.{PoolAsk}
use Rattle.simple_pool.specs.declared.call.PoolAsk.TheVariants as pools
use Rattle.simple_pool.specs.Names.{pool_key, pattern_of}
use Rattle.simple_pool.specs.Requests.{pool_asking, pool_step, set_of, store_of}
use Rattle.script_read.specs.Ranges.{AreRanged}
use Rattle.script_read.specs.Play.{Wish, Play, Next, Asks, Leaves, asks_each, asks_steps, asks_so, asking_in, asking_of, next_of, slot_after, wanted, continued, nothing_played, replies_of, wish_of, event_of, after_wish, played}
use Rattle.play_laws.specs.Counting.{steps_on, counted_up, none_swaps}
use Rattle.play_laws.specs.JournalEvents.{events_from}
use Rattle.play_laws.proofs.JournalStages.{told_stage, played-joined, stage-joined}
use Rattle.play_laws.proofs.CounterRows as counting

-- ---- what a script asks is not deep

abbrev AreShallow : List Request → Type 0
AreShallow requests = AllByRecursion (λ r. is_shallow r ≡ true) requests

each_shallow : (requests : List Request) (replies : List Reply) (r : Request) → AreShallow requests → asks_each requests replies ≡ Asks r → is_shallow r ≡ true
each_shallow [] replies r all e = absurd (cc e)
each_shallow (q ∷ requests) [] r all e = let same : q ≡ r = cc e in subst (λ x. is_shallow x ≡ true) same all.0
each_shallow (q ∷ requests) (reply ∷ replies) r all e = each_shallow requests replies r all.1 e

mapped_shallow : {X : Type 0} (f : X → Request) (xs : List X) → ((x : X) → is_shallow (f x) ≡ true) → AreShallow (map f xs)
mapped_shallow f [] h = tt
mapped_shallow f (x ∷ xs) h = (h x, mapped_shallow f xs h)

steps_shallow : (slots : ℕ) (ask : ℕ → Request) (from : ℕ) (replies : List Reply) (r : Request) → ((n : ℕ) → is_shallow (ask n) ≡ true) → asks_steps slots ask from replies ≡ Asks r → is_shallow r ≡ true
steps_shallow slots ask from [] r all e = go (nat_lt from slots) e
  where
    go : (b : Bool) → (if b then Asks (ask from) else Leaves []) ≡ Asks r → is_shallow r ≡ true
    go true q = let same : ask from ≡ r = cc q in subst (λ x. is_shallow x ≡ true) same (all from)
    go false q = absurd (cc q)
steps_shallow slots ask from (reply ∷ replies) r all e = go (nat_lt from slots) e (steps_shallow slots ask (slot_after slots from reply) replies r all)
  where
    go : (b : Bool) → (if b then asks_steps slots ask (slot_after slots from reply) replies else Leaves (reply ∷ replies)) ≡ Asks r
        → (asks_steps slots ask (slot_after slots from reply) replies ≡ Asks r → is_shallow r ≡ true) → is_shallow r ≡ true
    go true q later = later q
    go false q later = absurd (cc q)

set_shallow : (pool : List ℕ) (pair : List ℕ × List Kind) (ttl : ℤ) → is_shallow (set_of pool pair ttl) ≡ true
set_shallow pool pair ttl = go (int_lt (pos 0) ttl)
  where
    go : (b : Bool) → is_shallow (if b then store_of pool pair (nat_abs ttl) else request.Delete (pool_key pool pair.0)) ≡ true
    go true = refl
    go false = refl

pool_shallow : (slots : ℕ) (pool : List ℕ) (ask : PoolAsk) (replies : List Reply) (r : Request) → asks_so slots (asking_in (pool_asking pool ask)) replies ≡ Asks r → is_shallow r ≡ true
pool_shallow slots pool (pools.Get key default) replies r e = each_shallow (request.Fetch (pool_key pool key) ∷ []) replies r (refl, tt) e
pool_shallow slots pool (pools.Set key value ttl) replies r e = each_shallow (set_of pool (key, value) ttl ∷ []) replies r (set_shallow pool (key, value) ttl, tt) e
pool_shallow slots pool (pools.SetPlain key value) replies r e = each_shallow (store_of pool (key, value) 0 ∷ []) replies r (refl, tt) e
pool_shallow slots pool (pools.Delete key) replies r e = each_shallow (request.Delete (pool_key pool key) ∷ []) replies r (refl, tt) e
pool_shallow slots pool pools.Clear replies r e = steps_shallow slots (λ from. request.ChunkDelete (Some (pattern_of pool)) from pool_step) 0 replies r (λ n. refl) e
pool_shallow slots pool (pools.GetMany keys default) replies r e = each_shallow (map (λ key. request.Fetch (pool_key pool key)) keys) replies r (mapped_shallow (λ key. request.Fetch (pool_key pool key)) keys (λ x. refl)) e
pool_shallow slots pool (pools.SetMany pairs ttl) replies r e = each_shallow (map (λ pair. set_of pool pair ttl) pairs) replies r (mapped_shallow (λ pair. set_of pool pair ttl) pairs (λ pair. set_shallow pool pair ttl)) e
pool_shallow slots pool (pools.SetManyPlain pairs) replies r e = each_shallow (map (λ pair. store_of pool pair 0) pairs) replies r (mapped_shallow (λ pair. store_of pool pair 0) pairs (λ x. refl)) e
pool_shallow slots pool (pools.DeleteMany keys) replies r e = each_shallow (map (λ key. request.Delete (pool_key pool key)) keys) replies r (mapped_shallow (λ key. request.Delete (pool_key pool key)) keys (λ x. refl)) e
pool_shallow slots pool (pools.Has key) replies r e = each_shallow (request.Exists (pool_key pool key) ∷ []) replies r (refl, tt) e

call_shallow : (slots : ℕ) (call : Call) (replies : List Reply) (r : Request) → HasRanges call → asks_so slots (asking_of call) replies ≡ Asks r → is_shallow r ≡ true
call_shallow slots (calls.StoreOne key value ttl exclusive) replies r h e = each_shallow (request.Store key value ttl exclusive ∷ []) replies r (refl, tt) e
call_shallow slots (calls.StoreMany pairs ttl exclusive) replies r h e = each_shallow (map (λ pair. request.Store pair.0 pair.1 ttl exclusive) pairs) replies r (mapped_shallow (λ pair. request.Store pair.0 pair.1 ttl exclusive) pairs (λ x. refl)) e
call_shallow slots (calls.FetchOne key) replies r h e = each_shallow (request.Fetch key ∷ []) replies r (refl, tt) e
call_shallow slots (calls.FetchMany keys) replies r h e = each_shallow (map request.Fetch keys) replies r (mapped_shallow request.Fetch keys (λ x. refl)) e
call_shallow slots (calls.ExistsOne key) replies r h e = each_shallow (request.Exists key ∷ []) replies r (refl, tt) e
call_shallow slots (calls.ExistsMany keys) replies r h e = each_shallow (map request.Exists keys) replies r (mapped_shallow request.Exists keys (λ x. refl)) e
call_shallow slots (calls.DeleteOne key) replies r h e = each_shallow (request.Delete key ∷ []) replies r (refl, tt) e
call_shallow slots (calls.DeleteMany keys) replies r h e = each_shallow (map request.Delete keys) replies r (mapped_shallow request.Delete keys (λ x. refl)) e
call_shallow slots (calls.Inc key step ttl) replies r h e = each_shallow (request.Inc key step ttl ∷ []) replies r (refl, tt) e
call_shallow slots (calls.Cas key expect set) replies r h e = each_shallow (request.Cas key expect set ∷ []) replies r (refl, tt) e
call_shallow slots (calls.Entry gen) replies r h e = each_shallow (request.Entry gen ∷ []) replies r (le-leb (length gen.levels) most_levels h.1, tt) e
call_shallow slots calls.Clear replies r h e = each_shallow (request.Clear ∷ []) replies r (refl, tt) e
call_shallow slots calls.Enabled replies r h e = each_shallow [] replies r tt e
call_shallow slots (calls.KeyInfo key) replies r h e = each_shallow (request.KeyInfo key ∷ []) replies r (refl, tt) e
call_shallow slots (calls.CacheInfo limited) replies r h e = each_shallow (request.CacheInfo limited ∷ []) replies r (refl, tt) e
call_shallow slots (calls.SmaInfo limited) replies r h e = each_shallow (request.SmaInfo limited ∷ []) replies r (refl, tt) e
call_shallow slots (calls.Walk search fields size Active) replies r h e = steps_shallow slots (λ from. request.Chunk search from size Active fields) 0 replies r (λ n. refl) e
call_shallow slots (calls.Walk search fields size Deleted) replies r h e = each_shallow (request.Chunk search 0 size Deleted fields ∷ []) replies r (refl, tt) e
call_shallow slots (calls.WalkDelete search size) replies r h e = steps_shallow slots (λ from. request.ChunkDelete search from size) 0 replies r (λ n. refl) e
call_shallow slots (calls.Totals search list) replies r h e = each_shallow (request.Totals search list ∷ []) replies r (refl, tt) e
call_shallow slots (calls.Pool call) replies r h e = pool_shallow slots call.pool call.ask replies r e

wanted_shallow : (conf : Conf) (script : List Step) (replies : List Reply) (wish : Wish) → AllByRecursion IsRanged script → wanted conf script replies ≡ Some wish → is_shallow wish.request ≡ true
wanted_shallow conf [] [] wish all e = ap (λ (o : Option Wish). is_shallow (unwrap_or o wish).request) (sym e)
wanted_shallow conf [] (reply ∷ replies) wish all e = absurd (cc e)
wanted_shallow conf (step ∷ steps) replies wish all e = go (next_of conf step.call replies) refl (λ others. wanted_shallow conf steps others wish all.1) e
  where
    go : (n : Next) → next_of conf step.call replies ≡ n → ((others : List Reply) → wanted conf steps others ≡ Some wish → is_shallow wish.request ≡ true) → continued step.t (wanted conf steps) n ≡ Some wish
        → is_shallow wish.request ≡ true
    go (Asks r) is later q = ap (λ (o : Option Wish). is_shallow (unwrap_or o wish).request) (sym q) ∙ call_shallow conf.slots step.call replies r all.0 is
    go (Leaves others) is later q = later others q

script_ranged : (scripts : List (List Step)) (w : ℕ) (script : List Step) → AreRanged scripts → slice_get scripts w ≡ Some script → AllByRecursion IsRanged script
script_ranged [] w script all at = absurd (cc at)
script_ranged (s ∷ scripts) zero script all at = let same : s ≡ script = cc at in subst (λ x. AllByRecursion IsRanged x) same all.0
script_ranged (s ∷ scripts) (suc w) script all at = script_ranged scripts w script all.1 at

wish_shallow : (conf : Conf) (scripts : List (List Step)) (p : Play) (w : ℕ) (wish : Wish) → AreRanged scripts → wish_of conf scripts p w ≡ Some wish → is_shallow wish.request ≡ true
wish_shallow conf scripts p w wish all e = go (slice_get scripts w) refl e
  where
    go : (o : Option (List Step)) → slice_get scripts w ≡ o → option_and_then (λ script. wanted conf script (replies_of p w)) o ≡ Some wish → is_shallow wish.request ≡ true
    go None at q = absurd (cc q)
    go (Some script) at q = wanted_shallow conf script (replies_of p w) wish (script_ranged scripts w script all at) q

-- ---- what a journal tells

told_shallow : (conf : Conf) (scripts : List (List Step)) (p : Play) (marks : List Mark) → AreRanged scripts → are_shallow (events_from conf scripts p marks) ≡ true
told_shallow conf scripts p [] all = refl
told_shallow conf scripts p (mark ∷ marks) all = go (wish_of conf scripts p mark.worker) refl (λ wish. told_shallow conf scripts (after_wish p mark wish) marks all)
  where
    go : (o : Option Wish) → wish_of conf scripts p mark.worker ≡ o → ((wish : Wish) → are_shallow (events_from conf scripts (after_wish p mark wish) marks) ≡ true)
        → are_shallow (unwrap_or (option_and_then (λ wish. Some (event_of mark wish ∷ events_from conf scripts (after_wish p mark wish) marks)) o) []) ≡ true
    go None e later = refl
    go (Some wish) e later = and_from (is_shallow wish.request) (are_shallow (events_from conf scripts (after_wish p mark wish) marks)) (wish_shallow conf scripts p mark.worker wish all e) (later wish)

shallow_joined : (a b : List Event) → are_shallow a ≡ true → are_shallow b ≡ true → are_shallow (a ++ b) ≡ true
shallow_joined [] b h k = k
shallow_joined (e ∷ a) b h k =
    let parts = and_parts (is_shallow e.request) (are_shallow a) h in
    and_from (is_shallow e.request) (are_shallow (a ++ b)) parts.0 (shallow_joined a b parts.1 k)

pub played_counted : RowsStayApart → (conf : Conf) (scripts : List (List Step)) (before between : List Mark) (p q : Play) (first second : Row) (n : ℤ) → 1 ≤ conf.slots → length (before ++ between) ≤ 4194304 → AreRanged scripts
    → played conf scripts before ≡ Some p → played conf scripts (before ++ between) ≡ Some q → Contains p.stage.cache.rows first → Contains q.stage.cache.rows second
    → first.key ≡ second.key → first.number ≡ second.number → integer_in first.graph ≡ Some n → none_swaps first.key p.stage (events_from conf scripts p between) ≡ true
    → integer_in second.graph ≡ Some (counted_up n (steps_on first.key (events_from conf scripts p between)))
played_counted law conf scripts before between p q first second n some short ranged a b there there' same number is none =
    let o = nothing_played conf scripts in
    let on = played-joined conf scripts o p q before between a b in
    let early = events_from conf scripts o before in
    let late = events_from conf scripts p between in
    let e = told_stage conf scripts o p before a in
    let l = told_stage conf scripts p q between on in
    let count : length (early ++ late) ≤ 4194304 = omega (arith, short, e.1, l.1, length-append before between, length-append early late) in
    let deep = shallow_joined early late (told_shallow conf scripts o before ranged) (told_shallow conf scripts p between ranged) in
    let end : stage_of conf (early ++ late) ≡ q.stage = stage-joined (start_of conf) early late ∙ (ap (λ m. after_events m late) e.0 ∙ l.0) in
    counting.counted law conf early late first second n some count deep (subst (λ (m : Stage). Contains m.cache.rows first) (sym e.0) there) (subst (λ (m : Stage). Contains m.cache.rows second) (sym end) there') same number is
    (subst (λ m. none_swaps first.key m late ≡ true) (sym e.0) none)
