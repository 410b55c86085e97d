-- A play is no longer than all events that its scripts may make.
use Rattle.std.proofs.Common.{◌≡◌, ℕ, zero, suc, ◌+◌, ◌-◌, ◌<◌, ◌≤◌, Bool, true, false, cond, List, [], ◌∷◌, ◌++◌, length, map, Option, Some, None, refl, ap, subst, arith, length-append}
use Rattle.std.specs.Prelude.{nat_lt, slice_get, slice_set, unwrap_or}
use Rattle.std.specs.Option.{option_and_then}
use Rattle.std.proofs.lemmas.Bool.{ltb-true}
use Rattle.std.proofs.lemmas.List.{length-map}
use Rattle.apcu_model.specs.declared.conf.Conf.{Conf}
use Rattle.apcu_model.specs.declared.journal.Mark.{Mark}
use Rattle.apcu_model.specs.declared.request.Request.{Request}
use Rattle.apcu_model.specs.declared.request.Reply.{Reply}
use Rattle.apcu_model.specs.declared.searching.List.TheVariants.{Active, Deleted}
use Rattle.apcu_model.specs.History.{is_legal_mask, reply_in}
use Rattle.script_read.specs.declared.call.Call.{Call}
use Rattle.script_read.specs.declared.call.Call.TheVariants as calls
use Rattle.script_read.specs.declared.script.Step.{Step}
use Rattle.simple_pool.specs.declared.call.PoolAsk.{PoolAsk}
use Rattle.simple_pool.specs.declared.call.PoolAsk.TheVariants as pools
use Rattle.simple_pool.specs.Requests.{pool_asking, pool_bound}
use Rattle.script_read.specs.Calls.{event_bound}
use Rattle.script_read.specs.Play.{Asking, Each, Steps, Next, Asks, Leaves, Wish, Play, asking_of, asking_in, asks_each, asks_steps, asks_so, next_of, slot_after, step_end, wanted, continued, wish_of, after_wish, event_of, replies_of, marked, played_from, played, nothing_played}
use Rattle.script_read.specs.Budgets.{events_in, all_events}

-- what is left after this many replies
abbrev Within : ℕ → ℕ → Next → Type 0
Within n bound (Asks r) = n + 1 ≤ bound
Within n bound (Leaves others) = n ≤ bound + length others

each_within : (asked : List Request) (replies : List Reply) → Within (length replies) (length asked) (asks_each asked replies)
each_within [] replies = omega arith
each_within (r ∷ asked) [] = omega arith
each_within (r ∷ asked) (y ∷ replies) = go (asks_each asked replies) (each_within asked replies)
  where
    go : (n : Next) → Within (length replies) (length asked) n → Within (length (y ∷ replies)) (length (r ∷ asked)) n
    go (Asks x) h = omega (arith, h)
    go (Leaves others) h = omega (arith, h)

-- a step goes on at a later slot
onward : (slots from : ℕ) (y : Reply) → from < slots → from < slot_after slots from y
onward slots from y low = go (nat_lt from (step_end slots y)) refl
  where
    go : (b : Bool) → nat_lt from (step_end slots y) ≡ b → from < cond b (step_end slots y) slots
    go true is = ltb-true from (step_end slots y) is
    go false is = low

steps_within : (slots : ℕ) (ask : ℕ → Request) (from : ℕ) (replies : List Reply) → Within (length replies) (slots - from) (asks_steps slots ask from replies)
steps_within slots ask from [] = go (nat_lt from slots) refl
  where
    go : (b : Bool) → nat_lt from slots ≡ b → Within 0 (slots - from) (cond b (Asks (ask from)) (Leaves []))
    go true is = let low = ltb-true from slots is in omega (arith, low)
    go false is = omega arith
steps_within slots ask from (y ∷ replies) = go (nat_lt from slots) refl (steps_within slots ask (slot_after slots from y) replies)
  where
    more : from < slots → (n : Next) → Within (length replies) (slots - slot_after slots from y) n → Within (length (y ∷ replies)) (slots - from) n
    more low (Asks x) h = let o = onward slots from y low in omega (arith, h, o, low)
    more low (Leaves others) h = let o = onward slots from y low in omega (arith, h, o, low)

    go : (b : Bool) → nat_lt from slots ≡ b → Within (length replies) (slots - slot_after slots from y) (asks_steps slots ask (slot_after slots from y) replies)
        → Within (length (y ∷ replies)) (slots - from) (cond b (asks_steps slots ask (slot_after slots from y) replies) (Leaves (y ∷ replies)))
    go true is h = more (ltb-true from slots is) (asks_steps slots ask (slot_after slots from y) replies) h
    go false is h = omega arith

-- as many events as a way of asking may make
abbrev asking_bound : ℕ → Asking → ℕ
asking_bound slots (Each asked) = length asked
asking_bound slots (Steps ask) = slots

all_slots : (n : ℕ) → n - 0 ≡ n
all_slots n = omega arith

so_within : (slots : ℕ) (asking : Asking) (replies : List Reply) → Within (length replies) (asking_bound slots asking) (asks_so slots asking replies)
so_within slots (Each asked) replies = each_within asked replies
so_within slots (Steps ask) replies = subst (λ n. Within (length replies) n (asks_steps slots ask 0 replies)) (all_slots slots) (steps_within slots ask 0 replies)

pool_bound_is : (slots : ℕ) (pool : List ℕ) (ask : PoolAsk) → asking_bound slots (asking_in (pool_asking pool ask)) ≡ pool_bound slots ask
pool_bound_is slots pool (pools.Get key default) = refl
pool_bound_is slots pool (pools.Set key value ttl) = refl
pool_bound_is slots pool (pools.SetPlain key value) = refl
pool_bound_is slots pool (pools.Delete key) = refl
pool_bound_is slots pool pools.Clear = refl
pool_bound_is slots pool (pools.GetMany keys default) = length-map keys _
pool_bound_is slots pool (pools.SetMany pairs ttl) = length-map pairs _
pool_bound_is slots pool (pools.SetManyPlain pairs) = length-map pairs _
pool_bound_is slots pool (pools.DeleteMany keys) = length-map keys _
pool_bound_is slots pool (pools.Has key) = refl

bound_is : (slots : ℕ) (call : Call) → asking_bound slots (asking_of call) ≡ event_bound slots call
bound_is slots (calls.StoreOne key value ttl exclusive) = refl
bound_is slots (calls.StoreMany pairs ttl exclusive) = length-map pairs _
bound_is slots (calls.FetchOne key) = refl
bound_is slots (calls.FetchMany keys) = length-map keys _
bound_is slots (calls.ExistsOne key) = refl
bound_is slots (calls.ExistsMany keys) = length-map keys _
bound_is slots (calls.DeleteOne key) = refl
bound_is slots (calls.DeleteMany keys) = length-map keys _
bound_is slots (calls.Inc key step ttl) = refl
bound_is slots (calls.Cas key expect new) = refl
bound_is slots (calls.Entry g) = refl
bound_is slots calls.Clear = refl
bound_is slots calls.Enabled = refl
bound_is slots (calls.KeyInfo key) = refl
bound_is slots (calls.CacheInfo limited) = refl
bound_is slots (calls.SmaInfo limited) = refl
bound_is slots (calls.Walk looked fields size Active) = refl
bound_is slots (calls.Walk looked fields size Deleted) = refl
bound_is slots (calls.WalkDelete looked size) = refl
bound_is slots (calls.Totals looked list) = refl
bound_is slots (calls.Pool call) = pool_bound_is slots call.pool call.ask

call_within : (conf : Conf) (call : Call) (replies : List Reply) → Within (length replies) (event_bound conf.slots call) (next_of conf call replies)
call_within conf call replies = subst (λ n. Within (length replies) n (next_of conf call replies)) (bound_is conf.slots call) (so_within conf.slots (asking_of call) replies)

-- a worker that wants something has had no more replies than its script may ask for
pub wants_within : (conf : Conf) (script : List Step) (replies : List Reply) (w : Wish) → wanted conf script replies ≡ Some w → length replies ≤ events_in conf.slots script
wants_within conf [] [] w h = omega arith
wants_within conf [] (y ∷ replies) w h = absurd (cc h)
wants_within conf (step ∷ steps) replies w h = go (next_of conf step.call replies) (call_within conf step.call replies) (λ others. wants_within conf steps others w) h
  where
    go : (n : Next) → Within (length replies) (event_bound conf.slots step.call) n → ((others : List Reply) → wanted conf steps others ≡ Some w → length others ≤ events_in conf.slots steps)
        → continued step.t (wanted conf steps) n ≡ Some w → length replies ≤ events_in conf.slots (step ∷ steps)
    go (Asks r) b later q = omega (arith, b)
    go (Leaves others) b later q = let l = later others q in omega (arith, b, l)

-- ---- all workers

abbrev AreBounded : ℕ → List (List Step) → List (List Reply) → Type 0
AreBounded slots [] [] = Unit {0}
AreBounded slots [] (r ∷ rs) = ⊥
AreBounded slots (s ∷ ss) [] = ⊥
AreBounded slots (s ∷ ss) (r ∷ rs) = (length r ≤ events_in slots s + 1) × AreBounded slots ss rs

abbrev total : List (List Reply) → ℕ
total [] = 0
total (r ∷ rs) = length r + total rs

none_bounded : (slots : ℕ) (scripts : List (List Step)) → AreBounded slots scripts (map (λ script. []) scripts)
none_bounded slots [] = tt
none_bounded slots (s ∷ ss) = (omega arith, none_bounded slots ss)

none_total : (scripts : List (List Step)) → total (map (λ script. []) scripts) ≡ 0
none_total [] = refl
none_total (s ∷ ss) = let later = none_total ss in omega (arith, later)

total_bounded : (slots : ℕ) (scripts : List (List Step)) (replies : List (List Reply)) → AreBounded slots scripts replies → total replies ≤ all_events slots scripts
total_bounded slots [] [] h = omega arith
total_bounded slots [] (r ∷ rs) h = absurd h
total_bounded slots (s ∷ ss) [] h = absurd h
total_bounded slots (s ∷ ss) (r ∷ rs) h = let later = total_bounded slots ss rs h.1 in omega (arith, h.0, later)

abbrev own : List (List Reply) → ℕ → List Reply
own replies v = unwrap_or (slice_get replies v) []

one_more : (slots : ℕ) (scripts : List (List Step)) (replies : List (List Reply)) (v : ℕ) (script : List Step) (y : Reply) → AreBounded slots scripts replies → slice_get scripts v ≡ Some script
    → length (own replies v) ≤ events_in slots script
    → AreBounded slots scripts (slice_set replies v (own replies v ++ y ∷ [])) × (total (slice_set replies v (own replies v ++ y ∷ [])) ≡ total replies + 1)
one_more slots [] replies v script y h there few = absurd (cc there)
one_more slots (s ∷ ss) [] v script y h there few = absurd h
one_more slots (s ∷ ss) (r ∷ rs) zero script y h there few =
    let same : s ≡ script = cc there in
    ((omega (arith, length-append r (y ∷ []), few, ap (events_in slots) same), h.1), omega (arith, length-append r (y ∷ [])))
one_more slots (s ∷ ss) (r ∷ rs) (suc v) script y h there few =
    let later = one_more slots ss rs v script y h.1 there few in
    ((h.0, later.0), omega (arith, later.1))

record Counted (conf : Conf) (scripts : List (List Step)) (p : Play) (n : ℕ) : Type 0 where
  pub bounded : AreBounded conf.slots scripts p.replies
  pub many : total p.replies ≡ n

-- what a mark that can be played was
marked_wish : (conf : Conf) (scripts : List (List Step)) (p q : Play) (mark : Mark) → marked conf scripts p mark ≡ Some q
    → (script : List Step) × (w : Wish) × (slice_get scripts mark.worker ≡ Some script) × (wanted conf script (replies_of p mark.worker) ≡ Some w) × (after_wish p mark w ≡ q)
marked_wish conf scripts p q mark h = legal (is_legal_mask (length scripts) mark.worker p.stage mark.mask) h
  where
    wish : (script : List Step) → slice_get scripts mark.worker ≡ Some script → (o : Option Wish) → wanted conf script (replies_of p mark.worker) ≡ o → option_and_then (λ w. Some (after_wish p mark w)) o ≡ Some q
        → (script : List Step) × (w : Wish) × (slice_get scripts mark.worker ≡ Some script) × (wanted conf script (replies_of p mark.worker) ≡ Some w) × (after_wish p mark w ≡ q)
    wish script there None is e = absurd (cc e)
    wish script there (Some w) is e = (script, w, there, is, cc e)

    found : (o : Option (List Step)) → slice_get scripts mark.worker ≡ o → option_and_then (λ w. Some (after_wish p mark w)) (option_and_then (λ script. wanted conf script (replies_of p mark.worker)) o) ≡ Some q
        → (script : List Step) × (w : Wish) × (slice_get scripts mark.worker ≡ Some script) × (wanted conf script (replies_of p mark.worker) ≡ Some w) × (after_wish p mark w ≡ q)
    found None is e = absurd (cc e)
    found (Some script) is e = wish script is (wanted conf script (replies_of p mark.worker)) refl e

    legal : (b : Bool) → cond b (option_and_then (λ w. Some (after_wish p mark w)) (wish_of conf scripts p mark.worker)) None ≡ Some q
        → (script : List Step) × (w : Wish) × (slice_get scripts mark.worker ≡ Some script) × (wanted conf script (replies_of p mark.worker) ≡ Some w) × (after_wish p mark w ≡ q)
    legal true e = found (slice_get scripts mark.worker) refl e
    legal false e = absurd (cc e)

counted_mark : (conf : Conf) (scripts : List (List Step)) (p q : Play) (mark : Mark) (n : ℕ) → Counted conf scripts p n → marked conf scripts p mark ≡ Some q → Counted conf scripts q (n + 1)
counted_mark conf scripts p q mark n c h =
    let w = marked_wish conf scripts p q mark h in
    let few = wants_within conf w.0 (replies_of p mark.worker) w.1 w.3 in
    let m = one_more conf.slots scripts p.replies mark.worker w.0 (reply_in p.stage (event_of mark w.1)) c.bounded w.2 few in
    let made : Counted conf scripts (after_wish p mark w.1) (n + 1) = record { bounded = m.0; many = omega (arith, m.1, c.many) } in
    subst (λ (x : Play). Counted conf scripts x (n + 1)) w.4 made

counted_all : (conf : Conf) (scripts : List (List Step)) (p q : Play) (marks : List Mark) (n : ℕ) → Counted conf scripts p n → played_from conf scripts p marks ≡ Some q → Counted conf scripts q (n + length marks)
counted_all conf scripts p q [] n c h =
    let same : p ≡ q = cc h in
    let e : n ≡ n + 0 = omega arith in
    subst (λ k. Counted conf scripts q k) e (subst (λ (x : Play). Counted conf scripts x n) same c)
counted_all conf scripts p q (mark ∷ marks) n c h = go (marked conf scripts p mark) refl (λ r d. counted_all conf scripts r q marks (n + 1) d) h
  where
    go : (o : Option Play) → marked conf scripts p mark ≡ o → ((r : Play) → Counted conf scripts r (n + 1) → played_from conf scripts r marks ≡ Some q → Counted conf scripts q (n + 1 + length marks))
        → option_and_then (λ r. played_from conf scripts r marks) o ≡ Some q → Counted conf scripts q (n + length (mark ∷ marks))
    go None is later e = absurd (cc e)
    go (Some r) is later e =
        let k : n + 1 + length marks ≡ n + length (mark ∷ marks) = omega arith in
        subst (λ k. Counted conf scripts q k) k (later r (counted_mark conf scripts p r mark n c is) e)

pub short_play : (conf : Conf) (scripts : List (List Step)) (marks : List Mark) (p : Play) → played conf scripts marks ≡ Some p → length marks ≤ all_events conf.slots scripts
short_play conf scripts marks p h =
    let c = counted_all conf scripts (nothing_played conf scripts) p marks 0 (record { bounded = none_bounded conf.slots scripts; many = none_total scripts }) h in
    omega (arith, total_bounded conf.slots scripts p.replies c.bounded, c.many)
