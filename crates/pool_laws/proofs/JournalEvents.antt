-- The events of a journal are tied to pools by the calls that ask them.
use Rattle.std.proofs.Common.{◌≡◌, ℕ, zero, suc, Bool, true, false, cond, List, [], ◌∷◌, map, filter, length, Option, Some, None, slice_get, refl, ap, ◌∙◌, subst}
use Rattle.std.specs.Prelude.{nat_lt, if◌then◌else◌, option_and_then}
use Rattle.std.specs.List.{AllByRecursion, list_all}
use Rattle.std.specs.Option.{option_map_or}
use Rattle.std.proofs.lemmas.Bool.{and_from}
use Rattle.std.proofs.lemmas.Option.{none-some, same_Some}
use Rattle.apcu_model.specs.declared.conf.Conf.{Conf}
use Rattle.apcu_model.specs.declared.request.Event.{Event}
use Rattle.apcu_model.specs.declared.journal.Mark.{Mark}
use Rattle.apcu_model.specs.declared.request.Request.{Request}
use Rattle.apcu_model.specs.declared.request.Request.TheVariants as requests
use Rattle.apcu_model.specs.declared.request.Reply.{Reply}
use Rattle.simple_pool.specs.declared.call.PoolCall.{PoolCall}
use Rattle.simple_pool.specs.Requests.{IsGoodCall, PoolAsking, asked_at, pool_asking, request_at}
use Rattle.simple_pool.specs.Requests as pools
use Rattle.script_read.specs.declared.call.Call.{Call}
use Rattle.script_read.specs.declared.call.Call.TheVariants as calls
use Rattle.script_read.specs.declared.script.Step.{Step}
use Rattle.script_read.specs.Calls.{IsRanged, HasRanges}
use Rattle.script_read.specs.Ranges.{AreRanged, HasByteKeys, HaveByteKeys}
use Rattle.script_read.specs.Play.{Next, Asks, Leaves, Wish, Play, asking_in, asks_each, asks_steps, asks_so, slot_after, next_of, wanted, continued, wish_at, nothing_played, replies_of, script_of, wish_of, after_wish}
use Rattle.pool_laws.specs.Calls.{Asked, is_by, HasPoolForm, HavePoolForms, AreOfBytes, CallsLeaveAlone, CallsStandAlone, told_from, asked_events}
use Rattle.pool_laws.specs.Pools.{are_bytes, map_answers, named_keys}
use Rattle.pool_laws.specs.Plays.{caller, calling, pool_of, pool_wanted, Answered, answered_at, answered_after, answered_by, asked_in, PoolStandsAlone}
use Rattle.pool_laws.proofs.ByteKeys.{NamesBytes, call_bytes}

-- ---- what a pool's call asks

-- it is one of its requests
record Among (asking : PoolAsking) (request : Request) : Type 0 where
  at : ℕ
  is : asked_at asking at ≡ Some request

each_among : (asked : List Request) (replies : List Reply) (request : Request) → asks_each asked replies ≡ Asks request → slice_get asked (length replies) ≡ Some request
each_among [] replies request e = absurd (cc e)
each_among (first ∷ more) [] request e = let same : first ≡ request = cc e in ap Some same
each_among (first ∷ more) (reply ∷ replies) request e = each_among more replies request e

record Stepped (ask : ℕ → Request) (request : Request) : Type 0 where
  at : ℕ
  is : ask at ≡ request

steps_among : (slots : ℕ) (ask : ℕ → Request) (from : ℕ) (replies : List Reply) (request : Request) → asks_steps slots ask from replies ≡ Asks request → Stepped ask request
steps_among slots ask from [] request e = go (nat_lt from slots) e
  where
    go : (b : Bool) → (if b then Asks (ask from) else Leaves []) ≡ Asks request → Stepped ask request
    go true e = record { at = from; is = cc e }
    go false e = absurd (cc e)
steps_among slots ask from (reply ∷ replies) request e = go (nat_lt from slots) (steps_among slots ask (slot_after slots from reply) replies request) e
  where
    go : (b : Bool) → (asks_steps slots ask (slot_after slots from reply) replies ≡ Asks request → Stepped ask request)
        → (if b then asks_steps slots ask (slot_after slots from reply) replies else Leaves (reply ∷ replies)) ≡ Asks request → Stepped ask request
    go true later e = later e
    go false later e = absurd (cc e)

asking_among : (slots : ℕ) (asking : PoolAsking) (replies : List Reply) (request : Request) → asks_so slots (asking_in asking) replies ≡ Asks request → Among asking request
asking_among slots (pools.Each asked) replies request e = record { at = length replies; is = each_among asked replies request e }
asking_among slots (pools.Steps ask) replies request e =
    let s = steps_among slots ask 0 replies request e in record { at = s.at; is = ap Some s.is }

-- ---- what a worker wants

-- what the laws of pools' calls say
abbrev pub Tied : Type 0
Tied = (call : PoolCall) (i : ℕ) (request : Request) → IsGoodCall call → request_at call i ≡ Some request → HasPoolForm (Some call.pool) request

tied_call : Tied → (conf : Conf) (call : Call) (replies : List Reply) (request : Request) → HasRanges call → next_of conf call replies ≡ Asks request → HasPoolForm (pool_of call) request
tied_call tied conf (calls.Pool call) replies request ranges e =
    let a = asking_among conf.slots (pool_asking call.pool call.ask) replies request e in
    tied call a.at request ranges a.is
tied_call tied conf (calls.StoreOne key value ttl exclusive) replies request ranges e = tt
tied_call tied conf (calls.StoreMany pairs ttl exclusive) replies request ranges e = tt
tied_call tied conf (calls.FetchOne key) replies request ranges e = tt
tied_call tied conf (calls.FetchMany keys) replies request ranges e = tt
tied_call tied conf (calls.ExistsOne key) replies request ranges e = tt
tied_call tied conf (calls.ExistsMany keys) replies request ranges e = tt
tied_call tied conf (calls.DeleteOne key) replies request ranges e = tt
tied_call tied conf (calls.DeleteMany keys) replies request ranges e = tt
tied_call tied conf (calls.Inc key step ttl) replies request ranges e = tt
tied_call tied conf (calls.Cas key expect set) replies request ranges e = tt
tied_call tied conf (calls.Entry gen) replies request ranges e = tt
tied_call tied conf calls.Clear replies request ranges e = tt
tied_call tied conf calls.Enabled replies request ranges e = tt
tied_call tied conf (calls.KeyInfo key) replies request ranges e = tt
tied_call tied conf (calls.CacheInfo limited) replies request ranges e = tt
tied_call tied conf (calls.SmaInfo limited) replies request ranges e = tt
tied_call tied conf (calls.Walk wanted fields size list) replies request ranges e = tt
tied_call tied conf (calls.WalkDelete wanted size) replies request ranges e = tt
tied_call tied conf (calls.Totals wanted list) replies request ranges e = tt

-- of the events of calls that are such holds what holds of all that such calls ask
module _ (conf : Conf) (Q : Step → Type 0) (P : Option (List ℕ) → Request → Type 0) (ends : P None requests.Retire)
    (asks : (step : Step) (replies : List Reply) (request : Request) → Q step → next_of conf step.call replies ≡ Asks request → P (pool_of step.call) request) where
  by_script : (script : List Step) (replies : List Reply) (wish : Wish) → AllByRecursion Q script → wanted conf script replies ≡ Some wish → P (option_and_then pool_of (calling conf script replies)) wish.request
  by_script [] [] wish all e = subst (λ (w : Wish). P None w.request) (same_Some (record { request = requests.Retire; t = 0 }) wish e) ends
  by_script [] (reply ∷ replies) wish all e = absurd (none-some wish e)
  by_script (step ∷ steps) replies wish all e = go (next_of conf step.call replies) refl (λ others. by_script steps others wish all.1) e
    where
      go : (next : Next) → next_of conf step.call replies ≡ next → ((others : List Reply) → wanted conf steps others ≡ Some wish → P (option_and_then pool_of (calling conf steps others)) wish.request)
          → continued step.t (wanted conf steps) next ≡ Some wish → P (option_and_then pool_of (caller step.call (calling conf steps) next)) wish.request
      go (Asks request) is later e =
          let same : request ≡ wish.request = ap (λ (w : Wish). w.request) (same_Some (wish_at step.t request) wish e) in
          subst (λ r. P (pool_of step.call) r) same (asks step replies request all.0 is)
      go (Leaves others) is later e = later others e

  all_at : (scripts : List (List Step)) (w : ℕ) (script : List Step) → AllByRecursion (AllByRecursion Q) scripts → slice_get scripts w ≡ Some script → AllByRecursion Q script
  all_at [] w script all e = absurd (none-some script e)
  all_at (s ∷ scripts) zero script all e = subst (λ s. AllByRecursion Q s) (same_Some s script e) all.0
  all_at (s ∷ scripts) (suc w) script all e = all_at scripts w script all.1 e

  by_worker : (scripts : List (List Step)) (p : Play) (w : ℕ) (wish : Wish) → AllByRecursion (AllByRecursion Q) scripts → wish_of conf scripts p w ≡ Some wish → P (pool_wanted conf scripts p w) wish.request
  by_worker scripts p w wish all e = go (script_of scripts w) refl e
    where
      go : (o : Option (List Step)) → script_of scripts w ≡ o → option_and_then (λ script. wanted conf script (replies_of p w)) o ≡ Some wish
          → P (option_and_then (λ script. option_and_then pool_of (calling conf script (replies_of p w))) o) wish.request
      go None is e = absurd (none-some wish e)
      go (Some script) is e = by_script script (replies_of p w) wish (all_at scripts w script all is) e

  all_asked : (scripts : List (List Step)) (p : Play) (marks : List Mark) → AllByRecursion (AllByRecursion Q) scripts → AllByRecursion (λ (a : Asked). P a.pool a.event.request) (asked_in (answered_after conf scripts p marks))
  all_asked scripts p [] all = tt
  all_asked scripts p (mark ∷ marks) all = go (wish_of conf scripts p mark.worker) refl (λ wish. all_asked scripts (after_wish p mark wish) marks all)
    where
      go : (o : Option Wish) → wish_of conf scripts p mark.worker ≡ o → ((wish : Wish) → AllByRecursion (λ (a : Asked). P a.pool a.event.request) (asked_in (answered_after conf scripts (after_wish p mark wish) marks)))
          → AllByRecursion (λ (a : Asked). P a.pool a.event.request) (asked_in (option_map_or (λ wish. answered_at conf scripts p mark wish ∷ answered_after conf scripts (after_wish p mark wish) marks) o []))
      go None is later = tt
      go (Some wish) is later = (by_worker scripts p mark.worker wish all is, later wish)

-- ---- what journals' events name

abbrev KeyedStep : Step → Type 0
KeyedStep step = IsRanged step × HasByteKeys step

both_all : {A : Type 0} (P Q : A → Type 0) (xs : List A) → AllByRecursion P xs → AllByRecursion Q xs → AllByRecursion (λ x. P x × Q x) xs
both_all P Q [] ps qs = tt
both_all P Q (x ∷ xs) ps qs = ((ps.0, qs.0), both_all P Q xs ps.1 qs.1)

keyed_steps : (scripts : List (List Step)) → AreRanged scripts → HaveByteKeys scripts → AllByRecursion (AllByRecursion KeyedStep) scripts
keyed_steps [] ranged keys = tt
keyed_steps (script ∷ scripts) ranged keys = (both_all IsRanged HasByteKeys script ranged.0 keys.0, keyed_steps scripts ranged.1 keys.1)

all_of_bytes : (asked : List Asked) → AllByRecursion (λ (a : Asked). NamesBytes a.event.request) asked → AreOfBytes (asked_events asked)
all_of_bytes [] all = refl
all_of_bytes (a ∷ asked) all =
    and_from (list_all are_bytes (named_keys a.event.request)) (list_all (λ (e : Event). list_all are_bytes (named_keys e.request)) (asked_events asked)) all.0 (all_of_bytes asked all.1)

module _ (tied : Tied) (conf : Conf) where
  are_tied : (scripts : List (List Step)) (p : Play) (marks : List Mark) → AreRanged scripts → HavePoolForms (asked_in (answered_after conf scripts p marks))
  are_tied scripts p marks ranged = all_asked conf IsRanged HasPoolForm tt (λ step replies request is e. tied_call tied conf step.call replies request is e) scripts p marks ranged

  are_of_bytes : (scripts : List (List Step)) (p : Play) (marks : List Mark) → AreRanged scripts → HaveByteKeys scripts → AreOfBytes (asked_events (asked_in (answered_after conf scripts p marks)))
  are_of_bytes scripts p marks ranged keys =
      all_of_bytes (asked_in (answered_after conf scripts p marks))
      (all_asked conf KeyedStep (λ pool request. NamesBytes request) refl (λ step replies request is e. call_bytes conf step.call replies request is.0 is.1 e) scripts p marks (keyed_steps scripts ranged keys))

  -- ---- the replies

  told_are : (name : List ℕ) (scripts : List (List Step)) (p : Play) (marks : List Mark)
      → map {A = Answered} (λ x. x.reply) (filter (λ (x : Answered). is_by name x.asked) (answered_after conf scripts p marks)) ≡ told_from name p.stage (asked_in (answered_after conf scripts p marks))
  told_are name scripts p [] = refl
  told_are name scripts p (mark ∷ marks) = go (wish_of conf scripts p mark.worker) (λ wish. told_are name scripts (after_wish p mark wish) marks)
    where
      go : (o : Option Wish) → ((wish : Wish) → map {A = Answered} (λ x. x.reply) (filter (λ (x : Answered). is_by name x.asked) (answered_after conf scripts (after_wish p mark wish) marks)) ≡ told_from name (after_wish p mark wish).stage (asked_in (answered_after conf scripts (after_wish p mark wish) marks)))
          → map {A = Answered} (λ x. x.reply) (filter (λ (x : Answered). is_by name x.asked) (option_map_or (λ wish. answered_at conf scripts p mark wish ∷ answered_after conf scripts (after_wish p mark wish) marks) o []))
          ≡ told_from name p.stage (asked_in (option_map_or (λ wish. answered_at conf scripts p mark wish ∷ answered_after conf scripts (after_wish p mark wish) marks) o []))
      go None later = refl
      go (Some wish) later = either (is_by name (answered_at conf scripts p mark wish).asked) (later wish)
        where
          rest : List Answered
          rest = answered_after conf scripts (after_wish p mark wish) marks

          either : (b : Bool) → map {A = Answered} (λ x. x.reply) (filter (λ (x : Answered). is_by name x.asked) rest) ≡ told_from name (after_wish p mark wish).stage (asked_in rest)
              → map {A = Answered} (λ x. x.reply) (cond b (answered_at conf scripts p mark wish ∷ filter (λ (x : Answered). is_by name x.asked) rest) (filter (λ (x : Answered). is_by name x.asked) rest))
              ≡ cond b ((answered_at conf scripts p mark wish).reply ∷ told_from name (after_wish p mark wish).stage (asked_in rest)) (told_from name (after_wish p mark wish).stage (asked_in rest))
          either true e = ap (λ (l : List Reply). (answered_at conf scripts p mark wish).reply ∷ l) e
          either false e = e

  events_are : (name : List ℕ) (told : List Answered) → asked_events (filter (is_by name) (asked_in told)) ≡ map {A = Answered} (λ x. x.asked.event) (filter (λ (x : Answered). is_by name x.asked) told)
  events_are name [] = refl
  events_are name (x ∷ told) = go (is_by name x.asked) (events_are name told)
    where
      go : (b : Bool) → asked_events (filter (is_by name) (asked_in told)) ≡ map {A = Answered} (λ x. x.asked.event) (filter (λ (x : Answered). is_by name x.asked) told)
          → asked_events (cond b (x.asked ∷ filter (is_by name) (asked_in told)) (filter (is_by name) (asked_in told)))
          ≡ map {A = Answered} (λ x. x.asked.event) (cond b (x ∷ filter (λ (x : Answered). is_by name x.asked) told) (filter (λ (x : Answered). is_by name x.asked) told))
      go true e = ap (λ (l : List Event). x.asked.event ∷ l) e
      go false e = e

  pub in_plays : ((name : List ℕ) (conf : Conf) (asked : List Asked) → HavePoolForms asked → AreOfBytes (asked_events asked) → CallsLeaveAlone name conf asked → CallsStandAlone name conf asked)
      → (name : List ℕ) (scripts : List (List Step)) (journal : List Mark) → AreRanged scripts → HaveByteKeys scripts → CallsLeaveAlone name conf (asked_in (answered_by conf scripts journal)) → PoolStandsAlone name conf (answered_by conf scripts journal)
  in_plays law name scripts journal ranged keys l =
      let first = nothing_played conf scripts in
      told_are name scripts first journal
      ∙ (law name conf (asked_in (answered_by conf scripts journal)) (are_tied scripts first journal ranged) (are_of_bytes scripts first journal ranged keys) l
      ∙ ap (map_answers conf.slots []) (events_are name (answered_by conf scripts journal)))
