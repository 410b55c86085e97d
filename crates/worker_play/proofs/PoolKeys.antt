-- Calls on pools, key by key.
use Rattle.std.proofs.Common.{◌≡◌, ℕ, ℤ, Bool, true, false, cond, List, [], ◌∷◌, ◌++◌, length, map, suc, refl, sym, ap, ap₂, subst, ◌∙◌}
use Rattle.std.specs.Prelude.{◌&&◌, pos, int_lt, nat_abs, unwrap_or, Option, Some, None}
use Rattle.std.specs.Borrow.{Bor}
use Rattle.std.specs.List.{list_all}
use Rattle.std.specs.Option.{option_map}
use Rattle.std.specs.Str.{bytes_eq}
use Rattle.std.proofs.lemmas.Bool.{and_parts}
use Rattle.std.proofs.lemmas.Option.{same_Some}
use Rattle.php_graph.specs.declared.kind.Kind.{Kind}
use Rattle.apcu_model.specs.declared.conf.Conf.{Conf}
use Rattle.apcu_model.specs.declared.request.Request.{Request}
use Rattle.apcu_model.specs.declared.request.Request.TheVariants as requests
use Rattle.apcu_model.specs.declared.request.Reply.{Reply}
use Rattle.apcu_model.specs.declared.request.Reply.TheVariants.{Flag}
use Rattle.pin_table.specs.Values.{PassView}
use Rattle.simple_pool.specs.declared.call.PoolAsk.{PoolAsk}
use Rattle.simple_pool.specs.declared.call.PoolAsk.TheVariants.{Set, SetMany}
use Rattle.simple_pool.specs.Names.{pool_key}
use Rattle.simple_pool.specs.Requests.{set_of}
use Rattle.script_read.specs.declared.call.Call.{Call}
use Rattle.script_read.specs.declared.call.Call.TheVariants.{Pool}
use Rattle.script_read.specs.Play.{wish_at, next_of}
use Rattle.reply_text.specs.PoolReplies.{value_or_default, all_done_text, pool_text}
use Rattle.reply_text.specs.Replies.{flag_text, is_done, fetched, noted}
use Rattle.worker_play.specs.Goes.{GoesOn, Reaches, Tells}
use Rattle.worker_play.specs.Pools.{key_in_cache, life_of, put_as, put_of, put_done, answer_value, answers_noted}
use Rattle.worker_play.specs.Turns.{Turn, Takes, Over, turns_at, asks_at}
use Rattle.worker_play.specs.declared.answers.Answer.{Answer}
use Rattle.worker_play.proofs.CallForms.{call_asks, call_tells, told_once}
use Rattle.worker_play.proofs.PassProgress.{Midway, ends, one_asked}
use Rattle.worker_play.proofs.SeveralKeys.{key_goes_on}

-- a request in other words
pub asked_as : (conf : Conf) (workers : ℕ) (o q : PassView) (t : ℕ) (r s : Request) (y : Reply) → r ≡ s → GoesOn conf workers o q (wish_at t r ∷ []) (y ∷ []) → GoesOn conf workers o q (wish_at t s ∷ []) (y ∷ [])
asked_as conf workers o q t r s y same g = subst (λ (x : Request). GoesOn conf workers o q (wish_at t x ∷ []) (y ∷ [])) same g

-- ---- a call by its form

-- the call of a pool that asks so
abbrev call_on : List ℕ → PoolAsk → Call
call_on pool ask = Pool (record { pool = pool; ask = ask })

pub pool_asks : (conf : Conf) (workers : ℕ) (p q : PassView) (t : ℕ) (pool : List ℕ) (ask form : PoolAsk) → ask ≡ form → Reaches conf workers p q (turns_at t (next_of conf (call_on pool form))) → Reaches conf workers p q (turns_at t (next_of conf (call_on pool ask)))
pool_asks conf workers p q t pool ask form is r = call_asks conf workers p q t (call_on pool ask) (call_on pool form) (ap (call_on pool) is) r

pub pool_tells : (conf : Conf) (workers : ℕ) (p q : PassView) (t : ℕ) (pool : List ℕ) (ask form : PoolAsk) (out new : List ℕ) → ask ≡ form → Tells conf workers p q (turns_at t (next_of conf (call_on pool form))) (λ replies. out ++ pool_text form replies) new
    → Tells conf workers p q (turns_at t (next_of conf (call_on pool ask))) (λ replies. out ++ pool_text ask replies) new
pool_tells conf workers p q t pool ask form out new is told = call_tells conf workers p q t (call_on pool ask) (call_on pool form) out new (ap (call_on pool) is) told

-- a call that asks this one request
pub pool_told_once : (conf : Conf) (workers : ℕ) (p q : PassView) (t : ℕ) (pool : List ℕ) (ask form : PoolAsk) (r s : Request) (y : Reply) (out new : List ℕ) → ask ≡ form → r ≡ s → GoesOn conf workers p q (wish_at t r ∷ []) (y ∷ [])
    → turns_at t (next_of conf (call_on pool form)) [] ≡ Takes (wish_at t s) → turns_at t (next_of conf (call_on pool form)) (y ∷ []) ≡ Over [] → new ≡ out ++ pool_text form (y ∷ [])
    → Tells conf workers p q (turns_at t (next_of conf (call_on pool ask))) (λ replies. out ++ pool_text ask replies) new
pool_told_once conf workers p q t pool ask form r s y out new is same g first over text =
    told_once conf workers p q t (call_on pool ask) (call_on pool form) (wish_at t s) y out new (ap (call_on pool) is) (asked_as conf workers p q t r s y same g) first over text

-- where only that was asked
pub pool_asked_once : (conf : Conf) (workers : ℕ) (p q : PassView) (t : ℕ) (pool : List ℕ) (ask form : PoolAsk) (r s : Request) (y : Reply) → ask ≡ form → r ≡ s → GoesOn conf workers p q (wish_at t r ∷ []) (y ∷ [])
    → turns_at t (next_of conf (call_on pool form)) [] ≡ Takes (wish_at t s) → Reaches conf workers p q (turns_at t (next_of conf (call_on pool ask)))
pool_asked_once conf workers p q t pool ask form r s y is same g first =
    pool_asks conf workers p q t pool ask form is (one_asked conf workers p q (turns_at t (next_of conf (call_on pool form))) (wish_at t s) y (asked_as conf workers p q t r s y same g) first)

-- the key of the cache is that of the call's key
pub own_is : (pool : List ℕ) (ask form : PoolAsk) (own key : List ℕ) → ask ≡ form → key_in_cache pool form ≡ Some (pool_key pool key) → key_in_cache pool ask ≡ Some own → own ≡ pool_key pool key
own_is pool ask form own key is formed has = same_Some own (pool_key pool key) (sym has ∙ (ap (key_in_cache pool) is ∙ formed))

-- ---- sets

-- a value was stored, or not
pub put_stored : (conf : Conf) (workers : ℕ) (p q : PassView) (t : ℕ) (key : List ℕ) (value : List Kind) (life : Option ℕ) (ttl : ℕ) (done : Bool) → life ≡ Some ttl → GoesOn conf workers p q (wish_at t (requests.Store key value ttl false) ∷ []) (Flag done ∷ [])
    → (y : Reply) × GoesOn conf workers p q (wish_at t (put_as key value life) ∷ []) (y ∷ []) × (done ≡ put_done life y)
put_stored conf workers p q t key value life ttl done is g =
    subst (λ (l : Option ℕ). (y : Reply) × GoesOn conf workers p q (wish_at t (put_as key value l) ∷ []) (y ∷ []) × (done ≡ put_done l y)) (sym is) (Flag done, g, refl)

-- a key was deleted, whether it was there or not
pub put_deleted : (conf : Conf) (workers : ℕ) (p q : PassView) (t : ℕ) (key : List ℕ) (value : List Kind) (life : Option ℕ) (there : Bool) → life ≡ None → GoesOn conf workers p q (wish_at t (requests.Delete key) ∷ []) (Flag there ∷ [])
    → (y : Reply) × GoesOn conf workers p q (wish_at t (put_as key value life) ∷ []) (y ∷ []) × (true ≡ put_done life y)
put_deleted conf workers p q t key value life there is g =
    subst (λ (l : Option ℕ). (y : Reply) × GoesOn conf workers p q (wish_at t (put_as key value l) ∷ []) (y ∷ []) × (true ≡ put_done l y)) (sym is) (Flag there, g, refl)

put_cases : (b : Bool) (n : ℕ) (key : List ℕ) (value : List Kind) → cond b (requests.Store key value n false) (requests.Delete key) ≡ put_as key value (cond b (Some n) None)
put_cases true n key value = refl
put_cases false n key value = refl

pub set_is_put : (pool : List ℕ) (ttl : ℤ) (pair : List ℕ × List Kind) → set_of pool pair ttl ≡ put_of pool (life_of ttl) pair
set_is_put pool ttl pair = put_cases (int_lt (pos 0) ttl) (nat_abs ttl) (pool_key pool pair.0) pair.1

sets_are_puts : (pool : List ℕ) (ttl : ℤ) (pairs : List (List ℕ × List Kind)) → map (λ pair. set_of pool pair ttl) pairs ≡ map (put_of pool (life_of ttl)) pairs
sets_are_puts pool ttl [] = refl
sets_are_puts pool ttl (pair ∷ pairs) = ap₂ (λ (r : Request) (rs : List Request). r ∷ rs) (set_is_put pool ttl pair) (sets_are_puts pool ttl pairs)

all_deleted : (replies : List Reply) → list_all (put_done None) replies ≡ true
all_deleted [] = refl
all_deleted (reply ∷ replies) = all_deleted replies

one_text : (b : Bool) (n : ℕ) (reply : Reply) → flag_text (put_done (cond b (Some n) None) reply) ≡ cond b (flag_text (is_done reply)) (flag_text true)
one_text true n reply = refl
one_text false n reply = refl

all_text : (b : Bool) (n : ℕ) (replies : List Reply) → flag_text (list_all (put_done (cond b (Some n) None)) replies) ≡ cond b (all_done_text replies) (flag_text true)
all_text true n replies = refl
all_text false n replies = ap flag_text (all_deleted replies)

-- what a set of one key prints
pub set_text : (key : List ℕ) (value : List Kind) (ttl : ℤ) (reply : Reply) → flag_text (put_done (life_of ttl) reply) ≡ pool_text (Set key value ttl) (reply ∷ [])
set_text key value ttl reply = one_text (int_lt (pos 0) ttl) (nat_abs ttl) reply

pub sets_ask : (conf : Conf) (workers : ℕ) (p q : PassView) (t : ℕ) (pool : List ℕ) (pairs : List (List ℕ × List Kind)) (ttl : ℤ) (life : Option ℕ) → life ≡ life_of ttl
    → Reaches conf workers p q (asks_at t (map (put_of pool life) pairs)) → Reaches conf workers p q (asks_at t (map (λ pair. set_of pool pair ttl) pairs))
sets_ask conf workers p q t pool pairs ttl life is r =
    subst (λ (asked : List Request). Reaches conf workers p q (asks_at t asked)) (ap (λ (l : Option ℕ). map (put_of pool l) pairs) is ∙ sym (sets_are_puts pool ttl pairs)) r

-- what a set of several keys prints
pub sets_tell : (conf : Conf) (workers : ℕ) (p q : PassView) (t : ℕ) (pool : List ℕ) (pairs : List (List ℕ × List Kind)) (ttl : ℤ) (life : Option ℕ) (out new : List ℕ) → life ≡ life_of ttl
    → Tells conf workers p q (asks_at t (map (put_of pool life) pairs)) (λ replies. out ++ flag_text (list_all (put_done life) replies)) new
    → Tells conf workers p q (asks_at t (map (λ pair. set_of pool pair ttl) pairs)) (λ replies. out ++ pool_text (SetMany pairs ttl) replies) new
sets_tell conf workers p q t pool pairs ttl life out new is told =
    let same = ap (λ (l : Option ℕ). map (put_of pool l) pairs) is ∙ sym (sets_are_puts pool ttl pairs) in
    let turned = subst (λ (asked : List Request). Tells conf workers p q (asks_at t asked) (λ replies. out ++ flag_text (list_all (put_done life) replies)) new) same told in
    record {
      asked = turned.asked;
      over = turned.over;
      is = turned.is ∙ (ap (λ (l : Option ℕ). out ++ flag_text (list_all (put_done l) turned.asked.replies)) is
          ∙ ap (λ (text : List ℕ). out ++ text) (all_text (int_lt (pos 0) ttl) (nat_abs ttl) turned.asked.replies));
    }

both_step : (all done : Bool) (life : Option ℕ) (y : Reply) (later : List Reply) → done ≡ put_done life y → (all && list_all (put_done life) (y ∷ later)) ≡ ((all && done) && list_all (put_done life) later)
both_step true done life y later is = ap (λ (b : Bool). b && list_all (put_done life) later) (sym is)
both_step false done life y later is = refl

-- one pair more
pub put_goes_on : (conf : Conf) (workers : ℕ) (p o q : PassView) (turns : List Reply → Turn) (t : ℕ) (r : Request) (rest : List Request) (y : Reply) (life : Option ℕ) (told : List Reply → Bool) (all done now : Bool)
    → Midway conf workers p o turns (asks_at t (r ∷ rest)) told (λ later. all && list_all (put_done life) later) → GoesOn conf workers o q (wish_at t r ∷ []) (y ∷ []) → done ≡ put_done life y → now ≡ (all && done)
    → Midway conf workers p q turns (asks_at t rest) told (λ later. now && list_all (put_done life) later)
put_goes_on conf workers p o q turns t r rest y life told all done now m g is both =
    key_goes_on conf workers p o q turns t r rest y told (λ later. all && list_all (put_done life) later) (λ later. now && list_all (put_done life) later) m g
    (λ later. both_step all done life y later is ∙ ap (λ (b : Bool). b && list_all (put_done life) later) (sym both))

and_true : (b : Bool) → (b && true) ≡ b
and_true true = refl
and_true false = refl

-- all pairs were met
pub puts_end : (conf : Conf) (workers : ℕ) (p q : PassView) (turns : List Reply → Turn) (t : ℕ) (told : List Reply → Bool) (life : Option ℕ) (all : Bool)
    → Midway conf workers p q turns (asks_at t []) told (λ later. all && list_all (put_done life) later) → Tells conf workers p q turns told all
puts_end conf workers p q turns t told life all m =
    subst (λ (b : Bool). Tells conf workers p q turns told b) (and_true all) (ends conf workers p q turns (asks_at t []) told (λ later. all && list_all (put_done life) later) m refl)

-- ---- answers

found_or : (found : Option (List Kind)) (default : List Kind) → unwrap_or found default ≡ value_or_default default (fetched found)
found_or None default = refl
found_or (Some value) default = refl

pub answer_is : (found : Option (List Kind)) (default : List Kind) (y : Reply) → fetched found ≡ y → unwrap_or found default ≡ value_or_default default y
answer_is found default y is = found_or found default ∙ ap (value_or_default default) is

pub lent_or : (found : Option (Bor (List Kind))) (default : Bor (List Kind)) → (unwrap_or found default).now ≡ unwrap_or (option_map (λ g. g.now) found) default.now
lent_or None default = refl
lent_or (Some value) default = refl

-- an answer was noted
pub answer_noted : (key : List ℕ) (answer : Answer) (notes : List (List ℕ × Answer)) → answers_noted (noted key answer notes) ≡ noted key (answer_value answer) (answers_noted notes)
answer_noted key answer [] = refl
answer_noted key answer (m ∷ ms) = by (bytes_eq m.0 key) (answer_noted key answer ms)
  where
    by : (b : Bool) → answers_noted (noted key answer ms) ≡ noted key (answer_value answer) (answers_noted ms)
        → answers_noted (cond b ((key, answer) ∷ ms) (m ∷ noted key answer ms)) ≡ cond b ((key, answer_value answer) ∷ answers_noted ms) ((m.0, answer_value m.1) ∷ noted key (answer_value answer) (answers_noted ms))
    by true later = refl
    by false later = ap (λ l. (m.0, answer_value m.1) ∷ l) later

-- both parts read
pub answers_read : (l : List (Bor (List ℕ) × Answer)) → map (λ (v : Bor (List ℕ) × Answer). (v.0.now, answer_value v.1)) l ≡ answers_noted (map (λ (v : Bor (List ℕ) × Answer). (v.0.now, v.1)) l)
answers_read [] = refl
answers_read (v ∷ vs) = ap (λ l. (v.0.now, answer_value v.1) ∷ l) (answers_read vs)

pub answers_len : (notes : List (List ℕ × Answer)) → length (answers_noted notes) ≡ length notes
answers_len [] = refl
answers_len (n ∷ ns) = ap suc (answers_len ns)

pub read_len : (l : List (Bor (List ℕ) × Answer)) → length {A = List ℕ × Answer} (map (λ (v : Bor (List ℕ) × Answer). (v.0.now, v.1)) l) ≡ length l
read_len [] = refl
read_len (v ∷ vs) = ap suc (read_len vs)

-- ---- forms

-- the first key of those that are left has its form, and the others have
pub first_good : {A : Type 0} (good : A → Bool) (xs : List A) (x : A) (rest : List A) → xs ≡ x ∷ rest → list_all good xs ≡ true → (good x ≡ true) × (list_all good rest ≡ true)
first_good good xs x rest split all =
    let parts = and_parts (good x) (list_all good rest) (ap (list_all good) (sym split) ∙ all) in
    (parts.0, parts.1)
