-- A pool's events are those that its calls asked.
use Rattle.std.proofs.Common.{◌≡◌, ◌⊎◌, ℕ, length, drop, nat_eq, nat_le, ◌&&◌, ◌||◌, ◌==◌, Bool, true, false, not, cond, List, [], ◌∷◌, ◌++◌, filter, Option, Some, None, is_some, refl, sym, ap, ap₂, ◌∙◌, subst, inl, inr, arith}
use Rattle.std.specs.List.{list_all, list_any, AllByRecursion, starts_with}
use Rattle.std.proofs.lemmas.Bool.{and_parts, and_from, or_left, or_cases, not-true, false≢true, false_from_ne_true, le-leb, ltb-true}
use Rattle.std.proofs.lemmas.Bool.Decides.{Decides-eqb}
use Rattle.std.proofs.lemmas.Slice.Eq.{starts_is, bytes_eq-Decides}
use Rattle.std.proofs.lemmas.List.{drop_at}
use Rattle.apcu_model.specs.declared.conf.Conf.{Conf}
use Rattle.apcu_model.specs.declared.request.Event.{Event}
use Rattle.apcu_model.specs.declared.request.Request.{Request}
use Rattle.apcu_model.specs.declared.request.Request.TheVariants as request
use Rattle.apcu_model.specs.declared.searching.Pattern.{Pattern}
use Rattle.apcu_model.specs.History.{Stage, start_of, reply_in, after_event}
use Rattle.simple_pool.specs.Names.{is_good_name, is_good_key, braced, pool_key}
use Rattle.simple_pool.specs.Requests.{pool_step}
use Rattle.pool_laws.specs.PoolKeys.{is_key_of, holds_text, is_pattern_of}
use Rattle.pool_laws.specs.Pools.{is_of_pool, named_keys, is_left_alone, is_store_lost, are_stored, ClearsPool, AreOfPools, are_bytes, events_of_pool, answered_from, map_answers, LeavesAlone, StandsAlone}
use Rattle.pool_laws.specs.Calls.{Asked, is_this_pool, is_by, HasPoolForm, HavePoolForms, asked_events, is_untouched, is_deleting_walk, is_pools_walk, are_kept, AreOfBytes, CallsLeaveAlone, told_from, CallsStandAlone}
use Rattle.pool_laws.proofs.BracedNames.{key_holds, names_apart, pattern_matches, small_braced}
use Rattle.pool_laws.proofs.LiteralSearches.{is_small}

-- ---- a pool's own key

pub own_key : (name key : List ℕ) → is_good_key key ≡ true → is_key_of name (pool_key name key) ≡ true
own_key name key good =
    let whole = pool_key name key in
    and_from (starts_with nat_eq whole (braced name)) (is_good_key (drop (length (braced name)) whole))
    ((starts_is Decides-eqb whole (braced name) (starts_with nat_eq whole (braced name)) refl).1 key refl)
    (ap is_good_key (drop_at (braced name) key (length (braced name)) refl) ∙ good)

pub small_are_bytes : (xs : List ℕ) → list_all is_small xs ≡ true → are_bytes xs ≡ true
small_are_bytes [] h = refl
small_are_bytes (x ∷ xs) h =
    let parts = and_parts (is_small x) (list_all is_small xs) h in
    and_from (nat_le x 255) (are_bytes xs) (le-leb x 255 (let l = ltb-true x 128 parts.0 in omega (arith, l))) (small_are_bytes xs parts.1)

pub bytes-append : (xs ys : List ℕ) → are_bytes xs ≡ true → are_bytes ys ≡ true → are_bytes (xs ++ ys) ≡ true
bytes-append [] ys h k = k
bytes-append (x ∷ xs) ys h k =
    let parts = and_parts (nat_le x 255) (are_bytes xs) h in
    and_from (nat_le x 255) (are_bytes (xs ++ ys)) parts.0 (bytes-append xs ys parts.1 k)

-- two pools have one pattern only if they are the same
pub same_pattern : (name other : List ℕ) (wanted : Option Pattern) → is_good_name name ≡ true → is_good_name other ≡ true → is_pattern_of name wanted ≡ true → is_pattern_of other wanted ≡ true → other ≡ name
same_pattern name other wanted good fine mine theirs =
    let key = pool_key name (97 ∷ []) in
    let own = own_key name (97 ∷ []) refl in
    let bytes = bytes-append (braced name) (97 ∷ []) (small_are_bytes (braced name) (small_braced name good)) refl in
    let holds = sym (pattern_matches other wanted key fine theirs bytes) ∙ (pattern_matches name wanted key good mine bytes ∙ key_holds name key own) in
    sym (names_apart name other key good fine own holds)

-- ---- whose an event is

-- a request of the pool's form names a key of its, or is a walk
own_or_walk : (name : List ℕ) (r : Request) → is_of_pool name r ≡ true → (list_any (holds_text (braced name)) (named_keys r) ≡ true) ⊎ (is_deleting_walk r ≡ true)
own_or_walk name (request.Store key graph ttl exclusive) own = inl (or_left (holds_text (braced name) key) false (key_holds name key (and_parts (not exclusive) (is_key_of name key) own).1))
own_or_walk name (request.Fetch key) own = inl (or_left (holds_text (braced name) key) false (key_holds name key own))
own_or_walk name (request.Exists key) own = inl (or_left (holds_text (braced name) key) false (key_holds name key own))
own_or_walk name (request.Delete key) own = inl (or_left (holds_text (braced name) key) false (key_holds name key own))
own_or_walk name (request.ChunkDelete wanted from size) own = inr refl
own_or_walk name (request.Inc key step ttl) own = absurd (false≢true own)
own_or_walk name (request.Cas key expect set) own = absurd (false≢true own)
own_or_walk name (request.Entry g) own = absurd (false≢true own)
own_or_walk name request.Clear own = absurd (false≢true own)
own_or_walk name (request.KeyInfo key) own = absurd (false≢true own)
own_or_walk name (request.CacheInfo limited) own = absurd (false≢true own)
own_or_walk name (request.SmaInfo limited) own = absurd (false≢true own)
own_or_walk name (request.Chunk wanted from size list fields) own = absurd (false≢true own)
own_or_walk name (request.Totals wanted list) own = absurd (false≢true own)
own_or_walk name request.Retire own = absurd (false≢true own)

-- two pools whose calls walk alike are one
same_walk : (name other : List ℕ) (r : Request) → is_good_name name ≡ true → is_good_name other ≡ true → is_deleting_walk r ≡ true → is_of_pool name r ≡ true → is_of_pool other r ≡ true → other ≡ name
same_walk name other (request.ChunkDelete wanted from size) good fine walk mine theirs =
    same_pattern name other wanted good fine (and_parts (is_pattern_of name wanted) (size == pool_step) mine).0 (and_parts (is_pattern_of other wanted) (size == pool_step) theirs).0
same_walk name other (request.Store key graph ttl exclusive) good fine walk mine theirs = absurd (false≢true walk)
same_walk name other (request.Fetch key) good fine walk mine theirs = absurd (false≢true walk)
same_walk name other (request.Exists key) good fine walk mine theirs = absurd (false≢true walk)
same_walk name other (request.Delete key) good fine walk mine theirs = absurd (false≢true walk)
same_walk name other (request.Inc key step ttl) good fine walk mine theirs = absurd (false≢true walk)
same_walk name other (request.Cas key expect set) good fine walk mine theirs = absurd (false≢true walk)
same_walk name other (request.Entry g) good fine walk mine theirs = absurd (false≢true walk)
same_walk name other request.Clear good fine walk mine theirs = absurd (false≢true walk)
same_walk name other (request.KeyInfo key) good fine walk mine theirs = absurd (false≢true walk)
same_walk name other (request.CacheInfo limited) good fine walk mine theirs = absurd (false≢true walk)
same_walk name other (request.SmaInfo limited) good fine walk mine theirs = absurd (false≢true walk)
same_walk name other (request.Chunk wanted from size list fields) good fine walk mine theirs = absurd (false≢true walk)
same_walk name other (request.Totals wanted list) good fine walk mine theirs = absurd (false≢true walk)
same_walk name other request.Retire good fine walk mine theirs = absurd (false≢true walk)

same_name : (name : List ℕ) (pool : Option (List ℕ)) → is_this_pool name pool ≡ true → pool ≡ Some name
same_name name None h = absurd (false≢true h)
same_name name (Some other) h = ap Some ((bytes_eq-Decides other name).0 h)

-- a call of the pool made it exactly if it has the pool's form
whose : (name : List ℕ) (pool : Option (List ℕ)) (r : Request) → is_good_name name ≡ true → HasPoolForm pool r → (is_this_pool name pool || not (list_any (holds_text (braced name)) (named_keys r))) ≡ true → (is_some pool || not (is_deleting_walk r)) ≡ true
    → is_this_pool name pool ≡ is_of_pool name r
whose name pool r good tied untouched walks = go (is_this_pool name pool) refl
  where
    no_other : is_this_pool name pool ≡ false → is_of_pool name r ≡ true → (pool : Option (List ℕ)) → is_this_pool name pool ≡ false → HasPoolForm pool r → is_some pool ≡ true → is_deleting_walk r ≡ true → ⊥
    no_other off own None other tied some walk = false≢true some
    no_other off own (Some q) other tied some walk =
        false≢true (sym other ∙ (bytes_eq-Decides q name).1 (same_walk name q r good tied.0 walk own tied.1))

    go : (b : Bool) → is_this_pool name pool ≡ b → is_this_pool name pool ≡ is_of_pool name r
    go true mine =
        let tied_name = subst (λ p. HasPoolForm p r) (same_name name pool mine) tied in
        mine ∙ sym tied_name.1
    go false off = off ∙ sym (false_from_ne_true (is_of_pool name r) (λ own. elim (own_or_walk name r own) [
      | inl named ↦ elim (or_cases (is_this_pool name pool) (not (list_any (holds_text (braced name)) (named_keys r))) untouched) [
        | inl mine ↦ false≢true (sym off ∙ mine)
        | inr none ↦ false≢true (sym (not-true (list_any (holds_text (braced name)) (named_keys r)) none) ∙ named)
      ]
      | inr walk ↦ elim (or_cases (is_some pool) (not (is_deleting_walk r)) walks) [
        | inl some ↦ no_other off own pool off tied some walk
        | inr none ↦ false≢true (sym (not-true (is_deleting_walk r) none) ∙ walk)
      ]
    ]))

clears_by : (pool : Option (List ℕ)) (r : Request) → HasPoolForm pool r → (is_some pool || not (is_deleting_walk r)) ≡ true → ClearsPool r
clears_by (Some name) (request.ChunkDelete wanted from size) tied walks = (name, tied.0, tied.1)
clears_by None (request.ChunkDelete wanted from size) tied walks = absurd (false≢true walks)
clears_by pool (request.Store key graph ttl exclusive) tied walks = tt
clears_by pool (request.Fetch key) tied walks = tt
clears_by pool (request.Exists key) tied walks = tt
clears_by pool (request.Delete key) tied walks = tt
clears_by pool (request.Inc key step ttl) tied walks = tt
clears_by pool (request.Cas key expect set) tied walks = tt
clears_by pool (request.Entry g) tied walks = tt
clears_by pool request.Clear tied walks = tt
clears_by pool (request.KeyInfo key) tied walks = tt
clears_by pool (request.CacheInfo limited) tied walks = tt
clears_by pool (request.SmaInfo limited) tied walks = tt
clears_by pool (request.Chunk wanted from size list fields) tied walks = tt
clears_by pool (request.Totals wanted list) tied walks = tt
clears_by pool request.Retire tied walks = tt

-- ---- all of them

abbrev AreWhose : List ℕ → List Asked → Type 0
AreWhose name asked = AllByRecursion (λ (a : Asked). is_by name a ≡ is_of_pool name a.event.request) asked

are_whose : (name : List ℕ) (asked : List Asked) → is_good_name name ≡ true → HavePoolForms asked → list_all (is_untouched name) asked ≡ true → list_all is_pools_walk asked ≡ true → AreWhose name asked
are_whose name [] good tied keys walks = tt
are_whose name (a ∷ asked) good tied keys walks =
    let k = and_parts (is_untouched name a) (list_all (is_untouched name) asked) keys in
    let w = and_parts (is_pools_walk a) (list_all is_pools_walk asked) walks in
    (whose name a.pool a.event.request good tied.0 k.0 w.0, are_whose name asked good tied.1 k.1 w.1)

are_of_pools : (asked : List Asked) → HavePoolForms asked → list_all is_pools_walk asked ≡ true → AreOfPools (asked_events asked)
are_of_pools [] tied walks = tt
are_of_pools (a ∷ asked) tied walks =
    let w = and_parts (is_pools_walk a) (list_all is_pools_walk asked) walks in
    (clears_by a.pool a.event.request tied.0 w.0, are_of_pools asked tied.1 w.1)

left_alone : (name : List ℕ) (asked : List Asked) → AreWhose name asked → list_all (is_untouched name) asked ≡ true → list_all (λ (e : Event). is_left_alone name e.request) (asked_events asked) ≡ true
left_alone name [] whose keys = refl
left_alone name (a ∷ asked) whose keys =
    let k = and_parts (is_untouched name a) (list_all (is_untouched name) asked) keys in
    and_from (is_left_alone name a.event.request) (list_all (λ (e : Event). is_left_alone name e.request) (asked_events asked))
    (ap (λ b. b || not (list_any (holds_text (braced name)) (named_keys a.event.request))) (sym whose.0) ∙ k.0) (left_alone name asked whose.1 k.1)

stored_by : (name : List ℕ) (m : Stage) (asked : List Asked) → AreWhose name asked → are_kept name m asked ≡ true → are_stored name m (asked_events asked) ≡ true
stored_by name m [] whose kept = refl
stored_by name m (a ∷ asked) whose kept =
    let lost = is_store_lost a.event.request (reply_in m a.event) in
    let k = and_parts (not (is_by name a && lost)) (are_kept name (after_event m a.event) asked) kept in
    and_from (not (is_of_pool name a.event.request && lost)) (are_stored name (after_event m a.event) (asked_events asked))
    (ap (λ b. not (b && lost)) (sym whose.0) ∙ k.0) (stored_by name (after_event m a.event) asked whose.1 k.1)

told_alike : (name : List ℕ) (m : Stage) (asked : List Asked) → AreWhose name asked → told_from name m asked ≡ answered_from name m (asked_events asked)
told_alike name m [] whose = refl
told_alike name m (a ∷ asked) whose =
    let later = told_alike name (after_event m a.event) asked whose.1 in
    ap₂ (λ b l. cond b (reply_in m a.event ∷ l) l) whose.0 later

events_alike : (name : List ℕ) (asked : List Asked) → AreWhose name asked → events_of_pool name (asked_events asked) ≡ asked_events (filter (is_by name) asked)
events_alike name [] whose = refl
events_alike name (a ∷ asked) whose =
    ap₂ (λ b l. cond b (a.event ∷ l) l) (sym whose.0) (events_alike name asked whose.1) ∙ either (is_by name a)
  where
    either : (b : Bool) → cond b (a.event ∷ asked_events (filter (is_by name) asked)) (asked_events (filter (is_by name) asked)) ≡ asked_events (cond b (a ∷ filter (is_by name) asked) (filter (is_by name) asked))
    either true = refl
    either false = refl

pub calls_stand_alone : ((name : List ℕ) (conf : Conf) (history : List Event) → LeavesAlone name conf history → StandsAlone name conf history)
    → (name : List ℕ) (conf : Conf) (asked : List Asked) → HavePoolForms asked → AreOfBytes (asked_events asked) → CallsLeaveAlone name conf asked → CallsStandAlone name conf asked
calls_stand_alone law name conf asked tied bytes l =
    let whose = are_whose name asked l.good tied l.keys l.walks in
    told_alike name (start_of conf) asked whose
    ∙ (law name conf (asked_events asked) (record {
      good = l.good;
      no_limit = l.no_limit;
      in_order = l.in_order;
      no_expunge = l.no_expunge;
      stored = stored_by name (start_of conf) asked whose l.kept;
      no_clear = l.no_clear;
      keys = left_alone name asked whose l.keys;
      walks = are_of_pools asked tied l.walks;
      bytes = bytes;
    })
    ∙ ap (map_answers conf.slots []) (events_alike name asked whose))
