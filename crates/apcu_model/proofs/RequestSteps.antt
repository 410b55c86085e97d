-- What a request does to the cache is a few kinds of steps, one after another: what holds of each
-- step, and goes on from one to the next, holds of all that the request leaves.
use Rattle.std.proofs.Common.{◌≡◌, ℕ, ◌+◌, ◌-◌, ◌≤◌, ◌&&◌, ◌||◌, Bool, true, false, not, if◌then◌else◌, List, [], ◌∷◌, length, filter, Option, Some, None, inl, inr, refl, sym, subst, arith}
use Rattle.std.specs.Prelude.{ℤ, Contains, nat_lt, is_some}
use Rattle.std.specs.List.{range_with_len}
use Rattle.std.proofs.lemmas.Bool.{and_parts, or_left, or_right, leb-true, ltb-false}
use Rattle.php_graph.specs.declared.kind.Kind.{Kind}
use Rattle.php_graph.specs.declared.kind.Kind.TheVariants as kinds
use Rattle.php_graph.specs.Size.{block_size}
use Rattle.apcu_model.specs.Conf.{most_of}
use Rattle.apcu_model.specs.declared.conf.Conf.{Conf}
use Rattle.apcu_model.specs.declared.searching.Pattern.{Pattern}
use Rattle.apcu_model.specs.declared.request.Request.{Request}
use Rattle.apcu_model.specs.declared.request.Request.TheVariants as request
use Rattle.apcu_model.specs.declared.request.StoreAnswer.TheVariants as answers
use Rattle.apcu_model.specs.Cache.{Row, Cache, has_key, gap_of}
use Rattle.apcu_model.specs.Change.{dropped, expired_in, leaving, spent, swept, expired_dropped, expunged, cleared, has_gap, with_room, placed, put_in, inserted}
use Rattle.apcu_model.specs.Chunks.{chunk_end, chunk_rows, is_item, slot_items}
use Rattle.apcu_model.specs.Counters.{integer_in, integer_set, sum_of, counted_on, counted_at, is_integer, is_expected, swapped}
use Rattle.apcu_model.specs.Expiry.{is_expired, is_hard_expired, live_row}
use Rattle.apcu_model.specs.Facts.{leaving_from}
use Rattle.apcu_model.specs.Generators.{filled, given_by, missed_levels, looked_for}
use Rattle.apcu_model.specs.History.{is_shallow}
use Rattle.apcu_model.specs.Levels.{EntryLevel, most_levels}
use Rattle.apcu_model.specs.Lookups.{looked_up}
use Rattle.apcu_model.specs.PatternMatches.{key_matches}
use Rattle.apcu_model.specs.Sequential.{cache_after}
use Rattle.apcu_model.specs.SlotOrder.{is_in_slot}
use Rattle.seg_words.specs.Members.{Contains-cases, Contains-filter, Contains-first, Contains-later, flat_there, none_in_nil}

-- ---- what a request may do

-- the request may store a row under the key
abbrev pub Stores : Request → List ℕ → Type 0
Stores (request.Store key graph ttl exclusive) k = key ≡ k
Stores (request.Inc key step ttl) k = key ≡ k
Stores (request.Entry g) k = (level : EntryLevel) × Contains g.levels level × (level.key ≡ k)
Stores _ k = ⊥

-- it may set the integer of the row of the key
abbrev pub Sets : Request → List ℕ → Type 0
Sets (request.Inc key step ttl) k = key ≡ k
Sets (request.Cas key expect set) k = key ≡ k
Sets _ k = ⊥

-- the request deletes the row if it exists
abbrev pub deletes : Request → Row → Bool
deletes (request.Delete key) row = has_key key row
deletes (request.ChunkDelete wanted from size) row = key_matches wanted row.key
deletes _ row = false

-- how many rows it stores at most
abbrev pub most_new : Request → ℕ
most_new (request.Store key graph ttl exclusive) = 1
most_new (request.Inc key step ttl) = 1
most_new (request.Entry g) = length g.levels
most_new _ = 0

pub few_new : (r : Request) → is_shallow r ≡ true → most_new r ≤ 8
few_new (request.Entry g) shallow = leb-true (length g.levels) most_levels shallow
few_new _ shallow = omega arith

-- a row is dropped: its ttl has expired, or the request deletes it
pub record IsLeaving (r : Request) (t : ℕ) (c : Cache) (row : Row) : Type 0 where
  pub there : Contains c.rows row
  pub why : (is_expired c.conf t row || deletes r row) ≡ true

-- ---- the steps

-- A relation of a cache and a later one goes along each step of the request, which is answered at t
-- while the blocks at the places `held` are held. `R n c d`: at most n rows were stored from c to d.
pub record Steps (held : List ℕ) (t : ℕ) (r : Request) (R : ℕ → Cache → Cache → Type 0) : Type 0 where
  pub same : (c : Cache) → R 0 c c
  pub onward : (m n : ℕ) (a b c : Cache) → R m a b → R n b c → R (m + n) a c
  pub wider : (m n : ℕ) (c d : Cache) → m ≤ n → R m c d → R n c d
  -- rows leave
  pub sweep : (c : Cache) → R 0 c (swept held c)
  pub drop : (gone : List Row) (c : Cache) → ((row : Row) → Contains gone row → IsLeaving r t c row) → R 0 c (dropped held t gone c)
  pub expunge : (c : Cache) → R 0 c (expunged held t c)
  pub clear : (c : Cache) → r ≡ request.Clear → R 0 c (cleared held t c)
  -- a row comes
  pub place : (key : List ℕ) (graph : List Kind) (ttl : ℕ) (c : Cache) (place : ℕ) → Stores r key → block_size (length key) graph ≤ most_of c.conf
      → R 1 c (placed held key graph ttl t (block_size (length key) graph) c place)
  -- rows change
  pub look : (key : List ℕ) (o : Option Row) (c : Cache) → R 0 c (looked_up key t o c)
  pub set : (key : List ℕ) (n was : ℤ) (c : Cache) (row : Row) → Sets r key → live_row key t c ≡ Some row → integer_in row.graph ≡ Some was → R 0 c (integer_set key n t c)

-- ---- which rows leave

leaves_old : (r : Request) (t : ℕ) (c : Cache) (row : Row) → Contains c.rows row → is_expired c.conf t row ≡ true → IsLeaving r t c row
leaves_old r t c row there old = record { there = there; why = or_left (is_expired c.conf t row) (deletes r row) old }

leaves_asked : (r : Request) (t : ℕ) (c : Cache) (row : Row) → Contains c.rows row → deletes r row ≡ true → IsLeaving r t c row
leaves_asked r t c row there asked = record { there = there; why = or_right (is_expired c.conf t row) (deletes r row) asked }

spent_leave : (r : Request) (t : ℕ) (c : Cache) (row : Row) → Contains (spent c.conf t c.rows) row → IsLeaving r t c row
spent_leave r t c row h = go (nat_lt 0 c.conf.ttl) h
  where
    go : (b : Bool) → Contains (if b then leaving c.conf (filter (is_expired c.conf t) c.rows) else []) row → IsLeaving r t c row
    go true h = let k = Contains-filter (is_expired c.conf t) c.rows row (leaving_from c.conf (filter (is_expired c.conf t) c.rows) row h) in leaves_old r t c row k.0 k.1
    go false h = absurd (none_in_nil row h)

pub expired_leave : (r : Request) (t slot : ℕ) (c : Cache) (row : Row) → Contains (expired_in c.conf t slot c.rows) row → IsLeaving r t c row
expired_leave r t slot c row h =
    let k = Contains-filter (is_expired c.conf t) (filter (is_in_slot c.conf slot) c.rows) row h in
    leaves_old r t c row (Contains-filter (is_in_slot c.conf slot) c.rows row k.0).0 k.1

chunk_leaves : (wanted : Option Pattern) (t : ℕ) (c : Cache) (from size : ℕ) (row : Row) → Contains (chunk_rows wanted t c from size) row → IsLeaving (request.ChunkDelete wanted from size) t c row
chunk_leaves wanted t c from size row h =
    let slot = flat_there (slot_items wanted t c) (range_with_len from (chunk_end wanted t c from size - from)) row h in
    let item = Contains-filter (is_item wanted t) (filter (is_in_slot c.conf slot.0) c.rows) row slot.1 in
    let parts = and_parts (not (is_hard_expired t row)) (key_matches wanted row.key) item.1 in
    leaves_asked (request.ChunkDelete wanted from size) t c row (Contains-filter (is_in_slot c.conf slot.0) c.rows row item.0).0 parts.1

-- ---- one after another

missed_there : (levels : List EntryLevel) (t : ℕ) (c : Cache) (level : EntryLevel) → Contains (missed_levels levels t c) level → Contains levels level
missed_there [] t c level h = h
missed_there (first ∷ levels) t c level h = go (is_some (live_row first.key t c)) h (missed_there levels t c level)
  where
    go : (b : Bool) → Contains (if b then [] else first ∷ missed_levels levels t c) level → (Contains (missed_levels levels t c) level → Contains levels level) → Contains (first ∷ levels) level
    go true h later = absurd (none_in_nil level h)
    go false h later = elim (Contains-cases first (missed_levels levels t c) level h) [
      | inl e ↦ subst (Contains (first ∷ levels)) e (Contains-first first levels)
      | inr l ↦ Contains-later first levels level (later l)
    ]

few_missed : (levels : List EntryLevel) (t : ℕ) (c : Cache) → length (missed_levels levels t c) ≤ length levels
few_missed [] t c = omega arith
few_missed (level ∷ levels) t c =
    let rest = few_missed levels t c in
    elim (is_some (live_row level.key t c)) as (λ b. length (if b then [] else level ∷ missed_levels levels t c) ≤ length (level ∷ levels)) [
      | true ↦ omega arith
      | false ↦ omega (arith, rest)
    ]

room_conf : (held : List ℕ) (n t : ℕ) (c : Cache) → (with_room held n t c).conf ≡ c.conf
room_conf held n t c = go (has_gap n (swept held c)) (has_gap n (expired_dropped held t (swept held c)))
  where
    go : (a b : Bool) → (if a then swept held c else if b then expired_dropped held t (swept held c) else expunged held t (expired_dropped held t (swept held c))).conf ≡ c.conf
    go true b = refl
    go false true = refl
    go false false = refl

module _ (held : List ℕ) (t : ℕ) (r : Request) (R : ℕ → Cache → Cache → Type 0) (s : Steps held t r R) where
  -- a step with no new row before others
  then_on : (n : ℕ) (a b c : Cache) → R 0 a b → R n b c → R n a c
  then_on n a b c f g = s.wider (0 + n) n a c (omega arith) (s.onward 0 n a b c f g)

  either : (n : ℕ) (b : Bool) (c x y : Cache) → R n c x → R n c y → R n c (if b then x else y)
  either n true c x y f g = f
  either n false c x y f g = g

  rows_spent : (c : Cache) → R 0 c (expired_dropped held t c)
  rows_spent c = s.drop (spent c.conf t c.rows) c (spent_leave r t c)

  pub room_made : (n : ℕ) (c : Cache) → R 0 c (with_room held n t c)
  room_made n c =
      let first = swept held c in
      let second = expired_dropped held t first in
      let f = s.sweep c in
      let g = then_on 0 c first second f (rows_spent first) in
      either 0 (has_gap n first) c first (if has_gap n second then second else expunged held t second) f
      (either 0 (has_gap n second) c second (expunged held t second) g (then_on 0 c second (expunged held t second) g (s.expunge second)))

  pub row_inserted : (key : List ℕ) (graph : List Kind) (ttl : ℕ) (exclusive : Bool) (c : Cache) → Stores r key → R 1 c (inserted held key graph ttl exclusive t c).cache
  row_inserted key graph ttl exclusive c may = go (nat_lt (most_of c.conf) n) refl (exclusive && is_some (live_row key t c))
    where
      n : ℕ
      n = block_size (length key) graph

      room : Cache
      room = with_room held n t c

      none : (d : Cache) → R 0 c d → R 1 c d
      none d f = s.wider 0 1 c d (omega arith) f

      put : n ≤ most_of room.conf → (o : Option ℕ) → R 1 c (put_in held key graph ttl t n room o).cache
      put fits None = none room (room_made n c)
      put fits (Some place) = then_on 1 c room (placed held key graph ttl t n room place) (room_made n c) (s.place key graph ttl room place may fits)

      go : (a : Bool) → nat_lt (most_of c.conf) n ≡ a → (b : Bool) → R 1 c (if a then record { answer = answers.TooLarge; cache = c } else if b then record { answer = answers.Exists; cache = c } else put_in held key graph ttl t n room (gap_of room n)).cache
      go true e b = none c (s.same c)
      go false e true = none c (s.same c)
      go false e false = put (subst (λ (conf : Conf). n ≤ most_of conf) (sym (room_conf held n t c)) (omega (arith, ltb-false (most_of c.conf) n e))) (gap_of room n)

  row_counted : (key : List ℕ) (step : ℤ) (ttl : ℕ) (c : Cache) → Stores r key → Sets r key → (o : Option Row) → live_row key t c ≡ o → R 1 c (counted_at held key step ttl t c o).cache
  row_counted key step ttl c may sets None live = row_inserted key (kinds.Int step ∷ []) ttl false c may
  row_counted key step ttl c may sets (Some row) live = s.wider 0 1 c (counted_on key step t c (integer_in row.graph)).cache (omega arith) (go (integer_in row.graph) refl)
    where
      go : (o : Option ℤ) → integer_in row.graph ≡ o → R 0 c (counted_on key step t c o).cache
      go None is = s.same c
      go (Some n) is = s.set key (sum_of n step) n c row sets live is

  row_swapped : (key : List ℕ) (expect n : ℤ) (c : Cache) → Sets r key → R 0 c (swapped key expect n t c)
  row_swapped key expect n c may = go (live_row key t c) refl
    where
      at : (row : Row) → live_row key t c ≡ Some row → (o : Option ℤ) → integer_in row.graph ≡ o → R 0 c (if is_integer expect o then integer_set key n t c else c)
      at row live None is = s.same c
      at row live (Some was) is = either 0 (is_integer expect (Some was)) c (integer_set key n t c) c (s.set key n was c row may live is) (s.same c)

      go : (o : Option Row) → live_row key t c ≡ o → R 0 c (if is_expected expect o then integer_set key n t c else c)
      go None live = s.same c
      go (Some row) live = at row live (integer_in row.graph) refl

  keys_looked : (levels : List EntryLevel) (c : Cache) → R 0 c (looked_for levels t c)
  keys_looked [] c = s.same c
  keys_looked (level ∷ levels) c =
      let row = live_row level.key t c in
      let missed = looked_up level.key t None c in
      either 0 (is_some row) c (looked_up level.key t row c) (looked_for levels t missed) (s.look level.key row c)
      (then_on 0 c missed (looked_for levels t missed) (s.look level.key None c) (keys_looked levels missed))

  levels_filled : (value : List Kind) (levels : List EntryLevel) (c : Cache) → ((level : EntryLevel) → Contains levels level → Stores r level.key) → R (length levels) c (filled held value t levels c).cache
  levels_filled value [] c may = s.same c
  levels_filled value (level ∷ levels) c may =
      let inner = (filled held value t levels c).cache in
      let outer = (filled held value t (level ∷ levels) c).cache in
      s.wider (length levels + 1) (length (level ∷ levels)) c outer (omega arith)
      (s.onward (length levels) 1 c inner outer (levels_filled value levels c (λ x h. may x (Contains-later level levels x h)))
      (row_inserted level.key value level.ttl true inner (may level (Contains-first level levels))))

-- ---- all of a request

pub along : (held : List ℕ) (t : ℕ) (r : Request) (R : ℕ → Cache → Cache → Type 0) → Steps held t r R → (c : Cache) → R (most_new r) c (cache_after held t r c)
along held t (request.Store key graph ttl exclusive) R s c = row_inserted held t _ R s key graph ttl exclusive c refl
along held t (request.Fetch key) R s c = s.look key (live_row key t c) c
along held t (request.Delete key) R s c =
    let gone = filter (has_key key) c.rows in
    either held t _ R s 0 (is_some (live_row key t c)) c (dropped held t gone c) c
    (s.drop gone c (λ row h. let k = Contains-filter (has_key key) c.rows row h in leaves_asked (request.Delete key) t c row k.0 k.1))
    (s.same c)
along held t (request.Inc key step ttl) R s c = row_counted held t _ R s key step ttl c refl refl (live_row key t c) refl
along held t (request.Cas key expect set) R s c = row_swapped held t _ R s key expect set c refl
along held t (request.Entry g) R s c =
    let looked = looked_for g.levels t c in
    let missed = missed_levels g.levels t c in
    let after = (filled held (given_by g t c) t missed looked).cache in
    s.wider (length missed) (length g.levels) c after (few_missed g.levels t c)
    (then_on held t _ R s (length missed) c looked after (keys_looked held t _ R s g.levels c)
    (levels_filled held t _ R s (given_by g t c) missed looked (λ level h. (level, missed_there g.levels t c level h, refl))))
along held t request.Clear R s c = s.clear c refl
along held t (request.ChunkDelete wanted from size) R s c = s.drop (chunk_rows wanted t c from size) c (chunk_leaves wanted t c from size)
along held t _ R s c = s.same c
