-- Of the list of held places only its members count.
use Rattle.std.proofs.Common.{◌≡◌, ℕ, ◌&&◌, Bool, true, if◌then◌else◌, List, ◌++◌, length, map, filter, Option, Some, None, refl, ap, ◌∙◌, ◌∷◌, []}
use Rattle.std.specs.Prelude.{ℤ, false, nat_lt, is_some}
use Rattle.php_graph.specs.declared.kind.Kind.{Kind}
use Rattle.php_graph.specs.declared.kind.Kind.TheVariants as kinds
use Rattle.php_graph.specs.Size.{block_size}
use Rattle.apcu_model.specs.Conf.{most_of}
use Rattle.apcu_model.specs.declared.request.Request.{Request}
use Rattle.apcu_model.specs.declared.request.Request.TheVariants as request
use Rattle.apcu_model.specs.declared.request.Reply.TheVariants.{Flag}
use Rattle.apcu_model.specs.declared.request.StoreAnswer.TheVariants.{TooLarge, Exists, Stored}
use Rattle.apcu_model.specs.Cache.{Row, Cache, risen, has_key, gap_of}
use Rattle.apcu_model.specs.Expiry.{live_row}
use Rattle.apcu_model.specs.SlotOrder.{slot_of}
use Rattle.apcu_model.specs.Change.{Insertion, AreAlike, expired_in, is_held, leaving, left_of, spent, dropped, swept, expired_dropped, expunged, deleted, cleared, has_gap, with_room, with_row, placed, put_in, inserted}
use Rattle.apcu_model.specs.Counters.{Count, begun, counted_at}
use Rattle.apcu_model.specs.Chunks.{chunk_rows}
use Rattle.apcu_model.specs.Levels.{EntryLevel, Generator}
use Rattle.apcu_model.specs.Generators.{Filling, filling_of, filled, given_by, missed_levels, looked_for, entered}
use Rattle.apcu_model.specs.Sequential.{cache_after, reply_to, is_stored, number_reply}

module _ (held other : List ℕ) (same : AreAlike held other) where
  rows_alike : is_held held ≡ is_held other
  rows_alike = λ i (row : Row). same row.place i

  dropped_alike : (t : ℕ) (gone : List Row) (c : Cache) → dropped held t gone c ≡ dropped other t gone c
  dropped_alike t gone c = ap (λ (f : Row → Bool). let x : Cache = record c {
    rows = left_of gone c.rows;
    removed = c.removed ++ map {A = Row} {B = Row} (λ row. record row { dtime = t }) (filter f gone);
  } in x) rows_alike

  swept_alike : (c : Cache) → swept held c ≡ swept other c
  swept_alike c = ap (λ (f : Row → Bool). let x : Cache = record c { removed = filter f c.removed } in x) rows_alike

  expired_alike : (t : ℕ) (c : Cache) → expired_dropped held t c ≡ expired_dropped other t c
  expired_alike t c = dropped_alike t (spent c.conf t c.rows) c

  expunged_alike : (t : ℕ) (c : Cache) → expunged held t c ≡ expunged other t c
  expunged_alike t c = ap (λ (x : Cache). let y : Cache = record x { hits = 0; misses = 0; inserts = 0; expunges = risen c.expunges } in y) (dropped_alike t (leaving c.conf c.rows) c)

  deleted_alike : (key : List ℕ) (t : ℕ) (c : Cache) → deleted held key t c ≡ deleted other key t c
  deleted_alike key t c = ap (λ (x : Cache). if is_some (live_row key t c) then x else c) (dropped_alike t (filter (has_key key) c.rows) c)

  cleared_alike : (t : ℕ) (c : Cache) → cleared held t c ≡ cleared other t c
  cleared_alike t c = ap (λ (x : Cache). let y : Cache = record x { hits = 0; misses = 0; inserts = 0; expunges = 0 } in y) (dropped_alike t (leaving c.conf c.rows) c)

  room_alike : (n t : ℕ) (c : Cache) → with_room held n t c ≡ with_room other n t c
  room_alike n t c =
      ap (λ (first : Cache). let second = expired_dropped held t first in if has_gap n first then first else if has_gap n second then second else expunged held t second) (swept_alike c)
      ∙ (ap (λ (second : Cache). let first = swept other c in if has_gap n first then first else if has_gap n second then second else expunged held t second) (expired_alike t (swept other c))
      ∙ ap (λ (last : Cache). let first = swept other c in let second = expired_dropped other t first in if has_gap n first then first else if has_gap n second then second else last) (expunged_alike t (expired_dropped other t (swept other c))))

  placed_alike : (key : List ℕ) (graph : List Kind) (ttl t n : ℕ) (c : Cache) (place : ℕ) → placed held key graph ttl t n c place ≡ placed other key graph ttl t n c place
  placed_alike key graph ttl t n c place =
      let gone = expired_in c.conf t (slot_of c.conf key) c.rows in
      let after_sweep = dropped other t gone c in
      let new : Row = record { key = key; graph = graph; ttl = ttl; ctime = t; mtime = t; atime = t; dtime = 0; hits = 0; place = place; size = n; number = c.next_number } in
      ap (λ (after_sweep : Cache). let x : Cache = record (dropped held t (filter (has_key key) after_sweep.rows) after_sweep) { rows = with_row new after_sweep.rows; next_number = risen c.next_number; inserts = risen c.inserts } in x) (dropped_alike t gone c)
      ∙ ap (λ (y : Cache). let x : Cache = record y { rows = with_row new after_sweep.rows; next_number = risen c.next_number; inserts = risen c.inserts } in x) (dropped_alike t (filter (has_key key) after_sweep.rows) after_sweep)

  put_alike : (key : List ℕ) (graph : List Kind) (ttl t n : ℕ) (c : Cache) (place : Option ℕ) → put_in held key graph ttl t n c place ≡ put_in other key graph ttl t n c place
  put_alike key graph ttl t n c None = refl
  put_alike key graph ttl t n c (Some place) = ap (λ (x : Cache). let i : Insertion = record { answer = Stored; cache = x } in i) (placed_alike key graph ttl t n c place)

  pub inserted_alike : (key : List ℕ) (graph : List Kind) (ttl : ℕ) (exclusive : Bool) (t : ℕ) (c : Cache) → inserted held key graph ttl exclusive t c ≡ inserted other key graph ttl exclusive t c
  inserted_alike key graph ttl exclusive t c =
      let n = block_size (length key) graph in
      ap (λ (room : Cache). if nat_lt (most_of c.conf) n then record { answer = TooLarge; cache = c } else if exclusive && is_some (live_row key t c) then record { answer = Exists; cache = c } else put_in held key graph ttl t n room (gap_of room n)) (room_alike n t c)
      ∙ ap (λ (put : Insertion). if nat_lt (most_of c.conf) n then record { answer = TooLarge; cache = c } else if exclusive && is_some (live_row key t c) then record { answer = Exists; cache = c } else put) (put_alike key graph ttl t n (with_room other n t c) (gap_of (with_room other n t c) n))

  count_alike : (key : List ℕ) (step : ℤ) (ttl t : ℕ) (c : Cache) (o : Option Row) → counted_at held key step ttl t c o ≡ counted_at other key step ttl t c o
  count_alike key step ttl t c (Some row) = refl
  count_alike key step ttl t c None = ap (begun step) (inserted_alike key (kinds.Int step ∷ []) ttl false t c)

  filled_alike : (value : List Kind) (t : ℕ) (levels : List EntryLevel) (c : Cache) → filled held value t levels c ≡ filled other value t levels c
  filled_alike value t [] c = refl
  filled_alike value t (level ∷ levels) c =
      ap (λ (f : Filling). filling_of (inserted held level.key value level.ttl true t f.cache)) (filled_alike value t levels c)
      ∙ ap filling_of (inserted_alike level.key value level.ttl true t (filled other value t levels c).cache)

  pub entered_alike : (g : Generator) (t : ℕ) (c : Cache) → entered held g t c ≡ entered other g t c
  entered_alike g t c = filled_alike (given_by g t c) t (missed_levels g.levels t c) (looked_for g.levels t c)

  pub cache_alike : (t : ℕ) (r : Request) (c : Cache) → cache_after held t r c ≡ cache_after other t r c
  cache_alike t (request.Store key graph ttl exclusive) c = ap (λ (i : Insertion). i.cache) (inserted_alike key graph ttl exclusive t c)
  cache_alike t (request.Delete key) c = deleted_alike key t c
  cache_alike t (request.Inc key step ttl) c = ap (λ (n : Count). n.cache) (count_alike key step ttl t c (live_row key t c))
  cache_alike t (request.Entry g) c = ap (λ (f : Filling). f.cache) (entered_alike g t c)
  cache_alike t request.Clear c = cleared_alike t c
  cache_alike t (request.ChunkDelete wanted from size) c = dropped_alike t (chunk_rows wanted t c from size) c
  cache_alike t _ c = refl

  pub reply_alike : (t : ℕ) (r : Request) (c : Cache) → reply_to held t r c ≡ reply_to other t r c
  reply_alike t (request.Store key graph ttl exclusive) c = ap (λ (i : Insertion). Flag (is_stored i.answer)) (inserted_alike key graph ttl exclusive t c)
  reply_alike t (request.Inc key step ttl) c = ap (λ (n : Count). number_reply n.number) (count_alike key step ttl t c (live_row key t c))
  reply_alike t _ c = refl
