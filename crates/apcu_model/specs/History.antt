-- Events, and which workers still copy a value after them.
use Rattle.std.specs.Prelude.{◌≡◌, ℕ, ◌^◌, ◌==◌, ◌&&◌, ◌||◌, not, nat_lt, if◌then◌else◌, Bool, true}
use Rattle.std.specs.Prelude.{false, List, [], ◌∷◌, ◌++◌, length, map, filter, Option, Some, None}
use Rattle.std.specs.Prelude.{is_some, nat_le}
use Rattle.std.specs.Prelude.{Contains}
use Rattle.std.specs.Int.{bit_at}
use Rattle.std.specs.List.{list_any, list_all, range_with_len}
use Rattle.std.specs.Map.{lookup}
use Rattle.php_graph.specs.declared.kind.Kind.{Kind}
use Rattle.php_graph.specs.declared.kind.Kind.TheVariants as kinds
use Rattle.apcu_model.specs.declared.conf.Conf.{Conf}
use Rattle.apcu_model.specs.declared.request.Event.{Event}
use Rattle.apcu_model.specs.declared.journal.Mark.{Mark}
use Rattle.apcu_model.specs.declared.request.Request.{Request}
use Rattle.apcu_model.specs.declared.request.Request.TheVariants.{Entry, Fetch}
use Rattle.apcu_model.specs.declared.request.Reply.{Reply}
use Rattle.apcu_model.specs.Levels.{most_levels}
use Rattle.apcu_model.specs.Cache.{Row, Cache, empty_cache}
use Rattle.apcu_model.specs.Expiry.{live_row}
use Rattle.apcu_model.specs.Sequential.{reply_to, cache_after}

-- After some events: the cache, and for each worker whose last event fetched a value that is copied
-- outside the lock, the number of that row.
pub record Stage : Type 0 where
  pub cache : Cache
  pub windows : List (ℕ × ℕ)

abbrev pub start_of : Conf → Stage
start_of conf = record { cache = empty_cache conf; windows = [] }

-- the number of the row that the worker's last event fetched
abbrev pub window_of : Stage → ℕ → Option ℕ
window_of m worker = lookup (λ v. v == worker) m.windows

abbrev pub is_in_mask : ℕ → ℕ → Bool
is_in_mask mask worker = bit_at mask worker == 1

-- a worker of the mask copies the row of this number
abbrev pub is_copied : ℕ → Stage → ℕ → Bool
is_copied mask m number = list_any (λ w. is_in_mask mask w.0 && w.1 == number) m.windows

-- the places of the rows and removed rows that workers of the mask copy
abbrev pub held_places : Stage → ℕ → List ℕ
held_places m mask =
    map {A = Row} (λ row. row.place)
    (filter (λ row. is_copied mask m row.number) (m.cache.rows ++ m.cache.removed))

-- Of `workers` workers, a mask is legal for an event of one if each of its workers is another one
-- that has a window.
abbrev pub is_legal_mask : ℕ → ℕ → Stage → ℕ → Bool
is_legal_mask workers worker m mask =
    nat_lt mask (2 ^ 64)
    && list_all
    (λ v. not (is_in_mask mask v)
    || (not (v == worker) && nat_lt v workers && is_some (window_of m v)))
    (range_with_len 0 64)

-- null, a boolean and an integer are returned under the lock, and never copied outside it
abbrev pub is_scalar_kind : Kind → Bool
is_scalar_kind kinds.Null = true
is_scalar_kind (kinds.Bool b) = true
is_scalar_kind (kinds.Int n) = true
is_scalar_kind _ = false

-- whether a value's first place is such a one
abbrev pub is_scalar : List Kind → Bool
is_scalar [] = false
is_scalar (kind ∷ places) = is_scalar_kind kind

-- the window that a look-up opens
abbrev pub opened_at : ℕ → Option Row → List (ℕ × ℕ)
opened_at worker None = []
opened_at worker (Some row) = if is_scalar row.graph then [] else (worker, row.number) ∷ []

-- the window that a request opens
abbrev pub opened : ℕ → ℕ → Request → Cache → List (ℕ × ℕ)
opened worker t (Fetch key) c = opened_at worker (live_row key t c)
opened worker t _ c = []

abbrev pub reply_in : Stage → Event → Reply
reply_in m e = reply_to (held_places m e.mask) e.t e.request m.cache

-- the next event of a worker closes its window and may open another
abbrev pub after_event : Stage → Event → Stage
after_event m e = record {
  cache = cache_after (held_places m e.mask) e.t e.request m.cache;
  windows = opened e.worker e.t e.request m.cache ++ filter (λ w. not (w.0 == e.worker)) m.windows;
}

abbrev pub after_events : Stage → List Event → Stage
after_events m [] = m
after_events m (e ∷ events) = after_events (after_event m e) events

-- after these events, from an empty cache on
abbrev pub stage_of : Conf → List Event → Stage
stage_of conf history = after_events (start_of conf) history

-- each event's mask is legal at its place
abbrev pub all_legal : ℕ → Stage → List Event → Bool
all_legal workers m [] = true
all_legal workers m (e ∷ events) =
    is_legal_mask workers e.worker m e.mask && all_legal workers (after_event m e) events

-- an entry has no more levels than allowed: so one event makes at most eight insertions
abbrev pub is_shallow : Request → Bool
is_shallow (Entry g) = nat_le (length g.levels) most_levels
is_shallow _ = true

abbrev pub are_shallow : List Event → Bool
are_shallow [] = true
are_shallow (e ∷ events) = is_shallow e.request && are_shallow events

abbrev pub mark_of : Event → Mark
mark_of e = record { worker = e.worker; mask = e.mask }

-- the journal of these events
abbrev pub marks_of : List Event → List Mark
marks_of events = map mark_of events

-- Rows and removed rows of one number have one place, each worker has one window, and a row of
-- which a window is holds no value that is returned under the lock.
pub record IsNumbered (m : Stage) : Type 0 where
  pub one : (w : ℕ × ℕ) → Contains m.windows w → window_of m w.0 ≡ Some w.1
  pub numbers : (p q : Row) → Contains (m.cache.rows ++ m.cache.removed) p
      → Contains (m.cache.rows ++ m.cache.removed) q → p.number ≡ q.number → p.place ≡ q.place
  pub whole : (w : ℕ × ℕ) (row : Row) → Contains m.windows w
      → Contains (m.cache.rows ++ m.cache.removed) row → row.number ≡ w.1
      → is_scalar row.graph ≡ false
