-- What is left of a cache after all its workers have ended.
use Rattle.std.specs.Prelude.{◌≡◌, ℕ, true, false, List, [], slice_get, Some}
use mathlib.Core.List.{IsPrefix}
use Rattle.seg_words.specs.declared.vec_words.VecWords.{VecWords}
use Rattle.seg_words.specs.contracts.vec_words.VecWordsWordsIn.TheImpl as held
use Rattle.apcu_model.specs.declared.conf.Conf.{Conf}
use Rattle.apcu_model.specs.declared.request.Event.{Event}
use Rattle.apcu_model.specs.Cache.{counts_of}
use Rattle.apcu_model.specs.History.{start_of, stage_of, all_legal, marks_of}
use Rattle.cache_core.specs.declared.cache.Core.{Core}
use Rattle.cache_core.specs.CoreCache.{cache_of, CacheStands}
use Rattle.pin_table.specs.Values.{PassView}
use Rattle.pin_table.specs.Events.{events_of}
use Rattle.pin_table.specs.Lists.{known_list}
use Rattle.pin_table.specs.Views.{has_worker}
use Rattle.shared_cache.specs.declared.locked_cache.Closed.{Closed}

-- The journal holds the marks of one legal history, which begins with what each of them has seen.
-- The events of each in it are its own, and no other worker has one. The counters are those of the
-- cache after it.
pub record IsClosed (conf : Conf) (workers : ℕ) (ended : List PassView) (closed : Closed)
    : Type 0 where
  pub history : List Event
  pub journal : closed.journal.marks ≡ marks_of history
  pub legal : all_legal workers (start_of conf) history ≡ true
  pub counts : closed.counts ≡ counts_of (stage_of conf history).cache
  pub seen : (k : ℕ) (b : PassView) → slice_get ended k ≡ Some b → IsPrefix b.known.seen history
  pub own : (k : ℕ) (b : PassView) → slice_get ended k ≡ Some b
      → events_of b.known.worker history ≡ b.known.own
  pub others : (w : ℕ) → has_worker w (known_list ended) ≡ false → events_of w history ≡ []

-- The same for a cache that was closed with its words. The core is the cache after that history,
-- and the words represent it. They are words of one thread, which have no windows.
pub record IsClosedWhole (conf : Conf) (workers : ℕ) (ended : List PassView) (closed : Closed)
    (core : Core) (words : VecWords) : Type 0 where
  pub is_closed : IsClosed conf workers ended closed
  pub cache : cache_of core ≡ (stage_of conf is_closed.history).cache
  pub stand : CacheStands held.ghosts core words
