-- What is left when all workers have played their scripts.
use Rattle.std.specs.Prelude.{◌≡◌, ◌≢◌, ℕ, List, ◌++◌, Some}
use Rattle.std.specs.List.{AllByRecursion}
use Rattle.seg_words.specs.declared.vec_words.VecWords.{VecWords}
use Rattle.seg_words.specs.contracts.vec_words.VecWordsWordsIn.TheImpl as held
use Rattle.apcu_model.specs.declared.conf.Conf.{Conf}
use Rattle.apcu_model.specs.declared.row_info.Counts.{Counts}
use Rattle.apcu_model.specs.declared.journal.Mark.{Mark}
use Rattle.apcu_model.specs.Cache.{counts_of}
use Rattle.cache_core.specs.declared.cache.Core.{Core}
use Rattle.cache_core.specs.CoreCache.{cache_of, CacheStands}
use Rattle.script_read.specs.declared.script.Step.{Step}
use Rattle.script_read.specs.Play.{Play, played, IsCompletePlay}
use Rattle.reply_text.specs.Lines.{texts_of}

-- The journal can be played from its first mark to its last, and then no worker wants anything. The
-- texts have the lines of each worker's calls, for the replies of that play: each is that of the
-- single-threaded cache at its mark's place. The counters are those of the cache after it.
pub record IsPlayed (conf : Conf) (scripts : List (List Step)) (journal : List Mark)
    (texts : List (List ℕ)) (counts : Counts) : Type 0 where
  pub play : Play
  pub plays : played conf scripts journal ≡ Some play
  pub complete : IsCompletePlay conf scripts journal
  pub texts_are : texts ≡ texts_of conf scripts play.replies
  pub counts_are : counts ≡ counts_of play.stage.cache

-- The same, and the core is the cache after that very play, and the words represent it. They are
-- words of one thread, which have no windows.
pub record IsLeftByPlay (conf : Conf) (scripts : List (List Step)) (journal : List Mark)
    (texts : List (List ℕ)) (counts : Counts) (core : Core) (words : VecWords) : Type 0 where
  pub is_played : IsPlayed conf scripts journal texts counts
  pub cache : cache_of core ≡ is_played.play.stage.cache
  pub stand : CacheStands held.ghosts core words

-- The first marks are all of this worker, and no later one is.
pub record ComeFirst (worker : ℕ) (journal : List Mark) : Type 0 where
  pub own : List Mark
  pub others : List Mark
  pub journal_is : journal ≡ own ++ others
  pub all_own : AllByRecursion (λ (mark : Mark). mark.worker ≡ worker) own
  pub none_later : AllByRecursion (λ (mark : Mark). mark.worker ≢ worker) others
