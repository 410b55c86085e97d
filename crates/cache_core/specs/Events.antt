-- What a call of one event needs of a cache over words, and what it does.
use Rattle.std.specs.Prelude.{◌≡◌, ℕ, Bool, true, false, List, Result, IfOk, OnErr}
use Rattle.seg_words.specs.declared.segment.WordsIn.{Ghosts}
use Rattle.seg_words.specs.Kept.{Kept}
use Rattle.seg_words.specs.Probing.{Goes}
use Rattle.seg_words.specs.Windows.{Aside, has, held_blocks}
use Rattle.apcu_model.specs.declared.request.Request.{Request}
use Rattle.apcu_model.specs.declared.request.Reply.{Reply}
use Rattle.apcu_model.specs.declared.request.StoreAnswer.{StoreAnswer}
use Rattle.apcu_model.specs.declared.request.StoreAnswer.TheVariants as answers
use Rattle.apcu_model.specs.Sequential.{cache_after, reply_to}
use Rattle.entry_slots.specs.Standing.{entries}
use Rattle.ttl_expunge.specs.ProbedRows.{AreHeld, AreRemoved, KeepsOpen}
use Rattle.cache_core.specs.declared.cache.Core.{Core}
use Rattle.cache_core.specs.CoreCache.{cache_of, CacheStands}

-- Rows may be dropped: only places of removed rows are refused.
pub record MayDrop {X R : Type 0} (g : Ghosts X R) (core : Core) (seg : X) : Type 0 where
  pub stand : CacheStands g core seg
  pub refused : AreRemoved (g.aside seg) (cache_of core).removed

-- A row may be added: no place is refused as long as the removed rows were not swept in this event,
-- and each of them is held once they were.
pub record MayInsert {X R : Type 0} (g : Ghosts X R) (swept : Bool) (core : Core) (seg : X)
    : Type 0 where
  pub stand : CacheStands g core seg
  pub unrefused : swept ≡ false → (b : ℕ) → has b (g.aside seg).refused ≡ false
  pub held : swept ≡ true → AreHeld (g.aside seg) (cache_of core).removed
  pub refused : AreRemoved (g.aside seg) (cache_of core).removed

-- it makes room, and so sweeps the removed rows, if it returns this
abbrev pub makes_room : StoreAnswer → Bool
makes_room answers.NoRoom = true
makes_room answers.Stored = true
makes_room answers.TooLarge = false
makes_room answers.Exists = false

-- x is what f returns for the blocks that are held, as a call leaves the windows and the mask, and
-- after each later probe of the event
abbrev pub IsBy : {A : Type 0} → Aside → (List ℕ → A) → A → Type 0
IsBy aside f x = (later : Aside) → Goes aside later → x ≡ f (held_blocks later)

-- A step of an event: its probes only close windows, the rows under those that are still open still
-- exist, the words represent the cache, and the only places that become refused are those of
-- removed rows.
pub record IsStep {X R : Type 0} (g : Ghosts X R) (old new : Core) (before after : X)
    : Type 0 where
  pub goes : Goes (g.aside before) (g.aside after)
  pub keeps : KeepsOpen (g.aside after).windows (entries old.slots) (entries new.slots)
  pub refused : AreRemoved (g.aside before) (cache_of old).removed
      → AreRemoved (g.aside after) (cache_of new).removed
  pub stand : CacheStands g new after
  pub rest : g.rest after ≡ g.rest before

-- The call was the event of this request at the moment t, and this is its reply.
pub record Does {X R : Type 0} (g : Ghosts X R) (old new : Core) (before after : X) (t : ℕ)
    (r : Request) (y : Reply) : Type 0 where
  pub reply : IsBy (g.aside after) (λ held. reply_to held t r (cache_of old)) y
  pub cache : IsBy (g.aside after) (λ held. cache_after held t r (cache_of old)) (cache_of new)
  pub step : IsStep g old new before after

-- nothing has changed
pub record IsUnchanged {X R : Type 0} (g : Ghosts X R) (old new : Core) (before after : X)
    : Type 0 where
  pub core : new ≡ old
  pub kept : Kept g before after

-- The same for a call whose result may need memory: if there is none, nothing has changed.
pub record DoesIf {X R A E : Type 0} (g : Ghosts X R) (old new : Core) (before after : X) (t : ℕ)
    (r : Request) (answer : Result A E) (y : A → Reply) : Type 0 where
  pub done : IfOk answer (λ a. Does g old new before after t r (y a))
  pub same : OnErr answer (IsUnchanged g old new before after)
