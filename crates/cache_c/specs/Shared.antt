-- Look-ups by many callers at once, and their uses, which are counted later.
use Rattle.std.specs.Prelude.{◌≡◌, ℕ, ◌<◌, ◌≤◌, Bool, true, false, List, length, slice_index, Option, Some, None}
use Rattle.late_words.specs.Zeros.{with_zeros}
use Rattle.apcu_model.specs.Cache.{Row}
use Rattle.apcu_model.specs.Sequential.{found_in}
use Rattle.entry_slots.specs.Lists.{has_place}
use Rattle.cache_core.specs.CoreCache.{cache_of}
use Rattle.cache_core.specs.Uses.{fetched, AreFoundAt, AreMissed}
use Rattle.cache_c.specs.declared.cache.Cache.{Cache}
use Rattle.cache_c.specs.declared.asking.Answer.{Answer}
use Rattle.cache_c.specs.declared.asking.TheConstants as asking
use Rattle.cache_c.specs.declared.shared.View.{View}
use Rattle.cache_c.specs.declared.shared.Found.{Found}
use Rattle.cache_c.specs.Asked.{IsToldBy, is_short}
use Rattle.cache_c.specs.Standing.{StandsForCache, cache_words}
use Rattle.cache_c.specs.Told.{found_row}

-- what a look-up needs to know of a cache besides its words
abbrev pub view_of : Cache → View
view_of cache = record {
  slots = (cache_of cache.core).conf.slots;
  rows = length (cache_of cache.core).rows;
  len = length (cache_words cache);
}

-- The words represent the cache, this is what a look-up needs to know of it, and these are the
-- first of its words; the others are 0.
pub record IsShared (cache : Cache) (view : View) (words : List ℕ) : Type 0 where
  pub stand : StandsForCache cache
  pub is_view : view ≡ view_of cache
  pub few : length words ≤ view.len
  pub whole : with_zeros words view.len ≡ cache_words cache

-- an answer with the place of a row
abbrev pub found_by : Answer → ℕ → Found
found_by a row = record {
  kind = a.kind;
  place = a.place;
  number = a.number;
  len = a.len;
  row = row;
}

-- and the answer of it
abbrev pub answer_in : Found → Answer
answer_in found = record {
  kind = found.kind;
  place = found.place;
  number = found.number;
  len = found.len;
}

-- the place of a row, or 0 if there is none
abbrev pub place_or_0 : Option Row → ℕ
place_or_0 None = 0
place_or_0 (Some row) = row.place

-- It is the result of a fetch of the key at the moment t, with the place of the row that the fetch
-- finds.
pub record IsFoundFor (cache : Cache) (key : List ℕ) (t : ℕ) (found : Found) : Type 0 where
  pub told : is_short key ≡ true
      → IsToldBy (cache_words cache) (found_in (found_row key t (cache_of cache.core)))
      (answer_in found)
  pub too_long : is_short key ≡ false → found.kind ≡ asking.TOO_LONG
  pub row : found.row ≡ place_or_0 (found_row key t (cache_of cache.core))

-- Each place is that of a row.
pub record MayCount (cache : Cache) (places : List ℕ) : Type 0 where
  pub stand : StandsForCache cache
  pub there : (i : ℕ) → i < length places
      → has_place (slice_index places i) (cache_of cache.core).rows ≡ true

-- The cache is the one that fetches leave, one after the other: of keys whose rows are at these
-- places, and of as many others as there are misses.
pub record IsCounted (old new : Cache) (places : List ℕ) (misses t : ℕ) (done : Bool) : Type 0 where
  pub done_is : done ≡ true
  pub counted : (keys missed : List (List ℕ)) → AreFoundAt keys t (cache_of old.core) places
      → AreMissed missed t (cache_of old.core) → length missed ≡ misses
      → cache_of new.core ≡ fetched missed t (fetched keys t (cache_of old.core))
