-- A cache behind a pointer.
use Rattle.std.specs.Prelude.{◌≡◌, ℕ, ◌<◌, ◌^◌, Bool, List, Option, Some, None, drop}
use Rattle.std.specs.Borrow.{full_share}
use Rattle.std.specs.Ptr.{lies_at, room_at}
use base.Fml.{Fml, fsep, fex, ftrue}
use denote.RawPtr.{Ptr}
use denote.Array.{Array}
use denote.Builtin.{u8}
use denote.Slice.{Room}
use Rattle.cache_c.specs.declared.cache.Cache.{Cache}
use Rattle.cache_c.specs.declared.asking.Ask.{Ask}
use Rattle.cache_c.specs.declared.asking.Answer.{Answer}
use Rattle.cache_c.specs.declared.counts.ToldCounts.{ToldCounts}
use Rattle.cache_c.specs.declared.counts.Gap.{Gap}
use Rattle.cache_c.specs.declared.rows.ToldRow.{ToldRow}
use Rattle.cache_c.specs.declared.rows.Listing.{Listing}
use Rattle.cache_c.specs.contracts.counts.Gap.{the_row as gap_type}
use Rattle.cache_c.specs.contracts.rows.ToldRow.{the_row as row_type}
use Rattle.cache_c.specs.contracts.cache.Cache.{the_row}
use Rattle.cache_c.specs.Standing.{StandsForCache, StandsUnchanged, LeavesHeld, cache_words}
use Rattle.cache_c.specs.declared.shared.View.{View}
use Rattle.cache_c.specs.Shared.{view_of, MayCount, IsCounted}
use Rattle.cache_c.specs.declared.making.Shape.{Shape}
use Rattle.cache_c.specs.declared.making.TheConstants.{MADE}
use Rattle.cache_c.specs.Asked.{asked_for, IsAnswered, HasCopied, HasLetGo, KeepsSeats, MayAsk}
use Rattle.cache_c.specs.Made.{conf_of, IsEmpty, IsRefusal}
use Rattle.cache_c.specs.Told.{counts_told, found_row, rows_of, gaps_from}
use Rattle.cache_c.specs.Told.{IsFoundBy, AreListedBy, AreListsBy, AreGapsBy}
use Rattle.apcu_model.specs.Infos.{gaps_of}
use Rattle.cache_core.specs.CoreCache.{cache_of}

-- there is a cache
abbrev pub lies : Ptr → Cache → Fml
lies at cache = lies_at the_row full_share at cache

-- and its words represent it
abbrev pub stands_at : Ptr → Cache → Fml
stands_at at cache = fsep (lies at cache) (fex (StandsForCache cache) (λ _. ftrue))

-- and the request has the hash of its key
abbrev pub asks_at : Ptr → Cache → Ask → List ℕ → Fml
asks_at at cache ask key = fsep (lies at cache) (fex (MayAsk cache ask key) (λ _. ftrue))

-- The cache is still there, and this call was its last event, with the given request and the reply
-- that the answer stands for; or the answer says that there was none, and nothing changed. What
-- seats held has not moved, and a seat that is taken holds the string of the answer.
abbrev pub has_asked : Cache → Ptr → Ask → List ℕ → List ℕ → Answer → Fml
has_asked old at ask key bytes answer = fex Cache (λ new. fsep (stands_at at new)
    (fex (IsAnswered old new ask.t (asked_for ask key bytes) answer
    × KeepsSeats ask old new answer) (λ _. ftrue)))

-- The cache is still there, and the seat is empty.
abbrev pub has_let_go : Cache → Ptr → ℕ → Bool → Fml
has_let_go old at seat done = fex Cache (λ new. fsep (stands_at at new)
    (fex (HasLetGo old new seat done) (λ _. ftrue)))

-- room for a cache
abbrev pub room : Ptr → Fml
room at = room_at the_row at

-- The number says that a cache was made, and it is there, empty; or it says why none was, and the
-- room is returned.
abbrev pub is_told : Shape → Ptr → ℕ → Option Cache → Fml
is_told shape at number (Some cache) =
    fsep (stands_at at cache)
    (fex ((number ≡ MADE) × IsEmpty (conf_of shape) cache) (λ _. ftrue))
is_told shape at number None = fsep (room at) (fex (IsRefusal shape number) (λ _. ftrue))

abbrev pub is_given : Shape → Ptr → ℕ → Fml
is_given shape at number = fex (Option Cache) (λ made. is_told shape at number made)

-- there are this many bytes
abbrev pub bytes_at : Ptr → ℕ → List ℕ → Fml
bytes_at at len bytes =
    fsep (lies_at (Array u8 len) full_share at bytes) (fex (len < 2 ^ 63) (λ _. ftrue))

-- The cache is there, unchanged, and the caller's memory holds what was copied.
abbrev pub has_copied : Cache → List ℕ → Ptr → ℕ → Ptr → ℕ → Bool → Fml
has_copied old before at place out len done =
    fex (Cache × List ℕ) (λ new. fsep (stands_at at new.0) (fsep (bytes_at out len new.1)
    (fex (StandsUnchanged old new.0 × HasCopied (cache_words old) place before new.1 done)
    (λ _. ftrue))))

-- The cache is there, unchanged, and this holds of it.
abbrev pub has_told : Cache → Ptr → (Cache → Type 0) → Fml
has_told old at Told = fex Cache (λ new. fsep (stands_at at new)
    (fex (StandsUnchanged old new × Told new) (λ _. ftrue)))

-- the same for its counters
abbrev pub has_counted : Cache → Ptr → ToldCounts → Fml
has_counted old at counts = has_told old at (λ new. counts ≡ counts_told (cache_of old.core))

-- for the row of a key
abbrev pub has_found : Cache → Ptr → List ℕ → ℕ → ToldRow → Fml
has_found old at key t row = has_told old at (λ new. IsFoundBy (cache_words new) (cache_of old.core)
    key (found_row key t (cache_of old.core)) row)

-- there are this many rows
abbrev pub rows_at : Ptr → ℕ → List ToldRow → Fml
rows_at at room rows =
    fsep (lies_at (Array row_type room) full_share at rows) (fex (Room row_type room) (λ _. ftrue))

-- The cache is there, unchanged, and the caller's memory has the rows of a list.
abbrev pub has_listed : Cache → List ToldRow → Ptr → ℕ → ℕ → Ptr → ℕ → ℕ → Fml
has_listed old before at slot skip out room count =
    fex (Cache × List ToldRow) (λ new. fsep (stands_at at new.0) (fsep (rows_at out room new.1)
    (fex (StandsUnchanged old new.0 × AreListedBy (cache_words new.0) slot
    (drop skip (rows_of (cache_of old.core) slot)) before new.1 count) (λ _. ftrue))))

-- the same for the rows of several lists
abbrev pub has_lists : Cache → List ToldRow → Ptr → ℕ → ℕ → Ptr → ℕ → Listing → Fml
has_lists old before at from to out room listing =
    fex (Cache × List ToldRow) (λ new. fsep (stands_at at new.0) (fsep (rows_at out room new.1)
    (fex (StandsUnchanged old new.0 × AreListsBy (cache_words new.0) (cache_of old.core) from to
    before new.1 listing) (λ _. ftrue))))

-- there are this many gaps
abbrev pub gaps_at : Ptr → ℕ → List Gap → Fml
gaps_at at room gaps =
    fsep (lies_at (Array gap_type room) full_share at gaps) (fex (Room gap_type room) (λ _. ftrue))

-- The cache is there, unchanged, and the caller's memory has its gaps.
abbrev pub has_gaps : Cache → List Gap → Ptr → ℕ → Ptr → ℕ → ℕ → Fml
has_gaps old before at from out room count =
    fex (Cache × List Gap) (λ new. fsep (stands_at at new.0) (fsep (gaps_at out room new.1)
    (fex (StandsUnchanged old new.0 × AreGapsBy (gaps_from from (gaps_of (cache_of old.core)))
    before new.1 count) (λ _. ftrue))))

-- The cache is there, unchanged, and this is what a look-up needs to know of it.
abbrev pub has_view : Cache → Ptr → View → Fml
has_view old at view = has_told old at (λ new. view ≡ view_of old)

-- There is a cache whose rows are at these places.
abbrev pub counts_at : Ptr → Cache → List ℕ → Fml
counts_at at cache places = fsep (lies at cache) (fex (MayCount cache places) (λ _. ftrue))

-- The cache is still there, the look-ups were counted, and what seats held has not moved.
abbrev pub has_used : Cache → Ptr → List ℕ → ℕ → ℕ → Bool → Fml
has_used old at places misses t done = fex Cache (λ new. fsep (stands_at at new)
    (fex (LeavesHeld old new × IsCounted old new places misses t done) (λ _. ftrue)))
