-- What follows when words represent entries.
use Rattle.std.specs.Prelude.{◌≡◌, ◌⊎◌, ℕ, ◌+◌, ◌<◌, ◌≤◌, true, false, List, ◌++◌, length}
use Rattle.std.specs.Prelude.{slice_index, count_by, Contains}
use Rattle.seg_words.specs.declared.gaps.Extent.{Extent}
use Rattle.seg_words.specs.Windows.{Aside, is_named}
use Rattle.seg_words.specs.declared.layout.TheConstants.{PIN_COUNT}
use Rattle.seg_words.specs.Blocks.{IsTold, MayProbe, image_place, image_end}
use Rattle.apcu_model.specs.Cache.{Row}
use Rattle.apcu_model.specs.Conf.{IsUsable}
use Rattle.apcu_model.specs.Rows.{are_apart}
use Rattle.entry_slots.specs.Lists.{is_at, begins_at, has_place, first_place, place_after}
use Rattle.entry_slots.specs.Entries.{Entries, chain_of, listed, unlinked_at}

-- each block that a new window names was named by an old one
abbrev pub OnlyClose : Aside → Aside → Type 0
OnlyClose old new = (at : ℕ) → is_named new.windows at ≡ true → is_named old.windows at ≡ true

-- each block except the one at `at`
abbrev pub OnlyOpensAt : ℕ → Aside → Aside → Type 0
OnlyOpensAt at old new =
    (x : ℕ) → is_named new.windows x ≡ true → (x ≡ at) ⊎ (is_named old.windows x ≡ true)

-- they are the same, or no word is in both
abbrev pub LieApart : Extent → Extent → Type 0
LieApart one other =
    (one ≡ other)
    ⊎ ((one.place + one.size ≤ other.place) ⊎ (other.place + other.size ≤ one.place))

-- What holds of all entries that words represent: the shape is one that a cache may have, no two
-- rows have the same key, no two blocks begin at one place, no row or removed row is at 0, and each
-- of them may be probed.
pub record IsSound (s : Entries) (words windows : List ℕ) : Type 0 where
  pub usable : IsUsable s.conf
  pub apart : are_apart s.rows ≡ true
  pub once : (at : ℕ) → count_by (is_at at) s.rows
      + (count_by (is_at at) s.removed
      + (count_by (is_at at) s.unlinked + count_by (begins_at at) s.taken)) ≤ 1
  pub placed : has_place 0 (listed s) ≡ false
  pub probed : (at : ℕ) → has_place at (listed s) ≡ true → MayProbe words windows at

-- A worker may copy from the block at `at`: its pin count is 0, its key and image lie inside the
-- words and overlap no other block that a window names, and the words of its image are told.
pub record IsCopyable (words windows : List ℕ) (at : ℕ) : Type 0 where
  pub positive : 0 < at
  pub zero_count : slice_index words (at + PIN_COUNT) ≡ 0
  pub inside : image_end words at ≤ length words
  pub clear : (b : ℕ) → is_named windows b ≡ true
      → (at ≡ b) ⊎ ((image_end words at ≤ b) ⊎ (image_end words b ≤ at))
  pub told : (i : ℕ) → image_place words at ≤ i → i < image_end words at → IsTold windows i

-- A walk along the chain of a slot is at this row: it has passed `front`, and `back` follows.
pub record IsAtRow (s : Entries) (slot : ℕ) (front : List Row) (row : Row) (back : List Row)
    : Type 0 where
  pub positive : 0 < row.place
  pub there : Contains s.rows row
  pub in_rows : has_place row.place s.rows ≡ true
  pub in_chain : has_place row.place (chain_of s slot) ≡ true
  pub passed : has_place row.place front ≡ false
  pub ahead : has_place row.place back ≡ false
  pub next : place_after row.place (chain_of s slot) ≡ first_place back
  -- the chain without the row
  pub unlinked : chain_of (unlinked_at row.place s) slot ≡ front ++ back
