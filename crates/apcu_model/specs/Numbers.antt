-- Rows by their numbers, over the events of a history.
use Rattle.std.specs.Prelude.{◌≡◌, ℕ, ◌<◌, ◌≤◌, ◌++◌, Contains}
use Rattle.apcu_model.specs.Cache.{Row, Cache}
use Rattle.apcu_model.specs.History.{is_scalar}

-- The row is still that one, whatever its value is now: its number, key, place and size are the
-- same, and so is its time to live. A value that is null, a boolean or an integer stays one of
-- these.
pub record IsStill (was row : Row) : Type 0 where
  pub number : was.number ≡ row.number
  pub key : was.key ≡ row.key
  pub place : was.place ≡ row.place
  pub size : was.size ≡ row.size
  pub ttl : was.ttl ≡ row.ttl
  pub ctime : was.ctime ≡ row.ctime
  pub scalar : is_scalar was.graph ≡ is_scalar row.graph

-- it is a row or a removed row of the cache
abbrev pub IsIn : Cache → Row → Type 0
IsIn c row = Contains (c.rows ++ c.removed) row

-- each row and removed row has a number below the next one
abbrev pub AreBelow : Cache → Type 0
AreBelow c = (row : Row) → IsIn c row → row.number < c.next_number

-- A number is never used again: each row or removed row of the new cache that has a number of the
-- old one's existed there, and is still that one.
pub record KeepsNumbers (old new : Cache) : Type 0 where
  pub next : old.next_number ≤ new.next_number
  pub rows : (row : Row) → IsIn new row → row.number < old.next_number
      → (was : Row) × IsIn old was × IsStill was row
