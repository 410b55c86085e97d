-- A row of up to 32 flags as one number, which has a bit for each flag.
use Rattle.std.specs.Prelude.{◌≡◌, ℕ, ◌+◌, ◌^◌, ◌<◌, ◌≤◌, Bool, true, false}

-- the t-th is the last flag that is set, of the first `count`
pub record IsTopFlag (flag : ℕ → Bool) (count t : ℕ) : Type 0 where
  pub inside : t < count
  pub set_is : flag t ≡ true
  pub last : (j : ℕ) → t < j → j < count → flag j ≡ false

-- The number is 0 if none of the first `count` flags is set, and its highest bit is that of the
-- last one that is set.
pub record IsMarked (flag : ℕ → Bool) (count marks : ℕ) : Type 0 where
  pub below : marks < 2 ^ count
  pub none : marks ≡ 0 → (j : ℕ) → j < count → flag j ≡ false
  pub top : (t : ℕ) → 2 ^ t ≤ marks → marks < 2 ^ (t + 1) → IsTopFlag flag count t
