-- The two forms of a byte string.
use Rattle.std.specs.Prelude.{◌≡◌, Bool, true, ◌<◌, ◌+◌, ℕ, List, length}
use Rattle.std.specs.declared.alloc.Global.{Global}
use Rattle.byte_box.specs.ByteStrings.{AreBytes}
use Rattle.byte_box.specs.declared.block.Base.{Base}
use Rattle.byte_box.specs.declared.block.Deed.{Deed}
use Rattle.byte_box.specs.declared.string.Form.{Form}
use Rattle.byte_box.specs.declared.string.Form.TheVariants.{Short, Long}

abbrev pub bytes_of : Form → List ℕ
bytes_of (Short bytes) = bytes
bytes_of (Long told spare len base alloc deed) = deed.items

-- the numbers are those of the block that the deed owns. If its capacity is not known, there is no
-- block to free
pub record IsInBlock (told : Bool) (spare : ℕ) (len : ℕ) (base : Base ℕ) (alloc : Global) (deed : Deed ℕ Global) : Type 0 where
  pub at : base.ptr ≡ deed.at
  pub counts : len ≡ length deed.items
  pub many : 14 < len
  pub room : told ≡ true → len + spare ≡ deed.cap
  pub allocator : alloc ≡ deed.alloc
  pub bytes : AreBytes deed.items

abbrev pub IsSound : Form → Type 0
IsSound (Short bytes) = Unit {0}
IsSound (Long told spare len base alloc deed) = IsInBlock told spare len base alloc deed
