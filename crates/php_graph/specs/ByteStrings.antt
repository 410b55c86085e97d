-- Byte strings.
pub use Rattle.byte_box.specs.ByteStrings.{AreBytes}
