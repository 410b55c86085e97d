-- Bytes that were appended before there was no more memory.
use Rattle.std.specs.Prelude.{◌≡◌, ℕ, List, ◌++◌, Option, Some, None}
use Rattle.php_graph.specs.declared.key.Key.{Key}
use Rattle.php_graph.specs.declared.child.Child.{Child}
use Rattle.notation.specs.Notation.{key_text}

-- the first bytes of what is there now are those that were there
pub record Extends (before now : List ℕ) : Type 0 where
  pub added : List ℕ
  pub is : now ≡ before ++ added

-- the key of a member was appended, and what the member holds is returned; nothing if there is no
-- member
abbrev pub MemberStep : Option (Key × Child) → Option Child → List ℕ → List ℕ → Type 0
MemberStep None held before now = (held ≡ None) × (now ≡ before)
MemberStep (Some m) held before now = (held ≡ Some m.1) × (now ≡ before ++ key_text m.0)
