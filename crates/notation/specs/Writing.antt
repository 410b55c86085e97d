-- Writing a value without recursion: what was begun and is still to be ended.
use Rattle.std.specs.Prelude.{◌≡◌, ℕ, suc, ◌-◌, ◌<◌, ◌≤◌, List, [], ◌∷◌, ◌++◌, length, map, drop}
use Rattle.std.specs.Prelude.{Option, Some}
use Rattle.php_graph.specs.declared.child.Child.{Child}
use Rattle.php_graph.specs.declared.kind.Kind.{Kind}
use Rattle.php_graph.specs.Graph.{kind_at, child_end, ends_after, levels}
use Rattle.notation.specs.Notation.{child_text}
use Rattle.notation.specs.Parts.{members_of, frame_text}
use Rattle.notation.specs.declared.writing.Frame.{Frame}

-- what is still to be written of the containers that were begun, the innermost first
abbrev pub pending : ℕ → List Kind → List Frame → List ℕ
pending base g [] = []
pending base g (f ∷ outer) =
    frame_text (child_text (levels - suc (length outer)) base g) f.next (kind_at g f.place)
    ++ pending base g outer

-- the members from this one on end somewhere
abbrev pub HasEnd : (Child → ℕ → Option ℕ) → List Child → Type 0
HasEnd end cs = (m : ℕ) × (e : ℕ) × (ends_after end cs m ≡ Some e)

pub record IsBegun (g : List Kind) (f : Frame) (level : ℕ) : Type 0 where
  pub kind : Kind
  pub there : kind_at g f.place ≡ Some kind
  pub ended : HasEnd (child_end level g) (map (λ m. m.1) (drop f.next (members_of kind)))

abbrev pub AreBegun : List Kind → List Frame → Type 0
AreBegun g [] = Unit {0}
AreBegun g (f ∷ outer) = IsBegun g f (levels - suc (length outer)) × AreBegun g outer

-- a member's value ends somewhere
pub record EndsSomewhere (level : ℕ) (g : List Kind) (c : Child) : Type 0 where
  pub from : ℕ
  pub to : ℕ
  pub ends : child_end level g c from ≡ Some to

-- What a member holds was begun: what was written before and is still to be written are unchanged,
-- with its text between them.
pub record IsChildBegun (base : ℕ) (g : List Kind) (c : Child) (before after : List Frame)
    (old new : List ℕ) : Type 0 where
  pub written : new ++ pending base g after
      ≡ old ++ (child_text (levels - length before) base g c ++ pending base g before)
  pub begun : AreBegun g before → AreBegun g after
  pub longer : length old ≤ length new

-- One more step was made: what is written, with what is still to be written, is unchanged.
pub record IsStepMade (base : ℕ) (g : List Kind) (before after : List Frame) (old new : List ℕ)
    : Type 0 where
  pub written : new ++ pending base g after ≡ old ++ pending base g before
  pub begun : AreBegun g after
  pub longer : length old < length new
