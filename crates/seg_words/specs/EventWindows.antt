-- Words whose blocks are held for workers: the windows of an event, and how they are related to its
-- mask.
use Rattle.std.specs.Prelude.{◌≡◌, ℕ, ◌/◌, ◌%◌, ◌<◌, ◌==◌, if◌then◌else◌, List, [], ◌∷◌, bit_or}
use Rattle.seg_words.specs.Windows.{Aside, holders}

-- the windows when an event with this mask begins: what is held for each of its workers, and 0 for
-- all others
abbrev pub opened_for : ℕ → List ℕ → List ℕ
opened_for mask [] = []
opened_for mask (at ∷ held) = (if mask % 2 == 1 then at else 0) ∷ opened_for (mask / 2) held

-- what is kept besides the words when such an event begins: no place is refused
abbrev pub event_begun : ℕ → List ℕ → Aside
event_begun mask held = record { windows = opened_for mask held; mask = mask; refused = [] }

-- each worker that has a window is in the mask
abbrev pub AreMet : ℕ → List ℕ → Type 0
AreMet mask windows = (at : ℕ) → 0 < at → bit_or mask (holders windows at) ≡ mask
