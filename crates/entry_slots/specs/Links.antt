-- The words that link a chain.
use Rattle.std.specs.Prelude.{◌≡◌, ◌⊎◌, ℕ, ◌+◌, true, List, [], ◌∷◌, ◌++◌, slice_index}
use Rattle.apcu_model.specs.Cache.{Row}
use Rattle.entry_slots.specs.declared.head.TheConstants.{NEXT}
use Rattle.entry_slots.specs.Lists.{has_place}
use Rattle.entry_slots.specs.Entries.{Entries, chain_of}
use Rattle.entry_slots.specs.Standing.{IsRowChain}

-- the word that names the row after these rows, in a chain that begins at the word `first`
abbrev pub link_after : ℕ → List Row → ℕ
link_after first [] = first
link_after first (row ∷ rows) = link_after (row.place + NEXT) rows

-- The word `link` of the chain that begins at the word `first` names the row at `target`; if that
-- is 0, it is the chain's last word.
pub record IsLinkTo (words : List ℕ) (first : ℕ) (chain : List Row) (target link : ℕ) : Type 0 where
  pub front : List Row
  pub back : List Row
  pub split : chain ≡ front ++ back
  pub follows : link ≡ link_after first front
  pub word : slice_index words link ≡ target
  pub rest : IsRowChain words target back

-- the chain has a row at this place, or the place is 0
abbrev pub IsTarget : Entries → ℕ → ℕ → Type 0
IsTarget s slot target = (target ≡ 0) ⊎ (has_place target (chain_of s slot) ≡ true)

-- The head of the list of removed rows is kept outside the words. Its word `link` names the row at
-- `target`, or if that is 0 it is the list's last word; link 0 is the head of the list.
pub record IsRemovedLink (words : List ℕ) (removed : List Row) (target link : ℕ) : Type 0 where
  pub front : List Row
  pub back : List Row
  pub split : removed ≡ front ++ back
  pub follows : ((front ≡ []) × (link ≡ 0))
      ⊎ ((first : Row) × (rows : List Row) × (front ≡ first ∷ rows)
      × (link ≡ link_after (first.place + NEXT) rows))
  pub rest : IsRowChain words target back
