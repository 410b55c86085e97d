use Rattle.entry_slots.specs.RowPlaces.{place_there, place_from}
use Rattle.entry_slots.proofs.PlaceLemmas.{found_there, first_there, next_there, chain_there, in_left, in_right, unlinks_there}
use Rattle.entry_slots.proofs.laws.place_laws.Goals as goal

pub returns-clause-member : goal.returns-clause-member
returns-clause-member c = place_there

pub returns-clause-some : goal.returns-clause-some
returns-clause-some c = λ rows at h. place_from at rows h

pub returns-clause-found : goal.returns-clause-found
returns-clause-found c = found_there

pub returns-clause-first : goal.returns-clause-first
returns-clause-first c = first_there

pub returns-clause-next : goal.returns-clause-next
returns-clause-next c = next_there

pub returns-clause-chain : goal.returns-clause-chain
returns-clause-chain c = chain_there

pub returns-clause-row : goal.returns-clause-row
returns-clause-row c = λ s at h. in_left at s.rows s.removed h

pub returns-clause-removed : goal.returns-clause-removed
returns-clause-removed c = λ s at h. (in_right at s.rows s.removed h, in_right at s.unlinked s.removed h)

pub returns-clause-unlinked : goal.returns-clause-unlinked
returns-clause-unlinked c = λ s at h. in_left at s.unlinked s.removed h

pub returns-clause-unlinks : goal.returns-clause-unlinks
returns-clause-unlinks c = unlinks_there
