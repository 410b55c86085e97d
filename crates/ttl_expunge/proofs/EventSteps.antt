-- Steps of an event together with calls that only read.
use Rattle.std.proofs.Common.{◌≡◌, List, [], ℕ, sym, ◌∙◌, subst}
use Rattle.seg_words.specs.Windows.{Aside}
use Rattle.seg_words.specs.declared.segment.WordsIn.{Ghosts}
use Rattle.seg_words.specs.Kept.{Kept}
use Rattle.apcu_model.specs.Cache.{Row}
use Rattle.entry_slots.specs.declared.slots.EntrySlots.{EntrySlots}
use Rattle.entry_slots.specs.Entries.{Entries}
use Rattle.entry_slots.specs.Standing.{Stand, entries}
use Rattle.ttl_expunge.specs.ProbedRows.{AreRemoved, Drops, Moves}
use Rattle.ttl_expunge.specs.Steps.{MayDropRows, DropsRows, MovesRows}
use Rattle.ttl_expunge.proofs.ReadOnlyCalls.{stand_kept}
use Rattle.ttl_expunge.proofs.DroppedRows.{drops_none}

-- rows may be dropped after a call that only read
pub may_kept : {X R : Type 0} {gh : Ghosts X R} {old new : X} (e : EntrySlots) → Kept gh old new → MayDropRows gh e old → MayDropRows gh e new
may_kept {gh = gh} e kept may = record {
  stand = stand_kept e kept may.stand;
  refused = subst (λ (a : Aside). AreRemoved a (entries e).removed) (sym kept.aside) may.refused;
}

-- it dropped no row
pub drops_nothing : {X R : Type 0} {gh : Ghosts X R} {old new : X} (e : EntrySlots) (t : ℕ) → Kept gh old new → MayDropRows gh e old → DropsRows gh e e old new t []
drops_nothing {gh = gh} {old} {new} e t kept may = record {
  drops = drops_none (entries e) (gh.aside old) (gh.aside new) t kept.aside may.refused;
  stand = stand_kept e kept may.stand;
  rest = kept.rest;
}

-- rows that were dropped or moved after it are dropped or moved from before it
pub drops_kept : {X R : Type 0} {gh : Ghosts X R} {e e' : EntrySlots} {old begun after : X} {t : ℕ} {gone : List Row}
    → Kept gh old begun → DropsRows gh e e' begun after t gone → DropsRows gh e e' old after t gone
drops_kept {gh = gh} {e} {e'} {old} {begun} {after} {t} {gone} kept d = record {
  drops = subst (λ (a : Aside). Drops (entries e) (entries e') a (gh.aside after) t gone) kept.aside d.drops;
  stand = d.stand;
  rest = d.rest ∙ kept.rest;
}

pub moves_kept : {X R : Type 0} {gh : Ghosts X R} {e e' : EntrySlots} {old begun after : X} {t : ℕ} {seen : List Row}
    → Kept gh old begun → MovesRows gh e e' begun after t seen → MovesRows gh e e' old after t seen
moves_kept {gh = gh} {e} {e'} {old} {begun} {after} {t} {seen} kept m = record {
  moves = subst (λ (a : Aside). Moves (entries e) (entries e') a (gh.aside after) t seen) kept.aside m.moves;
  stand = m.stand;
  rest = m.rest ∙ kept.rest;
}

-- they are the same rows, if a call after it leaves the entries as they are
pub drops_as : {X R : Type 0} {gh : Ghosts X R} {e e' e'' : EntrySlots} {old last after : X} {t : ℕ} {gone : List Row}
    → DropsRows gh e e' old last t gone → entries e'' ≡ entries e' → Stand gh e'' after → Kept gh last after → DropsRows gh e e'' old after t gone
drops_as {gh = gh} {e} {e'} {e''} {old} {last} {after} {t} {gone} d same stand kept = record {
  drops = subst (λ (x : Entries). Drops (entries e) x (gh.aside old) (gh.aside after) t gone) (sym same)
      (subst (λ (a : Aside). Drops (entries e) (entries e') (gh.aside old) a t gone) (sym kept.aside) d.drops);
  stand = stand;
  rest = kept.rest ∙ d.rest;
}

-- rows that were dropped before a call that only reads are dropped till after it
pub drops_till : {X R : Type 0} {gh : Ghosts X R} {e e' : EntrySlots} {old last after : X} {t : ℕ} {gone : List Row}
    → DropsRows gh e e' old last t gone → Kept gh last after → DropsRows gh e e' old after t gone
drops_till {gh = gh} {e} {e'} {old} {last} {after} {t} {gone} d kept = record {
  drops = subst (λ (a : Aside). Drops (entries e) (entries e') (gh.aside old) a t gone) (sym kept.aside) d.drops;
  stand = stand_kept e' kept d.stand;
  rest = kept.rest ∙ d.rest;
}
