-- What finds in the entries of a cache.
use Rattle.std.proofs.Common.{◌≡◌, ℕ, List, sym, ap, ◌∙◌}
use Rattle.seg_words.specs.declared.segment.WordsIn.{Ghosts}
use Rattle.apcu_model.specs.SlotOrder.{slot_of}
use Rattle.entry_slots.specs.Entries.{Entries}
use Rattle.entry_slots.specs.Finding.{Finds}
use Rattle.entry_slots.specs.Standing.{entries}
use Rattle.entry_slots.specs.declared.finding.Finder.{Finder}
use Rattle.cache_core.specs.declared.cache.Core.{Core}
use Rattle.cache_core.specs.Finding.{FindsLive}

pub finds_of : {X R : Type 0} {gh : Ghosts X R} {core : Core} {finder : Finder} {seg : X} {key : List ℕ} {slot : ℕ} → FindsLive gh core finder seg key slot → Finds gh core.slots finder seg
finds_of f = record { stand = f.stand.stand; slots = f.slots ∙ sym (ap (λ (x : Entries). x.conf.slots) f.stand.whole); rows = f.rows }

pub slot_is : {X R : Type 0} {gh : Ghosts X R} {core : Core} {finder : Finder} {seg : X} {key : List ℕ} {slot : ℕ} → FindsLive gh core finder seg key slot → slot ≡ slot_of (entries core.slots).conf key
slot_is {key = key} f = f.slot_is ∙ sym (ap (λ (x : Entries). slot_of x.conf key) f.stand.whole)
