-- What a step of a call does to the entries.
use Rattle.entry_slots.specs.Entries.{Entries, with_taken, touched_in, with_number, unlinked_at}
use Rattle.entry_slots.specs.Entries.{dated_at, moved_at, off_at, given_at, linked, without_rows}
use Rattle.entry_slots.specs.declared.standing.Change.{Change}
use Rattle.entry_slots.specs.declared.standing.Change.TheVariants as change
use Rattle.value_image.specs.Contained.{graph_of}

abbrev pub changed : Change → Entries → Entries
changed (change.Take at n) s = with_taken at n s
changed (change.Touch at t) s = touched_in at t s
changed (change.SetInt at n t) s = with_number at n t s
changed (change.Unlink at) s = unlinked_at at s
changed (change.Date at t) s = dated_at at t s
changed (change.Move at) s = moved_at at s
changed (change.TakeOff at) s = off_at at s
changed (change.Give at) s = given_at at s
changed (change.Link at key content ttl t) s = linked at key.now (graph_of content.now) ttl t s
changed change.Clear s = without_rows s
