use Rattle.entry_slots.proofs.RowWindows.{closed_stands, opened_stands}
use Rattle.entry_slots.proofs.laws.window_laws.Goals as goal

pub returns : goal.returns
returns c = record { closed = closed_stands; opened = opened_stands }
