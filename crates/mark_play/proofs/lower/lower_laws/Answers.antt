use Rattle.mark_play.proofs.lower.lower_laws.Goals as goal

pub returns : goal.returns
returns c = record {
  windows = c.window_laws.ensures;
  standing = c.standing_laws.ensures;
  more = c.one_event_more.ensures;
  alike = c.held_alike.ensures;
  keep = c.events_keep.ensures;
  numbers = c.rows_keep_numbers.ensures;
  numbered = c.numbered.ensures;
}
