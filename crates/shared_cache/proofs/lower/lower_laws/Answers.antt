use Rattle.shared_cache.proofs.lower.lower_laws.Goals as goal

pub returns : goal.returns
returns c = record {
  rule = c.rule_laws.ensures;
  windows = c.window_laws.ensures;
  standing = c.standing_laws.ensures;
  more = c.one_event_more.ensures;
  alike = c.held_alike.ensures;
  keep = c.events_keep.ensures;
  numbered = c.numbered.ensures;
}
