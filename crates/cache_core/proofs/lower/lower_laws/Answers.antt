use Rattle.cache_core.proofs.lower.lower_laws.Goals as goal

pub returns : goal.returns
returns c = record {
  standing = c.standing_laws.ensures;
  drops = c.drop_laws.ensures;
  counts = c.count_laws.ensures;
}
