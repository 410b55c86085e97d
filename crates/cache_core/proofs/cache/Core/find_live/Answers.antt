use Rattle.cache_core.proofs.cache.Core.find_live.Goals as goal

pub finder-requires : goal.finder-requires
finder-requires g c = record { stand = record { words = g.S.WordsIn.words c.args.seg.now; aside = g.S.WordsIn.aside c.args.seg.now; stand = c.requires.stand } }

pub find_live_in-requires : goal.find_live_in-requires
find_live_in-requires g c = record {
  short = c.requires.short;
  finds = (c.args.self.now, record { stand = c.requires.stand; slots = c.finder.ensures.slots; rows = c.finder.ensures.rows; slot_is = c.requires.slot });
}

pub returns : goal.returns
returns g c = record {
  found = c.find_live_in.ensures.found c.args.self.now (record { stand = c.requires.stand; slots = c.finder.ensures.slots; rows = c.finder.ensures.rows; slot_is = c.requires.slot });
  none = c.find_live_in.ensures.none c.args.self.now (record { stand = c.requires.stand; slots = c.finder.ensures.slots; rows = c.finder.ensures.rows; slot_is = c.requires.slot });
  kept = c.find_live_in.ensures.kept;
}
