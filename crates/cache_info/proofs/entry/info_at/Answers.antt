use Rattle.std.proofs.Common.{◌∙◌}
use Rattle.cache_info.proofs.EntryHeads.{heads_alike}
use Rattle.cache_info.proofs.entry.info_at.Goals as goal

pub returns-clause-info : goal.returns-clause-info
returns-clause-info g c = λ row is.
    c.info.ensures ∙ heads_alike (g.S.WordsIn.words c.args.seg.now) (g.S.WordsIn.aside c.args.seg.now).windows c.head.result row (c.head.ensures.head row is)
