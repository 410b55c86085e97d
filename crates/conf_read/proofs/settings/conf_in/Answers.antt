use Rattle.std.proofs.Common.{sym, ◌∙◌}
use Rattle.conf_read.proofs.Shapes.{good_by}
use Rattle.conf_read.proofs.settings.conf_in.Goals as goal

pub returns-clause-good : goal.returns-clause-good
returns-clause-good c =
    let words = c.in_ok-words.ensures.within in
    let count = c.in_ok-segments.ensures.within in
    let chains = c.in_ok-slots.ensures.within in
    good_by c.in_ok-words.field-0 c.in_ok-segments.field-0 c.in_ok-slots.field-0 c.in_ok-ttl.field-0 words.0 words.1 count.0 count.1 chains.0 chains.1
    (sym c.in_order.ensures ∙ c.if-not-in_order.false)
