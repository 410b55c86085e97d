use Rattle.std.proofs.Common.{sym, ap, ◌∙◌, ◌&&◌}
use Rattle.std.proofs.lemmas.Bool.{lt-ltb}
use Rattle.seg_words.specs.Windows.{has}
use Rattle.seg_words.proofs.RefusedPlaces.{any_has}
use Rattle.cache_c.proofs.seat_words.is_named.Goals as goal

pub returns-then-at-gt0 : goal.returns-then-at-gt0
returns-then-at-gt0 c =
    c.contains.ensures.value ∙ any_has c.args.at c.args.seats.now
    ∙ sym (ap (λ b. b && has c.args.at c.args.seats.now) (lt-ltb 0 c.args.at c.if-at-gt0.true))
