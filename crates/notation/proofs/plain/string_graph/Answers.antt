use Rattle.std.proofs.Common.{◌≡◌, ◌+◌, ◌∙◌, ℕ, List, length, ap}
use Rattle.seg_words.specs.Layout.{words_in}
use Rattle.notation.proofs.PlainValues.{string_kept}
use Rattle.notation.proofs.plain.string_graph.Goals as goal

pub from_places-requires : goal.from_places-requires
from_places-requires c =
    let words : 1 + c.from-words.result ≡ 1 + words_in (length c.in_ok-bytes.bytes) = ap (λ (n : ℕ). 1 + n) (c.from-words.ensures ∙ c.words_in.ensures ∙ ap (λ (text : List ℕ). words_in (length text)) c.as_slice.ensures.bytes) in
    string_kept c.in_ok-bytes.bytes _ c.as_slice.ensures.fits words c.new.result.items c.new.ensures.items
