use Rattle.std.proofs.Common.{◌≡◌, ◌+◌, ◌∙◌, ℕ, List, length, ap}
use Rattle.seg_words.specs.Layout.{words_in}
use Rattle.notation.proofs.PlainValues.{string_kept}
use Rattle.script_read.proofs.drawing.string_of.Goals as goal

pub from_places-requires : goal.from_places-requires
from_places-requires c =
    let words : 1 + c.from-words.result ≡ 1 + words_in (length c.from_vec-bytes.result) = ap (λ (n : ℕ). 1 + n) (c.from-words.ensures ∙ c.words_in.ensures ∙ ap (λ (text : List ℕ). words_in (length text)) c.as_slice.ensures.bytes) in
    string_kept c.from_vec-bytes.result _ c.as_slice.ensures.fits words c.new.result.items c.new.ensures.items
