use Rattle.notation.proofs.PrefixFreeTexts.{texts_apart}
use Rattle.notation.proofs.laws.texts_tell_values_apart.Goals as goal

pub returns : goal.returns
returns c = λ base g h x y low one other text. texts_apart c.integer_texts.ensures.read base g h x y low one other text
