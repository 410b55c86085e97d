use Rattle.value_image.proofs.PackedByteLemmas.{length-words_of, words_of-apart, unpacked}
use Rattle.value_image.proofs.laws.bytes_are_packed.Goals as goal

pub returns : goal.returns
returns c = record { long = length-words_of; apart = words_of-apart; back = λ bytes rest fits. unpacked bytes rest fits.1 }
