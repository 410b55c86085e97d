use Rattle.std.proofs.Common.{◌+◌, length, refl}
use Rattle.value_image.proofs.Runs.{stands-at, stands-front, stands-back}
use Rattle.value_image.proofs.laws.runs_stand.Goals as goal

pub returns : goal.returns
returns c = record {
  words = stands-at;
  front = stands-front;
  back = λ row at xs ys h. stands-back row at xs ys (at + length xs) h refl;
}
