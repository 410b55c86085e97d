use Rattle.std.proofs.Common.{refl}
use Rattle.value_image.proofs.Images.{image-stands, stands-image, length-image_of}
use Rattle.value_image.proofs.laws.images_are_runs.Goals as goal

pub returns : goal.returns
returns c = record {
  run = image-stands;
  image = λ row at g graph h. stands-image row at _ g graph refl h;
  long = length-image_of;
}
