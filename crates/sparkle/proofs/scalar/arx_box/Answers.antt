-- `arx_box` is four quarters.
use Rattle.sparkle.specs.Sparkle.{arx_box}
use Rattle.sparkle.proofs.scalar.arx_box.Goals as goal

pub returns : goal.returns
unfolding arx_box
returns c = cc
