-- `quarter` is its definition, by what the sum and the rotations ensure.
use Rattle.sparkle.specs.Words.{addw}
use Rattle.sparkle.specs.Sparkle.{quarter}
use Rattle.sparkle.proofs.scalar.quarter.Goals as goal

pub returns : goal.returns
unfolding quarter addw
returns c = cc
