-- `add4` works lane by lane: its array is the definition, computed.
use Rattle.std.proofs.Common.{refl}
use Rattle.sparkle.specs.Words.{addw}
use Rattle.sparkle.specs.Lanes.{lanes2}
use Rattle.sparkle.proofs.sse2.add4.Goals as goal

pub returns : goal.returns
unfolding lanes2 addw
returns c = refl
