-- `shl4` shifts lane by lane: its array is the definition, computed.
use Rattle.std.proofs.Common.{refl}
use Rattle.sparkle.specs.Words.{shlw}
use Rattle.sparkle.specs.Lanes.{lanes}
use Rattle.sparkle.proofs.sse2.shl4.Goals as goal

pub returns : goal.returns
unfolding lanes shlw
returns c = refl
