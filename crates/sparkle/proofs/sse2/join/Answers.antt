-- `join` gives the words in their order.
use Rattle.std.proofs.Common.{refl}
use Rattle.sparkle.specs.Lanes.{joined}
use Rattle.sparkle.proofs.sse2.join.Goals as goal

pub returns : goal.returns
unfolding joined
returns c = refl
