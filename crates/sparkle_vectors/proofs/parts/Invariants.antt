-- `parts` ends: each part runs at least one of the steps that are left.
use Rattle.std.proofs.Common.{◌<◌}
use Rattle.sparkle_vectors.proofs.parts.Given as goal

abbrev pub invariant-loop-run : goal.invariant-loop-run
invariant-loop-run g l = 0 < l.most

abbrev pub decreases-loop-run : goal.decreases-loop-run
decreases-loop-run g l = l.run.left
