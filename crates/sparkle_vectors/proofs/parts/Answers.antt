-- Each part runs at least one of the steps that are left.
use Rattle.std.proofs.Common.{arith}
use Rattle.sparkle_parts.specs.Parts.{advance}
use Rattle.sparkle_vectors.proofs.parts.Goals as goal

pub loop-run-smaller : goal.loop-run-smaller
unfolding advance
loop-run-smaller g c =
    rw c.advance-run.ensures.value (omega (arith, c.loop-run.invariant, c.loop-run-test.true))
