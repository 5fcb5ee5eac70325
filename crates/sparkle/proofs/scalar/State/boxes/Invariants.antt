-- `boxes` runs a box on one branch a turn.
use Rattle.std.proofs.Common.{◌≡◌}
use Rattle.sparkle.proofs.Sizes.{boxed}
use Rattle.sparkle.proofs.scalar.State.boxes.Given as goal

abbrev pub invariant-loop-i : goal.invariant-loop-i
invariant-loop-i g l = l.words ≡ boxed l.initial.words l.i
