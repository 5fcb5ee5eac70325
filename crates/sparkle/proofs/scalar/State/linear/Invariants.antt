-- `linear` takes up a branch of the left half a turn, and then moves a branch of each half a turn.
use Rattle.std.proofs.Common.{◌≡◌, ◌/◌}
use Rattle.sparkle.proofs.Sizes.{xored, moved}
use Rattle.sparkle.proofs.scalar.State.linear.Given as goal

abbrev pub invariant-loop-i : goal.invariant-loop-i
invariant-loop-i g l = (l.x ≡ xored 0 l.old l.i) × (l.y ≡ xored 1 l.old l.i)

abbrev pub invariant-loop-i-2 : goal.invariant-loop-i-2
invariant-loop-i-2 g l = l.words ≡ moved (g.row.N / 2) l.to_x l.to_y l.old l.i
