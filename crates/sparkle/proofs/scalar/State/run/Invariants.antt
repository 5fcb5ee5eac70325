-- `run` runs one step a turn.
use Rattle.std.proofs.Common.{◌≡◌, ◌/◌}
use Rattle.sparkle.specs.Sparkle.{run}
use Rattle.sparkle.proofs.scalar.State.run.Given as goal

abbrev pub invariant-loop-i : goal.invariant-loop-i
invariant-loop-i g l = l.state.words ≡ run (g.row.N / 2) l.first l.i l.initial.state.words
