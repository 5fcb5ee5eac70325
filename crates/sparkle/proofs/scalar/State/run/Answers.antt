-- `run` runs one step a turn, whose number counts modulo 2^32.
use Rattle.std.proofs.Common.{◌/◌, arith}
use Rattle.sparkle.specs.Sparkle.{run}
use Rattle.sparkle.proofs.Runs.{run_none, run_next_wrapped}
use Rattle.sparkle.proofs.scalar.State.run.Goals as goal

pub loop-i-init : goal.loop-i-init
loop-i-init g c = run_none (g.row.N / 2) _ 0 _ (omega arith)

pub loop-i-preserved : goal.loop-i-preserved
loop-i-preserved g c = run_next_wrapped (g.row.N / 2) c.args.first c.loop-i.i c.args.self.words c.loop-i.invariant c.step-state.ensures
