-- `run_rows` runs `count` steps: a turn reads the row of the next step from the table, and `run_next` takes the step up.
use Rattle.std.proofs.Common.{◌≡◌, ℕ, ◌-◌, ◌<◌}
use Rattle.sparkle.specs.Sparkle.{run}
use Rattle.sparkle.specs.Lanes.{joined, rows_from}
use Rattle.sparkle.proofs.sse2.run_rows.Given as goal

abbrev pub invariant-loop-s : goal.invariant-loop-s
invariant-loop-s l = (l.s < l.count) × ((first : ℕ) → l.rows ≡ rows_from first 12 → joined l.g ≡ run 8 first l.s (joined l.initial.g))

abbrev pub decreases-loop-s : goal.decreases-loop-s
decreases-loop-s l = l.count - l.s
