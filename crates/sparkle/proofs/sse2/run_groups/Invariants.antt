-- `run_groups` runs twelve steps a turn and then those that are left. The code's table is the rows of steps 0 to 11.
use Rattle.std.proofs.Common.{◌≡◌, ◌+◌, ◌-◌, ◌%◌, ◌<◌, ◌≤◌}
use Rattle.sparkle.specs.Sparkle.{run}
use Rattle.sparkle.specs.Lanes.{joined, rows_from}
use Rattle.sparkle.proofs.sse2.run_groups.Given as goal

abbrev pub invariant-loop-first : goal.invariant-loop-first
invariant-loop-first l =
    (12 ≤ l.first) × (l.first % 12 ≡ 0) × (l.first < l.count + 12) × (l.rows ≡ rows_from (l.first - 12) 12)
    × (run 8 (l.first - 12) (l.count - (l.first - 12)) (joined l.g) ≡ run 8 0 l.count (joined l.initial.g))
