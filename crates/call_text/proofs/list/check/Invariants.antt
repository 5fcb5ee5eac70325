-- The lines from the loop's place on decide the file's check; each turn is one line.
use Rattle.std.proofs.Common.{◌≡◌, ◌+◌, ◌-◌, ◌≤◌, length, drop}
use Rattle.call_text.specs.List.{lines_of, check_calls, check_file}
use Rattle.call_text.proofs.list.check.Given as goal

abbrev pub invariant-loop-at : goal.invariant-loop-at
invariant-loop-at l =
    (check_file l.file ≡ check_calls l.v l.k (lines_of (drop l.at l.file))) × (l.at ≤ length l.file) × (l.k ≤ l.at + 2)

abbrev pub decreases-loop-at : goal.decreases-loop-at
decreases-loop-at l = length l.file - l.at
