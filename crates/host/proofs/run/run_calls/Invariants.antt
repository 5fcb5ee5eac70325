-- The loop keeps `Walking`.
use Prim.Native.Nat.{◌≤◌}
use lib.ListN.{length, drop}
use Rattle.host.specs.CallList.{run_calls}
use Rattle.host.proofs.RunLaws.{Walking}
use Rattle.host.proofs.run.run_calls.Given as goal

abbrev pub invariant-loop-rest : goal.invariant-loop-rest
invariant-loop-rest l =
    record {
      within : length l.rest ≤ length l.list;
      walking : Walking (run_calls (length l.list) (drop 1 l.list) l.initial.engine (length l.initial.answers)) l.rest l.initial.answers l.answers l.engine l.used;
    }

abbrev pub decreases-loop-rest : goal.decreases-loop-rest
decreases-loop-rest l = length l.rest
