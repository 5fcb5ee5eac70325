-- The loop ends: each turn leaves an answer's bytes fewer, which are some.
use Rattle.std.proofs.Common.{length}
use Rattle.replay.proofs.compare.answers.Given as goal

abbrev pub decreases-loop-got : goal.decreases-loop-got
decreases-loop-got g l = length l.expected
