-- `show_all` ends: each step of the run goes further on in the file.
use Rattle.std.proofs.Common.{◌-◌, length}
use Rattle.calls.proofs.show_all.Given as goal

abbrev pub decreases-loop-r : goal.decreases-loop-r
decreases-loop-r g l = length l.file - l.r.at
