-- What is left of the shape is held against the line from where f stands.
use Rattle.std.proofs.Common.{◌≡◌, drop}
use Rattle.call_text.specs.Line.{start, compare_all}
use Rattle.call_text.proofs.line.read_shape.Given as goal

abbrev pub invariant-loop-mark : goal.invariant-loop-mark
invariant-loop-mark l = compare_all l.s start l.shape ≡ compare_all l.s l.f (drop l.mark-index l.shape)
