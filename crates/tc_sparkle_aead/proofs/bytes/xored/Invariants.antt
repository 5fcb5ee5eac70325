-- `xored` lays bytes xored with others over zeros: after i turns the first i of them.
use Rattle.std.proofs.Common.{◌≡◌}
use Rattle.sparkle.specs.Sparkle.{xors}
use Rattle.tc_sparkle_aead.specs.Message.{zeros}
use Rattle.tc_sparkle_aead.proofs.Fill.{laid}
use Rattle.tc_sparkle_aead.proofs.bytes.xored.Given as goal

abbrev pub invariant-loop-i : goal.invariant-loop-i
invariant-loop-i g l = l.r ≡ laid (xors l.a l.b) (zeros g.row.N) l.i
