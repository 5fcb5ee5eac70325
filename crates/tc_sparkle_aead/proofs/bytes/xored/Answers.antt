-- `xored` has laid all of the xored bytes where the loop ends.
use Rattle.std.proofs.Common.{arith}
use Rattle.tc_sparkle_aead.proofs.XorLaws.{xored_end}
use Rattle.tc_sparkle_aead.proofs.bytes.xored.Goals as goal

pub returns : goal.returns
returns g c = xored_end _ _ _ c.loop-i.invariant (omega arith) c.requires.0 c.requires.1
