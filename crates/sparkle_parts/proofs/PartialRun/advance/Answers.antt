-- `advance` gives an array of words and a number of 32 bits.
use Rattle.std.proofs.Common.{arith}
use Rattle.sparkle.proofs.Arrays.{array-words}
use Rattle.sparkle_parts.proofs.PartialRun.advance.Goals as goal

pub returns-clause-valid : goal.returns-clause-valid
returns-clause-valid c =
    (c.sparkle_scalar.type_inv.1.0.1, array-words c.sparkle_scalar.result _ c.sparkle_scalar.type_inv.1.1, omega arith)
