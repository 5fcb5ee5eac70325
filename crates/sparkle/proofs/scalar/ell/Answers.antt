-- `ell` is its definition, by what `rotate_right` ensures.
use Rattle.std.proofs.Common.{refl}
use Rattle.sparkle.specs.Words.{ell}
use Rattle.sparkle.proofs.scalar.ell.Goals as goal

pub returns : goal.returns
unfolding ell
returns c = rw c.rotate_right.ensures refl
