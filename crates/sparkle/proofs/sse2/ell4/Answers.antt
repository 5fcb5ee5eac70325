-- `ell4` is ell in each lane.
use Rattle.sparkle.proofs.LaneLaws.{ell-lanes}
use Rattle.sparkle.proofs.Below.{below_at}
use Rattle.sparkle.proofs.Arrays.{array-words}
use Rattle.sparkle.proofs.sse2.ell4.Goals as goal

pub returns : goal.returns
returns c =
    let s = c.before in
    rw (c.xor4-2.ensures, c.shr4.ensures, c.xor4.ensures, c.shl4-high.ensures)
    (ell-lanes s.args.v s.args.t s.requires (below_at (array-words s.args.v _ s.well_formed.0.1.1)))
