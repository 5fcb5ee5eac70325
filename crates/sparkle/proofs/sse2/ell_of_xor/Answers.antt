-- `ell_of_xor` is ell of the xor of the lanes: ell goes through a xor.
use Rattle.sparkle.proofs.LaneLaws.{ell-folded}
use Rattle.sparkle.proofs.Below.{below_at}
use Rattle.sparkle.proofs.Arrays.{array-words}
use Rattle.sparkle.proofs.sse2.ell_of_xor.Goals as goal

pub returns : goal.returns
returns c =
    let s = c.before in
    rw (c.horizontal_xor.ensures, c.ell4.ensures)
    (ell-folded s.args.v (below_at (array-words s.args.v _ s.well_formed.0.1.1)))
