-- `horizontal_xor` is the xor of the lanes in each of them.
use Rattle.sparkle.proofs.LaneLaws.{fold_lanes}
use Rattle.sparkle.proofs.sse2.horizontal_xor.Goals as goal

pub returns : goal.returns
returns c =
    rw (c.xor4.ensures, c.shuffle4-2.ensures, c.xor4-paired.ensures, c.shuffle4.ensures)
    (fold_lanes c.args.v)
