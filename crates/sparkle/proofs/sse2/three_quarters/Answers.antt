-- `three_quarters` has the boxes but for their last quarter.
use Rattle.sparkle.proofs.LaneLaws.{box-lanes}
use Rattle.sparkle.proofs.sse2.three_quarters.Goals as goal

pub returns : goal.returns
returns c =
    let one = c.quarter4-first in
    let two = c.quarter4-second in
    let three = c.third4 in
    box-lanes c.args.rc c.args.x c.args.y one.result.x one.result.y two.result.x two.result.y
    three.result.x three.result.y one.ensures.0 one.ensures.1 two.ensures.0 two.ensures.1
    three.ensures.0 three.ensures.1
