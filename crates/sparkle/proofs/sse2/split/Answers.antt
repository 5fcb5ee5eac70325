-- `split` loses nothing: the array is written out.
use Rattle.sparkle.specs.Lanes.{joined}
use Rattle.sparkle.proofs.Tab.{tabbed}
use Rattle.sparkle.proofs.sse2.split.Goals as goal

pub returns : goal.returns
unfolding joined
returns c = tabbed 16 c.args.w c.well_formed.0.1.0.1
