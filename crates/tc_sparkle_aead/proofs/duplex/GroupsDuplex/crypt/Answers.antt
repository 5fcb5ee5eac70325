-- `crypt` xors the first words that the groups hold with the block's.
use Rattle.std.proofs.Common.{◌≡◌, length, ap, rules}
use Rattle.sparkle.specs.Sparkle.{xors}
use Rattle.sparkle.specs.Lanes.{joined}
use Rattle.sparkle.proofs.Tab.{tabbed}
use Rattle.tc_sparkle_aead.proofs.duplex.GroupsDuplex.crypt.Goals as goal

pub returns : goal.returns
unfolding joined xors
returns c =
    let h : length c.args.block ≡ 8 = search rules in
    ap (xors (joined c.args.self)) (tabbed 8 c.args.block h)
