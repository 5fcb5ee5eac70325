-- `xor_block` lays the words that are permuted over the state's, as many as the rate has.
use Rattle.std.proofs.Common.{◌≡◌}
use Rattle.tc_sparkle_aead.specs.Message.{sized, xor_block}
use Rattle.tc_sparkle_aead.proofs.Fill.{laid}
use Rattle.tc_sparkle_aead.proofs.duplex.Sponge.xor_block.Given as goal

abbrev pub invariant-loop-i : goal.invariant-loop-i
invariant-loop-i g l =
    l.mixed ≡ laid (xor_block (sized g.row.WORDS g.row.RATE g.row.SLIM g.row.BIG) l.mask l.s l.block) l.s l.i
