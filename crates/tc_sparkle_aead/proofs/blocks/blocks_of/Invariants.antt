-- `blocks_of` meets its contract: the invariant is `Run`, at the sizes of the state.
use Rattle.tc_sparkle_aead.proofs.BlockRuns.{Run}
use Rattle.tc_sparkle_aead.proofs.blocks.blocks_of.Given as goal

abbrev pub invariant-loop-i : goal.invariant-loop-i
invariant-loop-i g l =
    Run g.S.Duplex.params l.fn.mode.big l.fn.mode.mask l.write (g.S.Duplex.state l.initial.state) l.input l.initial.output l.output (g.S.Duplex.state l.state) l.i
