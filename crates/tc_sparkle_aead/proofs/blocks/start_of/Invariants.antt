-- `start_of` lays the left half of the start over an array that has the rest of it.
use Rattle.std.proofs.Common.{◌≡◌, ◌+◌, take}
use Rattle.tc_sparkle_aead.specs.Message.{sized, in_array, start_words}
use Rattle.tc_sparkle_aead.proofs.Fill.{laid}
use Rattle.tc_sparkle_aead.proofs.blocks.start_of.Given as goal

abbrev pub invariant-loop-i : goal.invariant-loop-i
invariant-loop-i g l =
    l.words ≡ laid (in_array 16 (start_words (sized (g.row.RATE + g.row.KEY) g.row.RATE 0 0) (take g.row.KEY l.key))) l.initial.words l.i
