-- `words_in` is the words of the bytes: the loop lays them over zeros.
use Rattle.std.proofs.Common.{◌≡◌}
use Rattle.schwaemm.specs.Bytes.{to_words}
use Rattle.tc_sparkle_aead.specs.Message.{zeros}
use Rattle.tc_sparkle_aead.proofs.Fill.{laid}
use Rattle.tc_sparkle_aead.proofs.bytes.words_in.Given as goal

abbrev pub invariant-loop-k : goal.invariant-loop-k
invariant-loop-k l = l.r ≡ laid (to_words l.bytes) (zeros 8) l.k
