-- `put_words` writes the bytes of the words one behind the other: after k turns those of the first k stand there.
use Rattle.std.proofs.Common.{◌≡◌, take}
use Rattle.schwaemm.specs.Bytes.{to_bytes}
use Rattle.tc_sparkle_aead.specs.Message.{written}
use Rattle.tc_sparkle_aead.proofs.bytes.put_words.Given as goal

abbrev pub invariant-loop-k : goal.invariant-loop-k
invariant-loop-k l = l.output ≡ written (to_bytes (take l.k l.words)) l.initial.output
