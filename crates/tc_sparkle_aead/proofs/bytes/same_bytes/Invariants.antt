-- `same_bytes` says whether two lists are the same: after some pairs, whether the bytes so far are.
use Rattle.std.proofs.Common.{◌≡◌, length, take}
use Rattle.schwaemm.specs.Bytes.{same}
use Rattle.tc_sparkle_aead.proofs.bytes.same_bytes.Given as goal

abbrev pub invariant-loop-x : goal.invariant-loop-x
invariant-loop-x l = l.equal ≡ same (take (length l.yielded) l.a) (take (length l.yielded) l.b)
