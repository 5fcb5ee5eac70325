-- After i turns the first i bytes stand in front.
use Rattle.std.proofs.Common.{◌≡◌, ◌++◌, length, take, drop}
use Rattle.forms.specs.Hex.{hex_bytes}
use Rattle.forms.proofs.hex.decode.Given as goal

abbrev pub invariant-loop-i : goal.invariant-loop-i
invariant-loop-i l =
    (length l.out ≡ length l.initial.out) × (l.out ≡ take l.i (hex_bytes l.s) ++ drop l.i l.initial.out)
