-- n is what the digits so far say, and the others are read behind it.
use Rattle.std.proofs.Common.{◌≡◌, drop}
use Rattle.forms.specs.Decimal.{decimal_from, decimal_of}
use Rattle.forms.proofs.decimal.decimal.Given as goal

abbrev pub invariant-loop-b : goal.invariant-loop-b
invariant-loop-b l = decimal_of l.s ≡ decimal_from l.n (drop l.b-index l.s)
