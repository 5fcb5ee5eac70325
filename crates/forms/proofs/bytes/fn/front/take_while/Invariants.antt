-- The closure answers as the kind's test does.
use Rattle.std.proofs.Common.{◌≡◌}
use Rattle.forms.proofs.bytes.fn.front.take_while.Given as goal

abbrev pub ensures : goal.ensures
ensures g l r = r ≡ g.K-Kind.test l.b.entry.now.now
