-- `step` is a step: two stores are the constants, and the two calls the rest.
use Rattle.std.proofs.Common.{mod-eq_of_lt, arith}
use Rattle.std.proofs.lemmas.List.{get_or-set_other}
use Rattle.sparkle.specs.Sparkle.{constants, step}
use Rattle.sparkle.proofs.scalar.State.step.Goals as goal

pub returns : goal.returns
unfolding constants step
returns g c =
    rw (c.linear.ensures, c.boxes.ensures, c.round_constant.ensures, mod-eq_of_lt c.ranges.s.fits, get_or-set_other c.args.self.words 1 3 _ 0 (λ e. absurd (omega arith)))
