-- `boxes` runs a box on one branch a turn.
use Rattle.std.proofs.Common.{◌≡◌, ◌/◌, refl, ap, ◌∙◌, add-one, arith}
use Rattle.sparkle.specs.Sparkle.{rcon}
use Rattle.sparkle.proofs.Sizes.{boxed, boxed_all}
use Rattle.sparkle.proofs.scalar.State.boxes.Goals as goal

pub loop-i-init : goal.loop-i-init
unfolding boxed
loop-i-init g c = refl

pub loop-i-preserved : goal.loop-i-preserved
unfolding boxed rcon
loop-i-preserved g c = rw (c.arx_box-b.ensures, c.loop-i.invariant, add-one c.loop-i.i) refl

pub returns : goal.returns
returns g c =
    let w = c.args.self.words in
    let size = c.args.self.size in
    let e : c.loop-i.i ≡ g.row.N / 2 = omega arith in
    c.loop-i.invariant ∙ ap (boxed w) e
    ∙ boxed_all g.row.N w (omega arith) size.0 size.1 size.2
