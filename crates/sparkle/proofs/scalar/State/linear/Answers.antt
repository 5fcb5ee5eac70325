-- `linear` takes up a branch of the left half a turn, and then moves a branch of each half a turn.
use Rattle.std.proofs.Common.{◌≡◌, ◌*◌, ◌/◌, ℕ, refl, ap, ◌∙◌, ap₂, add-one, add-zero, arith}
use Rattle.sparkle.specs.Words.{ell}
use Rattle.sparkle.proofs.Sizes.{xored, moved, moved_all}
use Rattle.sparkle.proofs.scalar.State.linear.Goals as goal

pub loop-i-init : goal.loop-i-init
unfolding xored
loop-i-init g c = (refl, refl)

pub loop-i-preserved : goal.loop-i-preserved
unfolding xored
loop-i-preserved g c =
    let i = c.loop-i.i in
    rw (c.loop-i.invariant.0, c.loop-i.invariant.1, add-one i, add-zero (2 * i)) (refl, refl)

pub loop-i-2-init : goal.loop-i-2-init
unfolding moved
loop-i-2-init g c = refl

pub loop-i-2-preserved : goal.loop-i-2-preserved
unfolding moved
loop-i-2-preserved g c = rw (c.loop-i-2.invariant, add-one c.loop-i-2.i) refl

pub returns : goal.returns
returns g c =
    let w = c.args.self.words in
    let size = c.args.self.size in
    let n = g.row.N in
    let sums : c.loop-i.i ≡ n / 4 = omega arith in
    let turns : c.loop-i-2.i ≡ n / 4 = omega arith in
    let to_x = c.ell-to_x.ensures ∙ ap ell (c.loop-i.invariant.1 ∙ ap (xored 1 w) sums) in
    let to_y = c.ell-to_y.ensures ∙ ap ell (c.loop-i.invariant.0 ∙ ap (xored 0 w) sums) in
    c.loop-i-2.invariant ∙ ap (moved (n / 2) _ _ w) turns
    ∙ ap₂ (λ (a b : ℕ). moved (n / 2) a b w (n / 4)) to_x to_y
    ∙ moved_all n w (omega arith) size.0 size.1 size.2
