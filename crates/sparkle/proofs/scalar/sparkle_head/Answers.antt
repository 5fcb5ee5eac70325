-- `sparkle_head` is a run on the first N words of the array, with the others behind it.
use Rattle.std.proofs.Common.{◌≡◌, ◌+◌, ◌/◌, ℕ, ◌++◌, take, drop, sym, ap, ◌∙◌, subst, arith}
use Rattle.sparkle.specs.Sparkle.{run, sparkle_in}
use Rattle.sparkle.proofs.Arrays.{array-words}
use Rattle.sparkle.proofs.Bounds.{sparkle-in}
use Rattle.sparkle.proofs.scalar.sparkle_head.Goals as goal

pub returns : goal.returns
returns g c =
    let b = g.row.N / 2 in
    let w = c.args.w in
    let v = c.copy_from_slice-2.new.self in
    let s = c.args.first in
    let k = c.args.count in
    let whole : b + b ≡ g.row.N = omega (arith, c.requires.2) in
    let run_on_head : v ≡ run b s k (take (b + b) w) =
    c.copy_from_slice-2.ensures.after ∙ c.run-state.ensures
    ∙ ap (run b s k) (c.copy_from_slice.ensures.after ∙ ap (λ (n : ℕ). take n w) (sym whole)) in
    subst (λ (n : ℕ). v ++ drop n w ≡ sparkle_in b s k w) whole
    (sparkle-in b s k w v (omega (arith, c.requires.1)) (array-words w _ c.well_formed.0.1.1) run_on_head)
