-- `shuffle4` picks the lanes that the control names.
use Rattle.std.proofs.Common.{◌≡◌, ◌/◌, ◌%◌, [], ◌∷◌, get_or, arith}
use Rattle.sparkle.specs.Lanes.{shuffled}
use Rattle.sparkle.proofs.sse2.shuffle4.Goals as goal

pub returns : goal.returns
unfolding shuffled
returns c =
    let v = c.args.v in
    let n = c.args.control in
    let e : n ≡ n / 1 = omega arith in
    λ k. get_or v (e k % 4) 0 ∷ (get_or v (n / 4 % 4) 0 ∷ (get_or v (n / 16 % 4) 0 ∷ (get_or v (n / 64 % 4) 0 ∷ [])))
