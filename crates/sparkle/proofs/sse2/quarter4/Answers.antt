-- `quarter4` is a quarter in each lane: the sum first, then each of the three words.
use Rattle.std.proofs.Common.{ℕ, ◌-◌, ◌/◌, ◌%◌, ◌^◌, List, ap, ◌∙◌, ap₂, arith}
use lib.Bits.{bit_xor}
use Rattle.sparkle.specs.Words.{addw, shlw}
use Rattle.sparkle.specs.Lanes.{lanes, lanes2}
use Rattle.sparkle.proofs.LaneLaws.{quarter-sum, quarter_x, quarter_y, above_low}
use Rattle.sparkle.proofs.sse2.quarter4.Goals as goal

pub returns : goal.returns
returns g c =
    let a = g.row.A in
    let b = c.args.b in
    let x = c.args.v.x in
    let y = c.args.v.y in
    let rc = c.args.rc in
    let r = c.requires in
    let sum =
    c.add4-sum.ensures
    ∙ ap₂ (lanes2 addw) (c.add4.ensures ∙ ap (lanes2 addw x) c.shl4.ensures) c.shr4.ensures
    ∙ quarter-sum a b r.0 r.1 r.2 r.3 x y c.args.v.t c.args.v.above in (
      c.xor4.ensures ∙ ap (λ (l : List ℕ). lanes2 bit_xor l rc) sum ∙ quarter_x a b x y rc,
      c.xor4-2.ensures
          ∙ ap₂ (lanes2 bit_xor)
          (c.xor4-high.ensures ∙ ap (lanes2 bit_xor y) (c.shl4-2.ensures ∙ ap (lanes (shlw ((32 - b) % 32))) sum))
          (c.shr4-2.ensures ∙ ap (lanes (λ v. v / 2 ^ (b % 32))) sum)
          ∙ quarter_y a b r.0 r.1 r.2 r.3 x y rc,
    )

pub invariant_of-result : goal.invariant_of-result
invariant_of-result g c =
    record {
      above =
          rw (c.xor4-2.ensures, c.shr4-2.ensures, c.add4-sum.ensures)
          (above_low g.row.TO c.args.b (c.args.b % 32) _ _ _ c.requires.4 (omega arith));
    }
