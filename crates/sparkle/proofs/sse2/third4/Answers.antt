-- `third4` is the third quarter in each lane.
use Rattle.std.proofs.Common.{ℕ, ◌/◌, ◌^◌, List, ap, ◌∙◌, ap₂}
use lib.Bits.{bit_xor}
use Rattle.sparkle.specs.Words.{shlw}
use Rattle.sparkle.specs.Lanes.{lanes, lanes2}
use Rattle.sparkle.proofs.LaneLaws.{third_sum, third_y, third_above, quarter_x}
use Rattle.sparkle.proofs.sse2.third4.Goals as goal

pub returns : goal.returns
returns c =
    let x = c.args.v.x in
    let y = c.args.v.y in
    let rc = c.args.rc in
    let sum = c.add4-sum.ensures ∙ third_sum x y in (
      c.xor4.ensures ∙ ap (λ (l : List ℕ). lanes2 bit_xor l rc) sum ∙ quarter_x 0 31 x y rc,
      c.xor4-3.ensures
          ∙ ap₂ (lanes2 bit_xor)
          (c.xor4-2.ensures ∙ ap (lanes2 bit_xor y) (c.shl4-high.ensures ∙ ap (lanes (shlw 1)) sum))
          (c.shr4.ensures ∙ ap (lanes (λ v. v / 2 ^ 31)) sum)
          ∙ third_y x y rc,
    )

pub invariant_of-result : goal.invariant_of-result
invariant_of-result c =
    record {
      above =
          rw (c.xor4-4.ensures, c.xor4-3.ensures, c.shr4.ensures, c.xor4-2.ensures, c.shl4-high.ensures, c.add4-sum.ensures)
          (third_above c.args.v.t c.args.v.y c.args.v.x c.args.v.y c.args.v.above);
    }
