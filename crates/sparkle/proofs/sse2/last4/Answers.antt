-- `last4` is the last quarter in each lane.
use Rattle.std.proofs.Common.{ℕ, ◌/◌, ◌^◌, List, ap, ◌∙◌, ap₂, lit<}
use lib.Bits.{bit_xor, bit_and, bit_or}
use Rattle.sparkle.specs.Words.{addw, shlw}
use Rattle.sparkle.specs.Lanes.{lanes, lanes2}
use Rattle.sparkle.proofs.LaneLaws.{quarter-sum, quarter_x, mask4, last_y}
use Rattle.sparkle.proofs.Below.{below_at}
use Rattle.sparkle.proofs.Arrays.{array-words}
use Rattle.sparkle.proofs.sse2.last4.Goals as goal

pub returns : goal.returns
returns c =
    let x = c.args.v.x in
    let y = c.args.v.y in
    let rc = c.args.rc in
    let sum =
    c.add4-sum.ensures
    ∙ ap₂ (lanes2 addw) (c.add4.ensures ∙ ap (lanes2 addw x) c.shl4.ensures) c.shr4.ensures
    ∙ quarter-sum 24 16 (lit< tt) (lit< tt) (lit< tt) (lit< tt) x y c.args.v.t c.args.v.above in (
      c.xor4-3.ensures ∙ ap (λ (l : List ℕ). lanes2 bit_xor l rc) sum ∙ quarter_x 24 16 x y rc,
      c.or4-y.ensures
          ∙ ap₂ (lanes2 bit_or)
          (c.and4-high.ensures
          ∙ ap (λ (l : List ℕ). lanes2 bit_and l (mask4 0xffff0000))
          (c.xor4.ensures ∙ ap (lanes2 bit_xor y) (c.shl4-2.ensures ∙ ap (lanes (shlw 16)) sum)))
          (c.and4-low.ensures
          ∙ ap (λ (l : List ℕ). lanes2 bit_and l (mask4 0x0000ffff))
          (c.xor4-2.ensures ∙ ap (lanes2 bit_xor y) (c.shr4-2.ensures ∙ ap (lanes (λ v. v / 2 ^ 16)) sum)))
          ∙ last_y x y rc (below_at (array-words y _ c.well_formed.0.1.1.1.0.1.1)),
    )
