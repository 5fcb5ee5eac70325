-- `decode` meets its contract: a byte more in front with each turn.
use Rattle.std.proofs.Common.{◌≡◌, ◌∙◌, arith}
use lib.ListN.{length-set}
use Rattle.forms.proofs.FormSteps.{byte_written, decoded_end}
use Rattle.forms.proofs.hex.decode.Goals as goal

pub loop-i-preserved : goal.loop-i-preserved
loop-i-preserved c =
    let l = c.loop-i in
    let a = c.args in (
      length-set l.out l.i c.byte_at.result ∙ l.invariant.0,
      byte_written a.s.now a.out.now l.out l.i _ (omega (arith, c.min-n.ensures)) (omega (arith, c.min-n.ensures))
          l.invariant.1 c.byte_at.ensures,
    )

pub returns-clause-out_after : goal.returns-clause-out_after
returns-clause-out_after c =
    let a = c.args in
    let all : c.loop-i.i ≡ c.min-n.result = omega arith in
    rw (c.loop-i.invariant.1, all) (decoded_end a.s.now a.out.now c.min-n.result c.min-n.ensures)
