-- The head, number by number.
use mathlib.Core.Path.{◌∙◌}
use Rattle.host.proofs.AnswerLaws.{head_written}
use Rattle.host.proofs.call.put_head.Goals as goal

pub returns : goal.returns
returns c =
    head_written c.args.head.now c.requires c.args.r c.args.readable c.args.steps c.args.n c.from.ensures
    (c.copy_from_slice.ensures.after ∙ c.number_bytes.ensures)
    (c.copy_from_slice-2.ensures.after ∙ c.number_bytes-2.ensures)
    (c.copy_from_slice-3.ensures.after ∙ c.number_bytes-3.ensures)
    (c.copy_from_slice-4.ensures.after ∙ c.number_bytes-4.ensures)
