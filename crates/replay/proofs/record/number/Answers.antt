-- The library's number of eight bytes.
use Rattle.std.proofs.Common.{◌∙◌}
use Rattle.replay.proofs.AnswerLaws.{le_number}
use Rattle.replay.proofs.record.number.Goals as goal

pub returns : goal.returns
returns c = c.from_le_bytes.ensures ∙ le_number c.args.bytes
