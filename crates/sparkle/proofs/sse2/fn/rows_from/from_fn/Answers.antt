-- The number of a row's step wraps.
use Rattle.std.proofs.Common.{◌+◌, ◌∙◌}
use Rattle.sparkle.proofs.Rows.{row_wraps}
use Rattle.sparkle.proofs.sse2.fn.rows_from.from_fn.Goals as goal

pub returns : goal.returns
returns c = c.row.ensures ∙ row_wraps (c.captures.first + c.args.i)
