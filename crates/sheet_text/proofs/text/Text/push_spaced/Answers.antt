-- A blank, then the number.
use Rattle.sheet_text.proofs.TextArray.{◌⨾◌}
use Rattle.sheet_text.proofs.text.Text.push_spaced.Goals as goal

pub returns : goal.returns
returns c = c.push.ensures ⨾ c.push_number.ensures
