-- Its parts behind one another, in an array that they fit.
use Rattle.sheet_text.specs.Text.{title_text}
use Rattle.sheet_text.proofs.TextArray.{◌⨾◌, text_is}
use Rattle.sheet_text.proofs.TextLines.{title-fits}
use Rattle.sheet_text.proofs.text.title.Goals as goal

pub returns : goal.returns
unfolding title_text
returns c =
    let v = c.args.variant in
    let parts = c.push.ensures ⨾ c.push_number.ensures ⨾ c.push-2.ensures in
    text_is c.new-title.ensures (title_text v) (title-fits v) (rw (← c.from.ensures, ← c.from-2.ensures) parts)
