-- The digits that `itoa` writes are those of the definition.
use Rattle.sheet_text.proofs.TextArray.{decimal_is}
use Rattle.sheet_text.proofs.text.Text.push_number.Goals as goal

pub returns : goal.returns
returns c =
    rw (← decimal_is c.args.n c.ranges.n.fits, ← c.format.ensures.text, ← c.as_bytes.ensures.value) c.push.ensures
