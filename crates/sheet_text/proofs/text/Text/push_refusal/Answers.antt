-- By how many values the reply has.
use Rattle.std.proofs.Common.{[], ◌∷◌, arith}
use mathlib.Core.List.{append-nil}
use lib.Seq.{take_all}
use Rattle.forms.specs.Decimal.{decimal}
use Rattle.sheet_text.proofs.TextArray.{◌⨾◌}
use Rattle.sheet_text.proofs.text.Text.push_refusal.Goals as goal

pub returns-in-1 : goal.returns-in-1
returns-in-1 c =
    let r = c.args.reply in
    rw (c.in-1.is, append-nil (decimal r.first)) (c.push_spaced.ensures ⨾ c.push_spaced-in-1.ensures)

pub returns-in_default : goal.returns-in_default
returns-in_default c =
    let r = c.args.reply in
    rw (take_all r.values (r.first ∷ (r.second ∷ [])) (omega (arith, c.in_default)), append-nil (decimal r.second))
    (c.push_spaced.ensures ⨾ (c.push_spaced-in_default.ensures ⨾ c.push_spaced-in_default-2.ensures))
