-- Its parts behind one another, in an array that they fit.
use Rattle.std.proofs.Common.{◌<◌, ◌^◌, rules}
use Rattle.sheet_text.specs.Text.{refusal_text}
use Rattle.sheet_text.proofs.TextArray.{◌⨾◌, text_is}
use Rattle.sheet_text.proofs.TextLines.{refusal-fits}
use Rattle.sheet_text.proofs.text.refusal.Goals as goal

pub returns : goal.returns
unfolding refusal_text
returns c =
    let r = c.args.reply in
    let number : r.number < 256 = search rules in
    let first : r.first < 2 ^ 64 = search rules in
    let second : r.second < 2 ^ 64 = search rules in
    text_is c.new-refusal.ensures _ (refusal-fits r number first second)
    (c.push.ensures ⨾ c.push_refusal.ensures ⨾ c.push-2.ensures)
