-- Its parts behind one another, in an array that they fit.
use Rattle.std.proofs.Common.{◌<◌, ◌^◌, rules}
use Rattle.sheet_text.specs.Text.{Adds, name_text, flag_text, line_text}
use Rattle.sheet_text.proofs.TextArray.{◌⨾◌, text_is}
use Rattle.sheet_text.proofs.TextLines.{line-fits}
use Rattle.sheet_text.proofs.text.line.Goals as goal

pub returns : goal.returns
unfolding line_text
returns c =
    let a = c.args in
    let r = a.reply in
    let number : r.number < 256 = search rules in
    let first : r.first < 2 ^ 64 = search rules in
    let second : r.second < 2 ^ 64 = search rules in
    let steps : a.steps < 2 ^ 64 = search rules in
    let named : Adds c.push.new.self (name_text a.kind) c.push-2.new.self = rw (← c.name.ensures) c.push-2.ensures in
    let flagged : Adds c.push-5.new.self (flag_text a.readable) c.push-6.new.self = rw (← c.flag.ensures) c.push-6.ensures in
    text_is c.new-line.ensures _ (line-fits r number first second a.kind a.steps a.readable steps)
    (c.push.ensures ⨾ named ⨾ c.push-3.ensures ⨾ c.push_outcome.ensures ⨾ c.push-4.ensures ⨾ c.push_number.ensures
    ⨾ c.push-5.ensures
    ⨾ flagged
    ⨾ c.push-7.ensures)
