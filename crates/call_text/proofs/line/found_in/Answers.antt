-- `found_in` meets its contract: the first kind whose shape the line has, or none.
use Rattle.std.proofs.Common.{sym, ◌∙◌, rules}
use Rattle.call_text.proofs.LineSteps.{form_found, found_mapped}
use Rattle.call_text.proofs.line.found_in.Goals as goal

pub returns : goal.returns
returns c =
    let s = c.args.s.now in
    let form = form_found s (sym c.is_form.ensures ∙ c.if-not-is_form.false) in
    let run = c.find_map.ensures.runs in
    let kinds = rw (run.1, c.iter.ensures.rest) at (c.iter.ensures.runs run.0 run.0.seen) in
    found_mapped _ _ s (λ x r q k. search rules) run.0 kinds _ run.2 ∙ sym form
