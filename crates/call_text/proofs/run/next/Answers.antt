-- Nothing more, for a file that is too long and for a line that is no call; else the step of the line's call.
use Rattle.std.proofs.Common.{length, sym, ap, ◌∙◌, arith}
use Rattle.call_text.proofs.ListSteps.{line-length, end_further}
use Rattle.call_text.proofs.RunSteps.{found_room, stopped-at, next_none, next_found}
use Rattle.call_text.proofs.run.next.Goals as goal

pub returns-in_default : goal.returns-in_default
returns-in_default c =
    let a = c.args in
    let e = c.stopped-in_default.ensures in
    let none = next_none a.file.now a.run (omega arith) _ c.line_at-s.ensures (sym c.found_in.ensures ∙ c.in_default.is) in
    record { value = e ∙ sym none; at_lt_at = λ h. omega (arith, stopped-at a.file.now _ e) }

pub call-c-requires : goal.call-c-requires
call-c-requires c =
    let a = c.args in
    let found = sym c.found_in.ensures ∙ c.in-Some.is in (
      omega (arith, ap length c.line_at-s.ensures, line-length a.file.now a.run.at),
      found_room c.line_at-s.result.now _ found,
    )

pub returns : goal.returns
returns c =
    let a = c.args in
    record {
      value = next_found a.file.now a.run (omega arith) _ c.line_at-s.ensures _ (sym c.found_in.ensures ∙ c.in-Some.is)
          c.call-c.result
          c.call-c.ensures
          _
          c.from.ensures
          _
          c.steps.ensures
          _
          c.mac.ensures
          _
          c.line.ensures
          _
          c.line_end.ensures;
      at_lt_at = λ h. omega (arith, c.line_end.ensures, end_further a.file.now a.run.at h);
    }
