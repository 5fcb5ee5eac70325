-- Where a part of the call is missing there is none; else each part is the list's.
use Rattle.host.proofs.ReadLaws.{no_head, no_kind, no_first, no_second, no_third, call_read}
use Rattle.host.proofs.call.read_call.Goals as goal

pub returns-in_err-head : goal.returns-in_err-head
returns-in_err-head c =
    rw c.from_residual.ensures (no_head c.args.rest.now c.in_err-head.ensures.cases)

pub returns-in_err-kind : goal.returns-in_err-kind
returns-in_err-kind c =
    rw c.from_residual-in_err-kind.ensures
    (no_kind c.args.rest.now _ _ c.in_ok-head.ensures.cases _ c.kind_read.ensures c.in_err-kind.was)

pub returns-in_err-first : goal.returns-in_err-first
returns-in_err-first c =
    rw c.from_residual-in_err-first.ensures
    (no_first c.args.rest.now _ _ c.in_ok-head.ensures.cases _ c.kind_read.ensures _ c.number_at.ensures
    c.in_err-first.ensures.cases)

pub returns-in_err-second : goal.returns-in_err-second
returns-in_err-second c =
    rw c.from_residual-in_err-second.ensures
    (no_second c.args.rest.now _ _ c.in_ok-head.ensures.cases _ c.kind_read.ensures _ c.number_at.ensures
    _ _ c.in_ok-first.ensures.cases _ c.number_at-2.ensures c.in_err-second.ensures.cases)

pub returns-in_err-third : goal.returns-in_err-third
returns-in_err-third c =
    rw c.from_residual-in_err-third.ensures
    (no_third c.args.rest.now _ _ c.in_ok-head.ensures.cases _ c.kind_read.ensures _ c.number_at.ensures
    _ _ c.in_ok-first.ensures.cases _ c.number_at-2.ensures _ _ c.in_ok-second.ensures.cases _ c.number_at-3.ensures
    c.in_err-third.ensures.cases)

pub returns : goal.returns
returns c =
    call_read c.args.rest.now _ _ c.in_ok-head.ensures.cases _ c.kind_read.ensures _ c.number_at.ensures
    _ _ c.in_ok-first.ensures.cases _ c.number_at-2.ensures _ _ c.in_ok-second.ensures.cases _ c.number_at-3.ensures
    _ _ c.in_ok-third.ensures.cases _ c.in_ok-kind.was _ c.number_at-4.ensures
