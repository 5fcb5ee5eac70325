-- An item ends where the line does.
use Rattle.std.proofs.Common.{rules}
use Rattle.call_text.proofs.LineSteps.{item-length}
use Rattle.call_text.proofs.line.compare.Goals as goal

pub overflow_add-result : goal.overflow_add-result
overflow_add-result c =
    let a = c.args in
    search (rules, rw (← c.item_at-item.ensures) at (item-length a.s.now a.f.at))
