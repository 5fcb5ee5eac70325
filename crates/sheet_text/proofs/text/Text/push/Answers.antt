-- The bytes stand behind the text, as many as have room, and zeros behind them.
use Rattle.std.proofs.Common.{arith}
use Rattle.sheet_text.proofs.TextArray.{push_adds, push_length, push_zeros}
use Rattle.sheet_text.proofs.text.Text.push.Goals as goal

pub invariant_of-self : goal.invariant_of-self
invariant_of-self c =
    let t = c.self.inside in
    let i = c.self.invariant in
    let n = c.min-n.ensures in
    let r = c.copy_from_slice.ensures.after in (
      omega arith,
      push_length t.len _ t.bytes c.args.s.now _ i.1 i.0 n r,
      push_zeros t.len _ t.bytes c.args.s.now _ i.1 i.0 n r i.2,
    )

pub returns : goal.returns
returns c =
    let t = c.self.inside in
    let i = c.self.invariant in
    rw (← c.self.view_is) (push_adds t.len _ t.bytes c.args.s.now _ i.1 i.0 c.min-n.ensures c.copy_from_slice.ensures.after)
