-- The item's bytes are written to the front of the array, as far as it has room.
use Rattle.call_text.proofs.RunSteps.{decoded_in}
use Rattle.call_text.proofs.run.decoded.Goals as goal

pub returns : goal.returns
returns g c =
    let a = c.args in
    decoded_in a.s.now a.at g.row.N a.room.now c.item_at.ensures c.told-room c.decode-n.ensures.value c.decode-n.ensures.out_after
