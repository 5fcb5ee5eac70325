-- No more bytes are of a kind than there are.
use Rattle.std.proofs.Common.{sym}
use lib.Seq.{length-take-le}
use Rattle.forms.proofs.BytesLaws.{front_le}
use Rattle.forms.proofs.bytes.run_at.Goals as goal

pub slice_bounds-result-end : goal.slice_bounds-result-end
slice_bounds-result-end g c = sym (length-take-le c.front.result c.in-Some.rest.now (rw c.front.ensures (front_le _ _)))
