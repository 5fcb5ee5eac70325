-- `rows_from` makes each row by itself.
use Rattle.std.proofs.Common.{◌≡◌, ℕ, ◌+◌, ◌<◌, [], get_or, rules}
use Rattle.sparkle.specs.Lanes.{row}
use Rattle.sparkle.proofs.Rows.{rows_are}
use Rattle.sparkle.proofs.sse2.rows_from.Goals as goal

pub returns : goal.returns
returns c =
    let each : (i : ℕ) → i < 12 → get_or c.from_fn.result i [] ≡ row (c.args.first + i) = search rules in
    rows_are 12 c.args.first c.from_fn.result c.from_fn.ensures.items.long each
