-- `start_of` lays the left half of the start over an array that has the rest of it.
use Rattle.std.proofs.Common.{◌≡◌, ◌/◌, length, refl, ap, ◌∙◌, arith, rules}
use Rattle.tc_sparkle_aead.proofs.Fill.{laid, laid_turn}
use Rattle.tc_sparkle_aead.proofs.StartLaws.{start-at, length_start_array, length-base, start_all}
use Rattle.tc_sparkle_aead.proofs.blocks.start_of.Goals as goal

pub loop-i-init : goal.loop-i-init
unfolding laid
loop-i-init g c = refl

pub loop-i-preserved : goal.loop-i-preserved
loop-i-preserved g c =
    let f = c.requires.0 in
    let hk : length c.args.key ≡ 8 = search rules in
    laid_turn _ _ c.loop-i.invariant (start-at g.row.RATE g.row.KEY f c.requires.1 c.args.key hk c.loop-i.i (omega arith))
    (omega (arith, f, length_start_array g.row.RATE g.row.KEY f c.requires.1 c.args.key hk))
    (omega (arith, f, length-base g.row.RATE g.row.KEY f c.requires.1 c.args.key hk _ _ _ refl c.copy_from_slice.ensures.after c.copy_from_slice-2.ensures.after))

pub returns : goal.returns
returns g c =
    let f = c.requires.0 in
    let hk : length c.args.key ≡ 8 = search rules in
    let e : c.loop-i.i ≡ g.row.RATE / 2 = omega arith in
    c.loop-i.invariant ∙ ap (laid _ _) e
    ∙ start_all g.row.RATE g.row.KEY f c.requires.1 c.args.key hk _ _ _ refl c.copy_from_slice.ensures.after c.copy_from_slice-2.ensures.after
