-- `xor_block` lays the words that are permuted over the state's, as many as the rate has.
use Rattle.std.proofs.Common.{◌≡◌, ◌+◌, ◌-◌, ◌/◌, ◌<◌, length, get_or, refl, ap, ◌∙◌, cond, ltb, arith, rules}
use Rattle.std.proofs.lemmas.Bool.{cond_below, cond_above}
use lib.Bits.{bit_xor}
use Rattle.tc_sparkle_aead.proofs.Fill.{laid, laid_turn}
use Rattle.tc_sparkle_aead.proofs.DuplexLaws.{mixed-at, length-mixed, mixed_all}
use Rattle.tc_sparkle_aead.proofs.duplex.Sponge.xor_block.Goals as goal
use Rattle.tc_sparkle_aead.proofs.duplex.Sponge.xor_block.Goals.{Joined-i-half, then-i-half, else-i-half}

pub loop-i-init : goal.loop-i-init
unfolding laid
loop-i-init g c = refl

-- FeistelSwap's word
swapped-is : (g : _) (c : goal.Joined-i-half g) → c.if-i-half.swapped ≡ cond (ltb c.loop-i.i (g.row.RATE / 2)) (get_or c.args.self.state.words (g.row.RATE / 2 + c.loop-i.i) 0) (bit_xor (get_or c.args.self.state.words c.loop-i.i 0) (get_or c.args.self.state.words (c.loop-i.i - g.row.RATE / 2) 0))
swapped-is g c =
    elim c.if-i-half.branch [
      | then-i-half w ↦ w.swapped-is ∙ cond_below _ _ _ _ w.if-i-half.true
      | else-i-half w ↦ cond_above _ _ _ _ _ w.if-i-half.false w.swapped-is
    ]

pub loop-i-preserved : goal.loop-i-preserved
loop-i-preserved g c =
    let f = c.args.self.sizes in
    let hs : length c.args.self.state.words ≡ g.row.WORDS = search rules in
    let hb : length c.args.block ≡ 8 = search rules in
    let below : c.loop-i.i < g.row.RATE = omega arith in
    laid_turn _ _ c.loop-i.invariant
    (mixed-at g.row.WORDS g.row.RATE g.row.SLIM g.row.BIG f c.args.self.state.words c.args.block c.args.mask hs hb c.loop-i.i _ below
    (swapped-is g (goal.at.loop-i-preserved g c).Joined-i-half))
    (omega (arith, length-mixed g.row.WORDS g.row.RATE g.row.SLIM g.row.BIG f c.args.self.state.words c.args.block c.args.mask hs hb))
    (omega (arith, f))

pub returns : goal.returns
returns g c =
    let f = c.args.self.sizes in
    let hs : length c.args.self.state.words ≡ g.row.WORDS = search rules in
    let hb : length c.args.block ≡ 8 = search rules in
    let e : c.loop-i.i ≡ g.row.RATE = omega arith in
    c.loop-i.invariant ∙ ap (laid _ _) e ∙ mixed_all g.row.WORDS g.row.RATE g.row.SLIM g.row.BIG f _ _ _ hs hb
