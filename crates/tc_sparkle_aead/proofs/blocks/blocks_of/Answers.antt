-- `blocks_of` meets its contract: the invariant is `Run`, at the sizes of the state.
use Rattle.std.proofs.Common.{◌≡◌, ℕ, ◌*◌, ◌<◌, ◌^◌, length, sym, refl, ap, ◌∙◌, subst, le_refl, arith, rules}
use Rattle.std.proofs.lemmas.Nat.{row_fits}
use Rattle.sparkle.specs.Words.{Words}
use Rattle.sparkle.proofs.Below.{below_of}
use Rattle.schwaemm.proofs.States.{state_length}
use Rattle.tc_sparkle_aead.proofs.ByteLaws.{part_read, words_taken}
use Rattle.tc_sparkle_aead.proofs.StateLaws.{length-loaded, words-loaded}
use Rattle.tc_sparkle_aead.proofs.BlockRuns.{run-start, run-turn}
use Rattle.tc_sparkle_aead.proofs.blocks.blocks_of.Goals as goal
use Rattle.tc_sparkle_aead.proofs.blocks.blocks_of.Goals.{After-load-state}

first-length : (g : _) (c : goal.After-load-state g) → length (g.S.Duplex.state c.load-state.result) ≡ state_length g.S.Duplex.params
first-length g c =
    let hw : length c.args.words.now ≡ 16 = search rules in
    ap length c.load-state.ensures ∙ length-loaded g.S.Duplex.params c.args.mode.last c.args.words.now (omega (arith, hw, c.requires.0))

pub loop-i-init : goal.loop-i-init
loop-i-init g c =
    let fits : c.args.mode.last < 2 ^ 32 = search rules in
    let ws : Words c.args.words.now = below_of _ (λ i. search rules) in
    run-start g.S.Duplex.params _ _ _ _ _ _ (first-length g (goal.at.loop-i-init g c).After-load-state)
    (subst Words (sym c.load-state.ensures) (words-loaded g.S.Duplex.params c.args.mode.last fits ws))

pub loop-i-preserved : goal.loop-i-preserved
loop-i-preserved g c =
    let p = g.S.Duplex.params in
    let f = c.requires.0 in
    let b = c.words_in-block.result in
    let n = c.block_words-n.ensures in
    let i = c.loop-i.i in
    let pos = i * (c.block_words-n.result * 4) in
    let wb : Words b = below_of _ (λ i. search rules) in
    let hb : length b ≡ 8 = search rules in
    let hr : length c.crypt.result ≡ 8 = search rules in
    let at : pos ≡ i * p.rate = ap (λ (k : ℕ). i * k) n in
    let k = row_fits i p.rate c.args.count p.rate (omega arith) (le_refl p.rate) in
    run-turn p _ _ _ _ _ _ f.sizes (first-length g (goal.at.loop-i-preserved g c).After-load-state) c.args.count c.requires.1 c.requires.2
    (omega arith) c.loop-i.invariant b _ _ pos (c.block_words-n.result * 4) _ _ at n refl c.steps-steps.ensures wb hb
    (omega (arith, f)) (omega (arith, f))
    (part_read c.args.input.now _ pos (c.block_words-n.result * 4) (omega (arith, k, at, n, c.requires.1)) c.words_in-block.ensures)
    (rw (words_taken _ c.crypt.result _ c.block_words-n.result (omega (arith, f, n, hr)), c.crypt.ensures) at c.store.ensures)
    c.take_up-state.ensures
