-- `initialise` lets the state that is made of the key take up the nonce.
use Rattle.std.proofs.Common.{◌≡◌, length, arith, rules}
use Rattle.sparkle.specs.Words.{Words}
use Rattle.sparkle.proofs.Below.{below_of}
use Rattle.tc_aead_cipher.specs.Variant.{params_of}
use Rattle.tc_aead_cipher.proofs.VariantLaws.{sizes, small}
use Rattle.tc_sparkle_aead.proofs.StartLaws.{key-read, key-words, put_start}
use Rattle.tc_sparkle_aead.proofs.blocks.initialise.Goals as goal

pub returns : goal.returns
returns c =
    let v = c.args.variant in
    let w = c.words_in.result in
    let hk : length c.in_array-key.result ≡ 32 = search rules in
    let ww : Words w = below_of _ (λ i. search rules) in
    let done = rw c.single.ensures at c.blocks-2.ensures.words_after in
    put_start (params_of v) (sizes v) (small v) c.args.key.now c.args.nonce.now _ _ _ c.requires.0 c.requires.1
    (key-words (params_of v) (sizes v) c.args.key.now w c.requires.0 ww
    (key-read c.args.key.now c.in_array-key.result w (omega (arith, c.requires, small v)) hk c.in_array-key.ensures c.words_in.ensures))
    c.start_words-v.ensures done
