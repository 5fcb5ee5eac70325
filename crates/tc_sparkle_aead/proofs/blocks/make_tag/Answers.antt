-- `make_tag` is the capacity's bytes xored with the key's.
use Rattle.std.proofs.Common.{◌≡◌, ℕ, ◌-◌, List, length, take, drop, ap, ◌∙◌, arith, length-drop, take_all, rules}
use Rattle.sparkle.specs.Sparkle.{xors}
use Rattle.tc_aead_cipher.specs.Variant.{params_of}
use Rattle.tc_sparkle_aead.specs.Message.{in_array}
use Rattle.tc_aead_cipher.proofs.VariantLaws.{sizes, small}
use Rattle.tc_sparkle_aead.proofs.TagLaws.{array-bytes, tag_of-bytes}
use Rattle.tc_sparkle_aead.proofs.blocks.make_tag.Goals as goal

pub returns : goal.returns
returns c =
    let v = c.args.variant in
    let key = c.args.key in
    let state = c.bytes_of-state.result in
    let rate = c.nonce_bytes-rate.result in
    let hs : length state ≡ 64 = search rules in
    let capacity : take (64 - rate) (drop rate state) ≡ drop rate state = take_all (64 - rate) (drop rate state) (simp length-drop (omega arith)) in
    c.xored.ensures
    ∙ ap (λ (u : List ℕ). in_array 32 (xors u (take c.key_bytes-n.result key))) capacity
    ∙ rw (c.bytes_of-state.ensures, c.nonce_bytes-rate.ensures, c.key_bytes-n.ensures)
    (ap (in_array 32) (tag_of-bytes (params_of v) (sizes v) (small v) c.args.words key c.well_formed.1.0.1.0.1 c.well_formed.1.1.0.1.0.1 (array-bytes key _ c.well_formed.1.1.0.1.1)))
