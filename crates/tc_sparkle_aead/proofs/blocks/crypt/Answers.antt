-- `crypt` is the state's bytes xored with the block's.
use Rattle.std.proofs.Common.{ℕ, List, sym, ap, ◌∙◌}
use Rattle.sparkle.specs.Sparkle.{xors}
use Rattle.tc_aead_cipher.specs.Variant.{params_of}
use Rattle.tc_aead_cipher.proofs.VariantLaws.{sizes}
use Rattle.tc_sparkle_aead.specs.Message.{in_array}
use Rattle.tc_sparkle_aead.proofs.MixLaws.{crypt-in}
use Rattle.tc_sparkle_aead.proofs.blocks.crypt.Goals as goal

pub returns : goal.returns
returns c =
    c.xored.ensures
    ∙ ap (in_array 64)
    (ap (λ (u : List ℕ). xors u c.args.block.now) c.bytes_of.ensures
    ∙ sym (crypt-in (params_of c.args.variant) (sizes c.args.variant) c.args.words c.args.block.now c.requires))
