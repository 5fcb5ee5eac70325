-- `pad` meets its contract: a short block gets byte 80 before the zeros that are there.
use Rattle.std.proofs.Common.{length, set, refl, sym, ap, ◌∙◌, arith}
use Rattle.schwaemm.proofs.States.{padded_full}
use Rattle.tc_aead_cipher.specs.Variant.{params_of}
use Rattle.tc_sparkle_aead.specs.Message.{in_array}
use Rattle.tc_aead_cipher.proofs.VariantLaws.{sizes, small}
use Rattle.tc_sparkle_aead.proofs.LastBlock.{set_padded}
use Rattle.tc_sparkle_aead.proofs.blocks.pad.Goals as goal

pub returns-then-last-nonce_bytes : goal.returns-then-last-nonce_bytes
returns-then-last-nonce_bytes c =
    let v = c.args.variant in
    ap (λ l. set l (length c.args.last.now) 0x80) c.in_array-r.ensures
    ∙ set_padded (params_of v) (sizes v) (small v) _ _ refl (omega arith)

pub returns-else-last-nonce_bytes : goal.returns-else-last-nonce_bytes
returns-else-last-nonce_bytes c =
    let v = c.args.variant in
    c.in_array-r.ensures ∙ ap (in_array 64) (sym (padded_full (params_of v) _ (omega arith)))
