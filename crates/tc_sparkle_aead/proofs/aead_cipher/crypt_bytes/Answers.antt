-- An accepted data call: `begin_data`, then `data_in`.
use Rattle.std.proofs.Common.{◌≡◌, length, sym, refl, rules, Ok}
use Rattle.tc_aead_cipher.specs.Variant.{params_of}
use Rattle.tc_sparkle_aead.specs.Calls.{at_point}
use Rattle.tc_aead_cipher.proofs.VariantLaws.{small}
use Rattle.tc_sparkle_aead.proofs.DataLaws.{data-room, data-taken, data_taken_out}
use Rattle.tc_sparkle_aead.proofs.aead_cipher.crypt_bytes.Goals as goal
use Rattle.tc_sparkle_aead.proofs.aead_cipher.crypt_bytes.Goals.{Start}

buffer-length : (c : goal.Start) → length c.args.e.current.buffer ≡ 64
buffer-length c = search rules

pub data_in-done-requires : goal.data_in-done-requires
data_in-done-requires c =
    let e = c.args.e in
    rw c.begin_data.ensures
    (data-room (params_of e.variant) (small e.variant) e.current.phase e.current refl (buffer-length (goal.at.data_in-done-requires c).Start)
    c.args.input.now _ _ c.requires)

pub returns : goal.returns
unfolding at_point
returns c =
    let s = c.args in record {
      value = data-taken s.e s.input.now s.output.now (Ok s.n) (sym c.requires) s.n refl _
          c.begin_data.ensures _ c.begin_steps.ensures s.e.current _ c.data_in-done.ensures.value _
          (rw (c.add-steps.ensures, c.add.ensures) refl);
      output_after = data_taken_out s.e s.input.now s.output.now (Ok s.n) (sym c.requires) s.n refl _
          c.begin_data.ensures _ c.data_in-done.ensures.output_after;
    }
