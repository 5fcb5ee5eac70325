-- `seal_end` writes the last bytes and the tag: each part is what its callee ensures.
use Rattle.std.proofs.Common.{◌≡◌, length, refl, arith, rules}
use Rattle.tc_sparkle_aead.proofs.ByteLaws.{part_paste}
use Rattle.tc_sparkle_aead.proofs.EndLaws.{sealed, sealed_out}
use Rattle.tc_sparkle_aead.proofs.message.Point.seal_end.Goals as goal

pub returns : goal.returns
returns c =
    let words_long : length c.args.self.words ≡ 16 = search rules in
    let buffer-long : length c.args.self.buffer ≡ 64 = search rules in
    let key-long : length c.args.key ≡ 32 = search rules in
    let v = c.args.variant in
    let at = c.args.self in
    let key = c.args.key in
    let held = c.buffered_count-held.ensures in record {
      value = sealed v at key words_long buffer-long key-long _ held _ _ c.last_words-words.ensures
          c.make_tag-tag.ensures _ c.last_steps.ensures;
      output_after = sealed_out v at key words_long buffer-long key-long _ held _ _ c.last_words-words.ensures
          c.make_tag-tag.ensures _ _ _ _ _ (omega (arith, held, c.requires)) c.crypt-last.ensures
          (part_paste c.args.output.now c.crypt-last.result 0 _ _ c.copy_from_slice.ensures.after refl) c.tag_bytes-size.ensures
          (part_paste _ c.make_tag-tag.result c.buffered_count-held.result c.tag_bytes-size.result _ c.copy_from_slice-2.ensures.after (omega arith));
    }
