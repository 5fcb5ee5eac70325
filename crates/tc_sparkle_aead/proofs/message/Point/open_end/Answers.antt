-- `open_end` has the last bytes, the tag and its verdict from its callees, and then writes by the verdict.
use Rattle.std.proofs.Common.{◌≡◌, ◌+◌, ◌-◌, ◌≤◌, refl, length, take, drop, arith, rules, ℕ, ap, ◌∙◌}
use Rattle.schwaemm.specs.Bytes.{same}
use Rattle.tc_sparkle_aead.specs.Message.{zeros}
use Rattle.tc_aead_cipher.proofs.VariantLaws.{small}
use Rattle.tc_sparkle_aead.proofs.ByteLaws.{part_paste}
use Rattle.tc_sparkle_aead.proofs.EndLaws.{Opening, opening-is, opened, opened_out, unopened, unopened_out}
use Rattle.tc_sparkle_aead.proofs.message.Point.open_end.Goals as goal
use Rattle.tc_sparkle_aead.proofs.message.Point.open_end.Goals.{After-buffered_count, After-same_bytes}

-- the held bytes end with a tag, and what is before it fits a block and the output
fits : (c : After-buffered_count)
    → (c.tag_bytes-size.result ≤ 32) × (c.tag_bytes-size.result ≤ c.buffered_count.result)
    × (c.buffered_count.result ≤ 64)
    × (c.buffered_count.result
    ≤ length c.args.output.now + c.tag_bytes-size.result)
fits c =
    omega (arith, c.buffered_count.ensures, c.tag_bytes-size.ensures, small c.args.variant, c.requires)

-- what is computed before the verdict's branch
computed : (c : After-same_bytes)
    → Opening
    c.args.variant
    c.args.self
    c.args.key
    (c.buffered_count.result
    - c.tag_bytes-size.result)
    c.crypt-plain.result
    c.make_tag-tag.result c.last_steps-steps.result
    c.same_bytes.result
computed c =
    let words_long : length c.args.self.words ≡ 16 = search rules in
    let buffer-long : length c.args.self.buffer ≡ 64 = search rules in
    let key-long : length c.args.key ≡ 32 = search rules in
    let s = c in
    let held = c.buffered_count.ensures in
    let size = c.tag_bytes-size.ensures in
    let n = c.tag_bytes-size.result in
    let body = c.buffered_count.result - n in
    let read : body + n - body ≡ n = omega arith in
    let verdict : c.same_bytes.result ≡ same (take n (drop body s.args.self.buffer)) (take n c.make_tag-tag.result) = c.same_bytes.ensures ∙ ap (λ (k : ℕ). same (take k (drop body s.args.self.buffer)) (take n c.make_tag-tag.result)) read in
    opening-is s.args.variant s.args.self s.args.key words_long buffer-long key-long _ _
    held size (omega (arith, held, size, s.requires)) (omega (arith, held, s.requires)) _ _ _ _ _
    c.crypt-plain.ensures c.last_words-words.ensures c.make_tag-tag.ensures
    c.last_steps-steps.ensures
    verdict

pub returns-then-same_bytes : goal.returns-then-same_bytes
returns-then-same_bytes c =
    let o = computed (goal.at.returns-then-same_bytes c).After-same_bytes in
    record {
      value = opened o c.if-same_bytes.true;
      output_after = opened_out o _ _ c.if-same_bytes.true (part_paste c.args.output.now c.crypt-plain.result 0 _ _ c.copy_from_slice.ensures.after refl);
    }

pub returns-else-same_bytes : goal.returns-else-same_bytes
unfolding zeros
returns-else-same_bytes c =
    let o = computed (goal.at.returns-else-same_bytes c).After-same_bytes in
    record {
      value = unopened o _ c.if-same_bytes.false c.none.ensures;
      output_after = unopened_out o _ _ c.if-same_bytes.false (omega (arith, fits (goal.at.returns-else-same_bytes c).After-buffered_count)) (c.fill.ensures.after (λ y h. search rules));
    }
