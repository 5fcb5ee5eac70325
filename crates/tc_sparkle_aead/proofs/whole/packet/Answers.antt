-- `packet` goes by the check of its start, then by that of its data; what is left is the end at the point of the data.
use Rattle.std.proofs.Common.{sym, ap, ◌∙◌, arith}
use Rattle.std.proofs.lemmas.Result.{err_from_is_err_and}
use Rattle.tc_aead_cipher.proofs.CheckLaws.{start_check_lengths}
use Rattle.tc_sparkle_aead.specs.Packet.{PacketResult}
use Rattle.tc_sparkle_aead.proofs.WholeLaws.{data-below, whole_room, whole_in_data, whole_not_started, whole_no_room, whole-ended}
use Rattle.tc_sparkle_aead.proofs.whole.packet.Goals as goal

pub returns-in_err-start_check : goal.returns-in_err-start_check
returns-in_err-start_check c =
    let a = c.args in
    let p = err_from_is_err_and c.from_residual.result c.from_residual.ensures.1 in
    let refused =
    whole_not_started a.variant a.d a.key.now a.nonce.now a.header.now a.input.now a.output.now _ _
    c.tag_bytes-size.ensures c.start_check.ensures _ c.in_err-start_check.was in record { value = rw (p.1, p.2) (ap (λ (r : PacketResult). r.reply) refused); output_after = ap (λ (r : PacketResult). r.out) refused }

pub returns-in_err-n : goal.returns-in_err-n
returns-in_err-n c =
    let a = c.args in
    let p = err_from_is_err_and c.from_residual-in_err-n.result c.from_residual-in_err-n.ensures.1 in
    let refused =
    whole_no_room a.variant a.d a.key.now a.nonce.now a.header.now a.input.now a.output.now _ _
    c.tag_bytes-size.ensures c.start_check.ensures c.in_ok-start_check.was _ c.data_check.ensures _
    c.in_err-n.was in record { value = rw (p.1, p.2) (ap (λ (r : PacketResult). r.reply) refused); output_after = ap (λ (r : PacketResult). r.out) refused }

pub invariant_of-start : goal.invariant_of-start
invariant_of-start c =
    let lengths = start_check_lengths _ _ _ _ _ _ (sym c.start_check.ensures ∙ c.in_ok-start_check.was) in
    record { key_fits = lengths.0; nonce_fits = lengths.1 }

pub data-at-requires : goal.data-at-requires
data-at-requires c = λ e.
    let a = c.args in
    whole_room a.variant a.d _ a.input.now _ _ (sym c.data_check.ensures ∙ c.in_ok-n.was)

pub end-requires : goal.end-requires
end-requires c =
    let written = data-below _ _ _ _ _ _ (sym c.data_check.ensures ∙ c.in_ok-n.was) in
    let size = c.output-1.given in (
      whole_in_data _ _ _ _ _ c.data-at.ensures.value,
      omega (arith, written, size),
    )

pub returns : goal.returns
returns c =
    let a = c.args in
    let whole =
    whole-ended a.variant a.d a.key.now a.nonce.now a.header.now a.input.now a.output.now _ _
    c.tag_bytes-size.ensures c.start_check.ensures c.in_ok-start_check.was _ c.data_check.ensures _
    c.in_ok-n.was _ c.prepare-words.ensures _ c.data-at.ensures.value _ c.data-at.ensures.output_after in record { value = c.end.ensures.value ∙ ap (λ (r : PacketResult). r.reply) whole; output_after = c.end.ensures.output_after ∙ ap (λ (r : PacketResult). r.out) whole }
