-- A packet that is opened whole or not, over plain variables: what a check that passes tells of the lengths, the verdict of
-- the first pass, what the second one writes, and the answer.
use Rattle.std.proofs.Common.{◌≡◌, ℕ, ◌+◌, ◌-◌, ◌*◌, ◌≤◌, Bool, true, false, List, ◌++◌, length, take, sym, refl, ap, ◌∙◌, ap₂, arith, length-append, take-take}
use lib.Seq.{paste}
use Rattle.schwaemm.specs.Blocks.{ready, given, held}
use Rattle.schwaemm.specs.Schwaemm.{Params, crypt, opening, message_block, prepared, body, last_block, decrypt, verified}
use Rattle.schwaemm.proofs.Cut.{ready_bound, rest_below, length-held}
use Rattle.schwaemm.proofs.States.{length-prepared}
use Rattle.schwaemm.proofs.RoundTrip.{length_crypted_blocks, length-decrypt, leading_bound}
use Rattle.tc_aead_cipher.specs.declared.variant.SparkleVariant.{SparkleVariant}
use Rattle.tc_aead_cipher.specs.declared.phase.Direction.TheVariants.{Decrypt}
use Rattle.tc_aead_cipher.specs.declared.phase.Phase.TheVariants.{Data}
use Rattle.tc_aead_cipher.specs.Variant.{params_of}
use Rattle.tc_aead_cipher.specs.Checks.{keep}
use Rattle.tc_aead_cipher.specs.Outcome.{Outcome}
use Rattle.tc_aead_cipher.specs.PacketCheck.{packet_check}
use Rattle.tc_aead_cipher.proofs.VariantLaws.{sizes, small}
use Rattle.tc_aead_cipher.proofs.PacketCheckLaws.{PacketCase, packet_case}
use Rattle.tc_aead_cipher.proofs.PacketCheckLaws.PacketCase.{key-length, nonce-length, too_short, no_room, passes}
use Rattle.tc_sparkle_aead.specs.declared.message.Point.{Point}
use Rattle.tc_sparkle_aead.specs.declared.message.End.{End}
use Rattle.tc_sparkle_aead.specs.Message.{in_array, no_mac, readable, state_in, buffered_count, block_count, plain_of, plain_by, data_from, stream_out, written, open_last, tag_matches, open_end_by, open_end}
use Rattle.tc_sparkle_aead.specs.Packet.{data_point}
use Rattle.tc_sparkle_aead.specs.OpenWhole.{tag_check, verify, opened_output}
use Rattle.tc_sparkle_aead.proofs.StateLaws.{all-in_array}
use Rattle.tc_sparkle_aead.proofs.Points.{block_point, held_back, state_in-array}
use Rattle.tc_sparkle_aead.proofs.OpeningEnd.{packet_blocks, length-body, held-block, packet_point, packet-streamed, packet-words, packet-last, packet-verified, packet-message}
use Rattle.tc_sparkle_aead.proofs.EndLaws.{paste_written}
use Rattle.tc_sparkle_aead.proofs.WholeLaws.{count_none, given-none}

-- ---- The answer.

-- what the checks let pass
pub record Sized (v : SparkleVariant) (key nonce packet room : ℕ) : Type 0 where
  pub key_right : key ≡ (params_of v).key
  pub nonce_right : nonce ≡ (params_of v).rate
  pub enough : (params_of v).key ≤ packet
  pub fits : packet - (params_of v).key ≤ room

-- the checks pass where they count
pub sized : (v : SparkleVariant) (key nonce packet room n : ℕ) → packet_check (params_of v) key nonce packet room ≡ Outcome.ok n
    → Sized v key nonce packet room
sized v key nonce packet room n counted = by (packet_case (params_of v) key nonce packet room)
  where
    refused : (r : List ℕ) → packet_check (params_of v) key nonce packet room ≡ Outcome.no r → ⊥
    refused r e = let z : ◌≡◌ {A = ℕ} 0 1 = cc in omega arith

    by : PacketCase (params_of v) key nonce packet room → Sized v key nonce packet room
    by (key-length wrong e) = absurd (refused _ e)
    by (nonce-length k wrong e) = absurd (refused _ e)
    by (too_short k n short e) = absurd (refused _ e)
    by (no_room k n enough less e) = absurd (refused _ e)
    by (passes k n enough fits e) = record { key_right = k; nonce_right = n; enough = enough; fits = fits }

module _ (v : SparkleVariant) (key nonce header packet : List ℕ) (room : ℕ) where
  abbrev lengths : Outcome
  lengths = packet_check (params_of v) (length key) (length nonce) (length packet) room

  -- a length refuses
  pub verify-refused : (r : List ℕ) → lengths ≡ Outcome.no r → lengths ≡ verify v key nonce header packet room
  unfolding verify
  verify-refused r e = rw e refl

  -- the verifying pass counts what its checks count
  verified-counts : (n : ℕ) (l : Outcome) (right : Bool) → tag_check right l ≡ Outcome.ok n → l ≡ Outcome.ok n
  verified-counts n (Outcome.ok m) true e = e
  verified-counts n (Outcome.ok m) false e = let z : ◌≡◌ {A = ℕ} 0 1 = cc in absurd (omega arith)
  verified-counts n (Outcome.no r) right e = let z : ◌≡◌ {A = ℕ} 0 1 = cc in absurd (omega arith)

  pub opened_sized : (n : ℕ) → verify v key nonce header packet room ≡ Outcome.ok n → Sized v (length key) (length nonce) (length packet) room
  unfolding verify
  opened_sized n e = sized v (length key) (length nonce) (length packet) room n (verified-counts n lengths _ e)

  -- what the output holds
  pub output-opened : (n : ℕ) → verify v key nonce header packet room ≡ Outcome.ok n → (message out out₁ : List ℕ)
      → out₁ ≡ written message out → out₁ ≡ opened_output (verify v key nonce header packet room) message out
  output-opened n counted message out out₁ eo = rw counted eo

  pub output-refused : (r : List ℕ) → verify v key nonce header packet room ≡ Outcome.no r → (message out : List ℕ)
      → out ≡ opened_output (verify v key nonce header packet room) message out
  output-refused r refused message out = rw refused refl

-- ---- The passes.

-- whether a tag can be read after the end of an opening
readable-by : (right : Bool) (p : Params) (key : List ℕ) (at : Point) → (open_end_by right p key at).mac.readable ≡ right
unfolding readable no_mac
readable-by true p key at = refl
readable-by false p key at = refl

-- the point after the blocks of the packet
module _ (v : SparkleVariant) (key nonce header packet : List ℕ) (enough : (params_of v).key ≤ length packet) (words : List ℕ)
    (ew : words ≡ in_array 16 (prepared (params_of v) key nonce header)) where
  -- the blocks that go are of the packet's body
  blocks_fit : ready (params_of v).rate (params_of v).key (length packet) * (params_of v).rate ≤ length packet - (params_of v).key
  blocks_fit =
      let p = params_of v in
      omega (
        arith,
        ap (λ (n : ℕ). n * p.rate) (packet_blocks p packet enough),
        leading_bound p (length (body p packet)),
        length-body p packet enough,
      )

  pub whole_blocks_fit : block_count (params_of v) (keep (params_of v) (Data Decrypt)) (data_point Decrypt words) packet * (params_of v).rate
      ≤ length packet - (params_of v).key
  whole_blocks_fit = rw (count_none (params_of v) Decrypt words packet (params_of v).key) blocks_fit

  module _ (at : Point) (et : at ≡ (data_from (params_of v) (data_point Decrypt words) packet).point) where
    abbrev reached : Point
    reached = packet_point (params_of v) (sizes v) (small v) key nonce header packet enough

    at-is : at ≡ reached
    unfolding data_point plain_of plain_by
    at-is =
        et ∙ ap (λ (w : List ℕ). (data_from (params_of v) (data_point Decrypt w) packet).point) ew
        ∙ packet-streamed (params_of v) (sizes v) (small v) key nonce header packet enough

    -- how many bytes are held there
    held-is : at.held ≡ length packet - ready (params_of v).rate (params_of v).key (length packet) * (params_of v).rate
    unfolding block_point
    held-is = ap (λ (x : Point). x.held) at-is ∙ length-held (params_of v).rate (params_of v).key packet

    pub whole-held : ((params_of v).key ≤ at.held) × (at.held ≤ (params_of v).key + (params_of v).rate) × (at.held ≤ length packet)
    whole-held =
        let p = params_of v in
        let below = rest_below p.rate p.key (sizes v).rate_positive (length packet) in
        (omega (arith, held-is, blocks_fit), omega (arith, held-is, below), omega (arith, held-is))

    pub whole-fits : ((params_of v).key ≤ buffered_count (params_of v) at.phase at.held)
        × (buffered_count (params_of v) at.phase at.held ≤ (params_of v).rate + (params_of v).key)
        × (buffered_count (params_of v) at.phase at.held ≤ 64 + (params_of v).key)
    unfolding block_point
    whole-fits =
        let p = params_of v in
        let all : buffered_count p at.phase at.held ≡ at.held =
        ap (λ (x : Point). buffered_count p x.phase at.held) at-is ∙ omega (arith, whole-held) in
        (omega (arith, all, whole-held), omega (arith, all, whole-held), omega (arith, all, whole-held, small v))

    pub whole-verdict : length key ≡ (params_of v).key → (k : List ℕ) → k ≡ in_array 32 key → (end : End)
        → end ≡ open_end (params_of v) (take (params_of v).key k) at
        → end.mac.readable ≡ verified (params_of v) key nonce header packet
    whole-verdict hk k ek end ee =
        let p = params_of v in
        let the-key : take p.key k ≡ key = ap (take p.key) ek ∙ all-in_array p.key 32 key hk (small v).key in
        ap (λ (x : End). x.mac.readable) ee
        ∙ readable-by _ p (take p.key k) at
        ∙ ap₂ (tag_matches p) the-key at-is
        ∙ packet-verified p (sizes v) (small v) key nonce header packet enough

    -- what the last block becomes, in its array
    last-is : (n : ℕ) → n ≡ at.held - (params_of v).key → (last : List ℕ)
        → last ≡ in_array 64 (crypt (params_of v) (state_in (params_of v) at.words) (take n at.buffer))
        → last ≡ in_array 64 (open_last (params_of v) reached)
    unfolding block_point
    last-is n en last el =
        let p = params_of v in
        let stays = held p.rate p.key packet in
        let en' : n ≡ length stays - p.key = en ∙ ap (λ (x : Point). x.held - p.key) at-is in
        let block : take n (in_array 64 stays) ≡ last_block p (body p packet) =
        sym (take-take n (length stays) (in_array 64 stays) (omega arith))
        ∙ ap (take n) (held_back p (sizes v) (small v) p.key (omega arith) packet (length stays) refl)
        ∙ ap (λ (k : ℕ). take k stays) en'
        ∙ held-block p packet enough in
        el ∙ ap (λ (x : Point). in_array 64 (crypt p (state_in p x.words) (take n x.buffer))) at-is
        ∙ ap (in_array 64)
        (ap₂ (crypt p) (packet-words p (sizes v) (small v) key nonce header packet enough) block
        ∙ sym (packet-last p (sizes v) (small v) key nonce header packet enough))

    -- what the blocks become
    abbrev leading_bytes : List ℕ
    leading_bytes =
        given (params_of v).rate (message_block (params_of v) (opening (params_of v))) (crypt (params_of v))
        (ready (params_of v).rate (params_of v).key (length packet)) (prepared (params_of v) key nonce header) packet

    stream-is : stream_out (params_of v) (data_point Decrypt words) packet ≡ leading_bytes
    unfolding plain_of plain_by
    stream-is =
        let p = params_of v in
        sym (given-none p Decrypt words packet (ready p.rate p.key (length packet)) refl)
        ∙ ap (λ (s : List ℕ). given p.rate (message_block p (opening p)) (crypt p) (ready p.rate p.key (length packet)) s packet)
        (ap (state_in p) ew ∙ state_in-array p (sizes v) (small v) (prepared p key nonce header) (length-prepared p (sizes v) key nonce header))

    length-leading : length leading_bytes ≡ length packet - at.held
    length-leading =
        let p = params_of v in
        let blocks =
        length_crypted_blocks p (sizes v) (opening p) (ready p.rate p.key (length packet)) (prepared p key nonce header) packet
        (length-prepared p (sizes v) key nonce header) (ready_bound p.rate p.key (length packet)) in
        omega (arith, blocks, held-is, blocks_fit)

    message-is : leading_bytes ++ open_last (params_of v) reached ≡ decrypt (params_of v) key nonce header (body (params_of v) packet)
    message-is = packet-message (params_of v) (sizes v) (small v) key nonce header packet enough

    length_last : length (open_last (params_of v) reached) ≡ at.held - (params_of v).key
    length_last =
        let p = params_of v in
        let all = ap length message-is ∙ length-decrypt p (sizes v) key nonce header (body p packet) ∙ length-body p packet enough in
        omega (arith, all, length-append leading_bytes (open_last p reached), length-leading, whole-held)

    pub whole-written : (n held : ℕ) → held ≡ at.held → n ≡ held - (params_of v).key → (last out out₁ out₂ : List ℕ)
        → last ≡ in_array 64 (crypt (params_of v) (state_in (params_of v) at.words) (take n at.buffer))
        → out₁ ≡ written (stream_out (params_of v) (data_point Decrypt words) packet) out
        → out₂ ≡ paste out₁ (length packet - held) last n
        → out₂ ≡ written (decrypt (params_of v) key nonce header (body (params_of v) packet)) out
    whole-written n held eh en last out out₁ out₂ el e₁ e₂ =
        let p = params_of v in
        let en' : n ≡ at.held - p.key = en ∙ ap (λ (k : ℕ). k - p.key) eh in
        let long : length (open_last p reached) ≡ n = length_last ∙ sym en' in
        let few : n ≤ 64 = omega (arith, en', whole-held, small v) in
        paste_written out last leading_bytes (open_last p reached) out₁ out₂ (length packet - held) n
        (e₁ ∙ ap (λ (t : List ℕ). written t out) stream-is)
        (length-leading ∙ ap (λ (k : ℕ). length packet - k) (sym eh)) e₂
        (ap (take n) (last-is n en' last el) ∙ all-in_array n 64 (open_last p reached) long few) long
        ∙ ap (λ (t : List ℕ). written t out) message-is
