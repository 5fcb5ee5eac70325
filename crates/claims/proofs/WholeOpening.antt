-- Document 02, 2026-03: where a whole packet is refused or opened, what either leaves in the output, and that the bytes are
-- those of document 01's opening. All of it goes by the cases of `packet_check` and by whether the packet is verified.
use mathlib.Core.Path.{◌≡◌, refl, subst, ◌∙◌}
use mathlib.Core.Logic.{◌↔◌}
use mathlib.Core.Bool.{Bool, true, false}
use mathlib.Core.List.{List, [], ◌∷◌, ◌++◌, append-nil}
use Prim.Native.Nat.{ℕ, ◌-◌, ◌%◌, ◌^◌, ◌≤◌}
use native.Mathlib.Omega.{arith}
use lib.ListN.{length, take, drop}
use lib.Seq.{take_at, length-take-le}
use Rattle.schwaemm.specs.Schwaemm.{seal, decrypt, tag, body as body_of, verified, steps}
use Rattle.schwaemm.proofs.RoundTrip.{length-decrypt, decrypt-encrypt, length-seal, body-seal, verified-seal}
use Rattle.tc_aead_cipher.specs.declared.variant.SparkleVariant.{SparkleVariant}
use Rattle.tc_aead_cipher.specs.declared.phase.Direction.TheVariants.{Decrypt}
use Rattle.tc_aead_cipher.specs.Variant.{params_of}
use Rattle.tc_aead_cipher.specs.Call.{Call}
use Rattle.tc_aead_cipher.specs.Outcome.{Outcome}
use Rattle.tc_aead_cipher.specs.Outcome.Outcome.{ok, no}
use Rattle.tc_aead_cipher.specs.Reply.{reply_of, outcome_of}
use Rattle.tc_aead_cipher.specs.PacketCheck.{packet_check}
use Rattle.tc_aead_cipher.proofs.VariantLaws.{sizes}
use Rattle.tc_aead_cipher.proofs.PacketCheckLaws.{PacketCase, packet_case, packet_check-key, packet_check-nonce, packet_check_short}
use Rattle.tc_aead_cipher.proofs.PacketCheckLaws.{packet_check-room, packet_check_passes}
use Rattle.tc_sparkle_aead.specs.Message.{written}
use Rattle.tc_sparkle_aead.specs.OpenWhole.{tag_check, verify, open_whole}
use Rattle.tc_sparkle_aead.specs.Sheet.{run}
use Rattle.claims.specs.Messages.{message_calls, Rooms, Completes}
use Rattle.claims.specs.WholeOpening.{NotOpened, Opened}
use Rattle.claims.proofs.AcceptedMessages.{opened}

module _ (v : SparkleVariant) (key nonce header packet : List ℕ) (room : ℕ) where
  -- ---- The answer

  -- Where its line holds, a number comes back.
  not_opened_answers : (r : List ℕ) → NotOpened v key nonce header packet room r
      → verify v key nonce header packet room ≡ no r
  unfolding verify
  not_opened_answers r (NotOpened.key-length w) = rw packet_check-key
  not_opened_answers r (NotOpened.nonce-length k w) = rw packet_check-nonce
  not_opened_answers r (NotOpened.too_short k n short) = rw packet_check_short
  not_opened_answers r (NotOpened.no_room k n enough less) = rw packet_check-room
  not_opened_answers r (NotOpened.tag_differs k n enough fits wrong) = rw (packet_check_passes, wrong)

  -- Where all checks pass, the count comes back.
  opened-answers : (n : ℕ) → Opened v key nonce header packet room n → verify v key nonce header packet room ≡ ok n
  unfolding verify
  opened-answers n w =
      let fits : length packet - (params_of v).key ≤ room = omega arith in
      rw (
        packet_check_passes (params_of v) (length key) (length nonce) (length packet) room w.key-is w.nonce-is
            w.has-tag fits,
        w.verifies,
        ← w.count-is,
      )

  -- What an answer tells.
  data Answered : Outcome → Type 0 where
    of-count : {n : ℕ} → Opened v key nonce header packet room n → Answered (ok n)
    of_number : {r : List ℕ} → NotOpened v key nonce header packet room r → Answered (no r)

  answered-count : {n : ℕ} → Opened v key nonce header packet room n → Answered (verify v key nonce header packet room)
  answered-count {n} w = rw (opened-answers n w) (of-count w)

  answered-number : {r : List ℕ} → NotOpened v key nonce header packet room r
      → Answered (verify v key nonce header packet room)
  answered-number {r} w = rw (not_opened_answers r w) (of_number w)

  answered : Answered (verify v key nonce header packet room)
  answered = by (packet_case (params_of v) (length key) (length nonce) (length packet) room)
    where
      by : PacketCase (params_of v) (length key) (length nonce) (length packet) room
          → Answered (verify v key nonce header packet room)
      by (PacketCase.key-length w q) = answered-number (NotOpened.key-length w)
      by (PacketCase.nonce-length k w q) = answered-number (NotOpened.nonce-length k w)
      by (PacketCase.too_short k n short q) = answered-number (NotOpened.too_short k n short)
      by (PacketCase.no_room k n enough less q) = answered-number (NotOpened.no_room k n enough less)
      by (PacketCase.passes k n enough fits q) = by-tag (verified (params_of v) key nonce header packet) refl
        where
          by-tag : (b : Bool) → verified (params_of v) key nonce header packet ≡ b
              → Answered (verify v key nonce header packet room)
          by-tag true right =
              answered-count (record {
                key-is = k;
                nonce-is = n;
                has-tag = enough;
                count-is = refl;
                has_room = fits;
                verifies = right;
              })
          by-tag false wrong = answered-number (NotOpened.tag_differs k n enough fits wrong)

  -- And neither comes back elsewhere.
  answer-opened : (n : ℕ) → verify v key nonce header packet room ≡ ok n → Opened v key nonce header packet room n
  answer-opened n q = go (verify v key nonce header packet room) answered q
    where
      go : (o : Outcome) → Answered o → o ≡ ok n → Opened v key nonce header packet room n
      go o (of-count {n = m} w) q = subst (Opened v key nonce header packet room) (let z : m ≡ n = cc in z) w
      go o (of_number w) q = absurd (let z : ◌≡◌ {A = ℕ} 0 1 = cc in omega arith)

  answer_not_opened : (r : List ℕ) → verify v key nonce header packet room ≡ no r
      → NotOpened v key nonce header packet room r
  answer_not_opened r q = go (verify v key nonce header packet room) answered q
    where
      go : (o : Outcome) → Answered o → o ≡ no r → NotOpened v key nonce header packet room r
      go o (of-count w) q = absurd (let z : ◌≡◌ {A = ℕ} 0 1 = cc in omega arith)
      go o (of_number {r = l} w) q = subst (NotOpened v key nonce header packet room) (let z : l ≡ r = cc in z) w

  pub refused_exactly : (r : List ℕ)
      → (verify v key nonce header packet room ≡ no r) ↔ NotOpened v key nonce header packet room r
  refused_exactly r = (answer_not_opened r, not_opened_answers r)

  pub opened_exactly : (n : ℕ) → (verify v key nonce header packet room ≡ ok n) ↔ Opened v key nonce header packet room n
  opened_exactly n = (answer-opened n, opened-answers n)

  reply_of_answer : outcome_of (reply_of (verify v key nonce header packet room)) ≡ verify v key nonce header packet room
  reply_of_answer = go (verify v key nonce header packet room) answered
    where
      go : (o : Outcome) → Answered o → outcome_of (reply_of o) ≡ o
      go o (of-count w) = refl
      go o (of_number (NotOpened.key-length w)) = refl
      go o (of_number (NotOpened.nonce-length k w)) = refl
      go o (of_number (NotOpened.too_short k n short)) = refl
      go o (of_number (NotOpened.no_room k n enough less)) = refl
      go o (of_number (NotOpened.tag_differs k n enough fits wrong)) = refl

-- ---- The output

module _ (v : SparkleVariant) (key nonce header packet out : List ℕ) where
  -- The opening's reply has the answer.
  pub reply_tells : outcome_of (open_whole v key nonce header packet out).reply
      ≡ verify v key nonce header packet (length out)
  unfolding open_whole
  reply_tells = reply_of_answer v key nonce header packet (length out)

  -- A refusal leaves what was lent.
  pub refused-leaves : (r : List ℕ) → verify v key nonce header packet (length out) ≡ no r
      → open_whole v key nonce header packet out ≡ record { reply = reply_of (no r); out = out }
  unfolding open_whole
  refused-leaves r q = rw q

  module _ (n : ℕ) (q : verify v key nonce header packet (length out) ≡ ok n) where
    accepted : Opened v key nonce header packet (length out) n
    accepted = (opened_exactly v key nonce header packet (length out) n).0 q

    message-length : length (decrypt (params_of v) key nonce header (body_of (params_of v) packet)) ≡ n
    unfolding body_of
    message-length =
        let w = accepted in
        let within : length packet - (params_of v).key ≤ length packet = omega arith in
        omega (
          arith,
          length-decrypt (params_of v) (sizes v) key nonce header (body_of (params_of v) packet),
          length-take-le (length packet - (params_of v).key) packet within,
        )

    -- A success leaves the message and behind it what was lent.
    message-written : open_whole v key nonce header packet out
        ≡ record {
          reply = reply_of (ok n);
          out = decrypt (params_of v) key nonce header (body_of (params_of v) packet) ++ drop n out;
        }
    unfolding open_whole written
    message-written = rw (q, message-length)

    pub opened-holds : (open_whole v key nonce header packet out
        ≡ record {
          reply = reply_of (ok n);
          out = decrypt (params_of v) key nonce header (body_of (params_of v) packet) ++ drop n out;
        })
        × (length (decrypt (params_of v) key nonce header (body_of (params_of v) packet)) ≡ n)
    opened-holds = (message-written, message-length)

    -- What is written, up to the count, is the message.
    counted : take n (open_whole v key nonce header packet out).out
        ≡ decrypt (params_of v) key nonce header (body_of (params_of v) packet)
    counted =
        rw message-written
        (take_at (decrypt (params_of v) key nonce header (body_of (params_of v) packet)) (drop n out) n message-length)

    -- The same bytes are written by document 01's calls.
    pub as_by_calls : (before : List Call) (data_out endOut : List ℕ)
        → Rooms (run v before)
        (message_calls Decrypt key nonce (params_of v).key header [] (Call.Data packet data_out ∷ []) endOut)
        → Completes (run v before)
        (message_calls Decrypt key nonce (params_of v).key header [] (Call.Data packet data_out ∷ []) endOut)
        (take n (open_whole v key nonce header packet out).out)
        (tag (params_of v) key nonce header (decrypt (params_of v) key nonce header (body_of (params_of v) packet)))
        (steps (params_of v) (length header) n % 2 ^ 64)
    as_by_calls before data_out endOut rooms =
        let w = accepted in
        let c =
        opened v before key nonce (params_of v).key header [] (Call.Data packet data_out ∷ []) endOut w.key-is
        w.nonce-is refl tt (tt, tt) rooms (rw append-nil w.has-tag)
        (rw (append-nil header, append-nil packet) w.verifies) in
        rw (counted, w.count-is) (rw (append-nil header, append-nil packet) at c)

-- ---- Sealed packets

module _ (v : SparkleVariant) (key nonce header m out : List ℕ) where
  -- What is sealed is opened.
  pub sealed_opens : length key ≡ (params_of v).key → length nonce ≡ (params_of v).rate → length m ≤ length out
      → open_whole v key nonce header (seal (params_of v) key nonce header m) out
      ≡ record { reply = reply_of (ok (length m)); out = m ++ drop (length m) out }
  sealed_opens k n fits =
      let p = params_of v in
      let h = sizes v in
      let packet = seal p key nonce header m in
      let l = length-seal p h key nonce header k m in
      let w : Opened v key nonce header packet (length out) (length m) =
      record {
        key-is = k;
        nonce-is = n;
        has-tag = omega arith;
        count-is = omega arith;
        has_room = fits;
        verifies = verified-seal p h key nonce header k m;
      } in
      message-written v key nonce header packet out (length m)
      (opened-answers v key nonce header packet (length out) (length m) w)
      ∙ rw (body-seal p h key nonce header k m, decrypt-encrypt p h key nonce header m)

-- ---- Two refused packets

-- Two refusals behind the same checks have one number.
one_number : (b b' : Bool) (o : Outcome) (r r' : List ℕ) → tag_check b o ≡ no r → tag_check b' o ≡ no r' → r ≡ r'
one_number b b' (no s) r r' q q' = cc
one_number true b' (ok n) r r' q q' = absurd (let z : ◌≡◌ {A = ℕ} 0 1 = cc in omega arith)
one_number false true (ok n) r r' q q' = absurd (let z : ◌≡◌ {A = ℕ} 0 1 = cc in omega arith)
one_number false false (ok n) r r' q q' = cc

module _ (v : SparkleVariant) (key nonce header packet key' nonce' header' packet' : List ℕ)
    (k : length key ≡ length key') (n : length nonce ≡ length nonce') (p : length packet ≡ length packet') where
  same-refusal : (room : ℕ) (r r' : List ℕ) → verify v key nonce header packet room ≡ no r
      → verify v key' nonce' header' packet' room ≡ no r' → r ≡ r'
  unfolding verify
  same-refusal room r r' q q' =
      one_number (verified (params_of v) key nonce header packet) (verified (params_of v) key' nonce' header' packet')
      (packet_check (params_of v) (length key') (length nonce') (length packet') room) r r' (rw (k, n, p) at q) q'

  -- Two refused packets of equal lengths leave the same.
  pub refused-alike : (out r r' : List ℕ) → verify v key nonce header packet (length out) ≡ no r
      → verify v key' nonce' header' packet' (length out) ≡ no r'
      → open_whole v key nonce header packet out ≡ open_whole v key' nonce' header' packet' out
  refused-alike out r r' q q' =
      rw (
        refused-leaves v key nonce header packet out r q,
        refused-leaves v key' nonce' header' packet' out r' q',
        same-refusal (length out) r r' q q',
      )
