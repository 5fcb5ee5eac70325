-- What an accepted data call and an end past its checks answer and write, on the engine that the reader gives: the
-- specification's next bytes for the data so far.
use mathlib.Core.Path.{◌≡◌, refl, sym, ap, ap₂, ◌∙◌}
use mathlib.Core.Bool.{Bool, true, false, cond}
use mathlib.Core.List.{List, ◌++◌, append_assoc}
use Prim.Native.Nat.{ℕ, ◌+◌, ◌-◌, ◌*◌, ◌^◌, ◌≤◌}
use native.Mathlib.Omega.{arith}
use lib.Dec.{ltb}
use borrow.Author.Tests.{ltb-false}
use lib.ListN.{length, drop, length-append, length-drop, length-take}
use lib.Seq.{take_at, drop_at}
use Rattle.std.specs.Prelude.{Result, Ok, Err}
use Rattle.schwaemm.specs.Blocks.{ready, given, held}
use Rattle.schwaemm.specs.Schwaemm.{Params, crypt, prepared, sealing, opening as openingBlock, message_block, before_last, last_block, crypted, encrypt, decrypt, tag, seal, body as body_of, leading}
use Rattle.schwaemm.proofs.Cut.{ready_bound, rest_below, length-held}
use Rattle.schwaemm.proofs.States.{length-prepared, length-crypt}
use Rattle.schwaemm.proofs.RoundTrip.{length_blocks, length_crypted_blocks, length-before_last, last_block-fits, length-tag}
use Rattle.tc_aead_cipher.specs.declared.variant.SparkleVariant.{SparkleVariant}
use Rattle.tc_aead_cipher.specs.declared.phase.Direction.{Direction}
use Rattle.tc_aead_cipher.specs.declared.phase.Direction.TheVariants.{Encrypt, Decrypt}
use Rattle.tc_aead_cipher.specs.declared.phase.Phase.{Phase}
use Rattle.tc_aead_cipher.specs.declared.phase.Phase.TheVariants.{Uninitialized, Init, Aad, Data, Final}
use Rattle.tc_aead_cipher.specs.declared.aead_error.AeadError.TheVariants.{OutputTooShort, CiphertextTooShort, InputTooLong}
use Rattle.tc_aead_cipher.specs.declared.aead_error.AeadError.{AeadError}
use Rattle.tc_sparkle_aead.specs.declared.message.Mac.{Mac}
use Rattle.tc_sparkle_aead.specs.declared.engine.Steps.{Steps}
use Rattle.tc_sparkle_aead.specs.declared.engine.SparkleEngine.{SparkleEngine}
use Rattle.tc_aead_cipher.specs.Variant.{params_of}
use Rattle.tc_aead_cipher.specs.Checks.{opens, opening, keep, held_data, then, within64, update_len, total_len, phase_check, room, data_check, whole, end_check}
use Rattle.tc_sparkle_aead.specs.Message.{state_in, stream, block_count, plain_of, written, plain_by, stream_out, seal_last, seal_tag, open_block, open_last}
use Rattle.tc_sparkle_aead.specs.Calls.{begin_data, data_out}
use Rattle.tc_aead_cipher.proofs.VariantLaws.{sizes, small}
use Rattle.claims.specs.Refused.{Active}
use Rattle.claims.specs.Reader.{Reader, reader_held, data_phase, Load, last_key, last_nonce}
use Rattle.claims.specs.Messages.{released, Writes}
use Rattle.tc_sparkle_aead.proofs.Points.{held_nil, block_point}
use Rattle.tc_sparkle_aead.proofs.OpeningEnd.{packet-given}
use Rattle.claims.proofs.Invariant.{pair_in, PhaseInvariant, engine_of, data_point, point_in, then_good, holds-data, state-data}
use Rattle.claims.proofs.Invariant.{LoadsFit, is_loaded, last_fits, data-given, phase_agrees}
use Rattle.claims.proofs.InvariantKept.{reader_of, in_data, steps_at_data, begin_data_lem, sealing-state, sealing-block, sealing-tag}
use Rattle.claims.proofs.InvariantKept.{opening-block, opening-last}
use Rattle.tc_sparkle_aead.specs.Engine.{current_key}

-- ---- What passed checks say

pub record DataPassed (p : Params) (phase : Phase) (held k a n : ℕ) : Type 0 where
  pub count : n ≡ ready p.rate (keep p phase) (held_data p phase held + k) * p.rate
  pub fits : n ≤ a

within_good : (sum n k : ℕ) (b : Bool) → ltb sum (2 ^ 64) ≡ b
    → ◌≡◌ {A = Result ℕ AeadError} (cond b (Ok n) (Err InputTooLong)) (Ok k) → n ≡ k
within_good sum n k true t e = cc
within_good sum n k false t e = absurd (let z : ◌≡◌ {A = ℕ} 0 1 = cc in omega arith)

room_good : (a n k : ℕ) (b : Bool) → ltb a n ≡ b → ◌≡◌ {A = Result ℕ AeadError} (cond b (Err (OutputTooShort n a)) (Ok n)) (Ok k)
    → (n ≡ k) × (n ≤ a)
room_good a n k true t e = absurd (let z : ◌≡◌ {A = ℕ} 0 1 = cc in omega arith)
room_good a n k false t e = (cc, ltb-false a n t)

pub data_good : (p : Params) (phase : Phase) (held k a n : ℕ) → data_check p phase held k a ≡ Ok n
    → DataPassed p phase held k a n
unfolding data_check update_len
data_good p phase held k a n e =
    let h = held_data p phase held in
    let m = ready p.rate (keep p phase) (h + k) * p.rate in
    let s1 = then_good (phase_check phase) (λ _. then (update_len p phase held k) (room a)) n e in
    let s2 = then_good (update_len p phase held k) (room a) n s1.2 in
    let s3 = within_good (h + k) m s2.0 (ltb (h + k) (2 ^ 64)) refl s2.1 in
    let s4 = room_good a s2.0 n (ltb a s2.0) refl s2.2 in
    record { count = sym s4.0 ∙ sym s3; fits = omega arith }

pub record EndPassed (p : Params) (phase : Phase) (held a n : ℕ) : Type 0 where
  pub count : n ≡ cond (opening phase) (held_data p phase held - p.key) (held_data p phase held + p.key)
  pub fits : n ≤ a

total_good : (p : Params) (h k : ℕ) (b : Bool)
    → cond b (within64 (h + 0) (h + 0 - p.key)) (within64 (h + 0 + p.key) (h + 0 + p.key)) ≡ Ok k
    → k ≡ cond b (h - p.key) (h + p.key)
total_good p h k true e =
    omega (arith, within_good (h + 0) (h + 0 - p.key) k (ltb (h + 0) (2 ^ 64)) refl e)
total_good p h k false e =
    omega (arith, within_good (h + 0 + p.key) (h + 0 + p.key) k (ltb (h + 0 + p.key) (2 ^ 64)) refl e)

whole_same : (p : Params) (h j n : ℕ) (b c : Bool)
    → cond b (cond c (Err (CiphertextTooShort p.key h)) (Ok j)) (Ok j) ≡ Ok n → j ≡ n
whole_same p h j n true true e = absurd (let z : ◌≡◌ {A = ℕ} 0 1 = cc in omega arith)
whole_same p h j n true false e = cc
whole_same p h j n false c e = cc

pub end_good : (p : Params) (phase : Phase) (held a n : ℕ) → end_check p phase held a ≡ Ok n → EndPassed p phase held a n
unfolding end_check total_len
end_good p phase held a n e =
    let h = held_data p phase held in
    let s1 = then_good (phase_check phase) (λ _. then (then (total_len p phase held 0) (room a)) (whole p phase held)) n e in
    let s2 = then_good (then (total_len p phase held 0) (room a)) (whole p phase held) n s1.2 in
    let s3 = then_good (total_len p phase held 0) (room a) s2.0 s2.1 in
    let s4 = room_good a s3.0 s2.0 (ltb a s3.0) refl s3.2 in
    let s5 = total_good p h s3.0 (opening phase) s3.1 in
    let s6 = whole_same p h s2.0 n (opening phase) (ltb h p.key) s2.2 in
    record { count = sym s6 ∙ sym s4.0 ∙ s5; fits = omega arith }

-- the phases of accepted calls
pub phase_active : (phase : Phase) (k : ℕ) → phase_check phase ≡ Ok k → (d : Direction) × Active d phase
phase_active Uninitialized k e = absurd (let z : ◌≡◌ {A = ℕ} 0 1 = cc in omega arith)
phase_active (Init d) k e = (d, Active.in-init)
phase_active (Aad d) k e = (d, Active.in_aad)
phase_active (Data d) k e = (d, Active.in-data)
phase_active (Final d) k e = absurd (let z : ◌≡◌ {A = ℕ} 0 1 = cc in omega arith)

pub data_passed_active : (p : Params) (phase : Phase) (held k a n : ℕ) → data_check p phase held k a ≡ Ok n
    → (d : Direction) × Active d phase
unfolding data_check
data_passed_active p phase held k a n e =
    let s1 = then_good (phase_check phase) (λ _. then (update_len p phase held k) (room a)) n e in
    phase_active phase s1.0 s1.1

pub end_passed_active : (p : Params) (phase : Phase) (held a n : ℕ) → end_check p phase held a ≡ Ok n
    → (d : Direction) × Active d phase
unfolding end_check
end_passed_active p phase held a n e =
    let s1 = then_good (phase_check phase) (λ _. then (then (total_len p phase held 0) (room a)) (whole p phase held)) n e in
    phase_active phase s1.0 s1.1

-- ---- Outputs

pub writes : (before after out w : List ℕ) (n : ℕ) → after ≡ before ++ w → length w ≡ n → n ≤ length out
    → Writes before after out (written w out) n
unfolding written
writes before after out w n e l fits =
    record {
      bytes = e ∙ ap (λ (x : List ℕ). before ++ x) (sym (take_at w (drop (length w) out) n l));
      rest = drop_at w (drop (length w) out) n l ∙ ap (λ (k : ℕ). drop k out) l;
      length-same = simp (length-append, length-drop) (omega arith);
    }

-- ---- A phase that takes data

pub active_phase : {d : Direction} {phase : Phase} → Active d phase → data_phase phase ≡ Data d
active_phase Active.in-init = refl
active_phase Active.in_aad = refl
active_phase Active.in-data = refl

pub active_keep : (p : Params) {d : Direction} {phase : Phase} → Active d phase → keep p phase ≡ keep p (Data d)
active_keep p Active.in-init = refl
active_keep p Active.in_aad = refl
active_keep p Active.in-data = refl

pub active_opening : {d : Direction} {phase : Phase} → Active d phase → opening phase ≡ opens d
active_opening Active.in-init = refl
active_opening Active.in_aad = refl
active_opening Active.in-data = refl

module _ (v : SparkleVariant) where
  abbrev p : Params
  p = params_of v

  module _ (loads : List Load) (initial : List ℕ) where
    abbrev key : List ℕ
    key = last_key loads

    abbrev nonce : List ℕ
    nonce = last_nonce loads

    -- the reader by its other parts, and the engine in its data
    abbrev reader_in : Phase → (header body : List ℕ) → Reader
    reader_in phase header body = reader_of loads initial phase header body

    abbrev data_engine : Direction → (header body : List ℕ) → Steps → SparkleEngine
    data_engine d header body s = in_data v loads initial d header body s

    module _ (f : LoadsFit p loads) (header body : List ℕ) (mac : Mac) where
      -- what is held
      pub buffered-count : {d : Direction} {phase : Phase} → Active d phase
          → PhaseInvariant p phase loads header body mac
          → held_data p phase (reader_held p (reader_in phase header body))
          ≡ length (held p.rate (keep p (Data d)) body)
      buffered-count {d = d} Active.in-init st =
          rw (st.3, held_nil p.rate (keep p (Data d)))
      buffered-count {d = d} Active.in_aad st =
          rw (st.3, held_nil p.rate (keep p (Data d)))
      buffered-count {d = d} Active.in-data st =
          let h = sizes v in
          omega (
            arith,
            length-held p.rate (keep p (Data d)) body,
            rest_below p.rate (keep p (Data d))
                h.rate_positive (length body),
          )

      pub released-data : {d : Direction} {phase : Phase} → Active d phase
          → released p (reader_in phase header body)
          ≡ released p (reader_in (Data d) header body)
      unfolding released plain_of plain_by
      released-data Active.in-init = refl
      released-data Active.in_aad = refl
      released-data Active.in-data = refl

      -- a data call
      module _ (d : Direction) (s : Steps) (input : List ℕ) where
        data-bytes : released p (reader_in (Data d) header (body ++ input))
            ≡ released p (reader_in (Data d) header body)
            ++ data_out (data_engine d header body s) input
        unfolding released data_out data_point block_point stream_out
        data-bytes = sym (data-given p (sizes v) (small v) d key nonce header body input (crypt p))

        data-length : length (data_out (data_engine d header body s) input)
            ≡ ready p.rate (keep p (Data d)) (length (held p.rate (keep p (Data d)) body) + length input) * p.rate
        unfolding data_out data_point block_point block_count stream stream_out
        data-length =
            let at = data_point p d key nonce header body in
            let plain = plain_of p (Data d) in
            let first = prepared p key nonce header in
            length_crypted_blocks p (sizes v) plain (block_count p (keep p (Data d)) at input) (state_in p at.words)
            (stream p at input)
            (ap length (state-data p (sizes v) (small v) d key nonce header body)
            ∙ length_blocks p (sizes v) plain (ready p.rate (keep p (Data d)) (length body)) first body
            (length-prepared p (sizes v) key nonce header))
            (ready_bound p.rate (keep p (Data d)) (length (stream p at input)))
            ∙ ap (λ (k : ℕ). ready p.rate (keep p (Data d)) k * p.rate)
            (ap (λ (l : List ℕ). length (l ++ input)) (holds-data p (sizes v) (small v) d key nonce header body)
            ∙ length-append (held p.rate (keep p (Data d)) body) input)

      pub message-writes : (s : Steps) {d : Direction} {phase : Phase} → Active d phase
          → PhaseInvariant p phase loads header body mac
          → (input out : List ℕ) (k : ℕ)
          → DataPassed p phase (reader_held p (reader_in phase header body)) (length input) (length out) k
          → Writes (released p (reader_in phase header body))
          (released p (reader_in (data_phase phase) header (body ++ input)))
          out (written (data_out (begin_data (engine_of v (reader_in phase header body) mac s)) input) out) k
      message-writes s {d} {phase} t st input out k ok =
          let r = reader_in phase header body in
          let at-data = steps_at_data p phase s in
          let is = begin_data_lem v loads initial f t header body mac s st in
          let e : released p (reader_in (data_phase phase) header (body ++ input))
          ≡ released p r ++ data_out (begin_data (engine_of v r mac s)) input =
          ap (λ (x : Phase). released p (reader_in x header (body ++ input))) (active_phase t)
          ∙ data-bytes d at-data input
          ∙ ap₂ (λ (x : List ℕ) (y : SparkleEngine). x ++ data_out y input) (sym (released-data t)) (sym is)
          in
          let l : length (data_out (begin_data (engine_of v r mac s)) input) ≡ k =
          ap (λ (y : SparkleEngine). length (data_out y input)) is ∙ data-length d at-data input
          ∙ ap₂ (λ (x y : ℕ). ready p.rate x (y + length input) * p.rate) (sym (active_keep p t)) (sym (buffered-count t st))
          ∙ sym ok.count
          in
          writes (released p r) _ out (data_out (begin_data (engine_of v r mac s)) input) k e l ok.fits

      -- the end of a sealing
      pub seal-bytes : is_loaded loads ≡ true → seal p key nonce header body
          ≡ released p (reader_in (Data Encrypt) header body)
          ++ (seal_last p (data_point p Encrypt key nonce header body) ++ seal_tag p (current_key p (pair_in loads)) (data_point p Encrypt key nonce header body))
      unfolding seal encrypt crypted released seal_last leading plain_of plain_by
      seal-bytes l =
          rw (
            sealing-tag v loads initial f l header body,
            sealing-state v loads initial f l header body,
            sealing-block v loads initial f l header body,
          )
          (append_assoc
          (given p.rate (message_block p (sealing p)) (crypt p) (ready p.rate 0 (length body))
          (prepared p key nonce header) body)
          (crypt p (before_last p (sealing p) (prepared p key nonce header) body) (last_block p body))
          (tag p key nonce header body))

      pub seal-length : is_loaded loads ≡ true
          → length (seal_last p (data_point p Encrypt key nonce header body) ++ seal_tag p (current_key p (pair_in loads)) (data_point p Encrypt key nonce header body))
          ≡ length (held p.rate 0 body) + p.key
      unfolding seal_last
      seal-length l =
          let first = prepared p key nonce header in
          let b = length-before_last p (sizes v) (sealing p) first body (length-prepared p (sizes v) key nonce header) in
          rw (
            sealing-tag v loads initial f l header body,
            sealing-state v loads initial f l header body,
            sealing-block v loads initial f l header body,
          )
          (simp length-append
          (omega (
            arith,
            length-crypt p (sizes v) (before_last p (sealing p) first body) b (last_block p body),
            last_block-fits p (sizes v) body,
            length-tag p (sizes v) key nonce header (last_fits p loads f l).key_fits body,
            held-last,
          )))
        where
          held-last : length (held p.rate 0 body) ≡ length (last_block p body)
          held-last = unfold held last_block leading in refl

      -- the end of an opening
      module _ (l : is_loaded loads ≡ true) (enough : p.key ≤ length body) where
        pub open_bytes_lem : decrypt p key nonce header (body_of p body)
            ≡ released p (reader_in (Data Decrypt) header body)
            ++ open_last p (data_point p Decrypt key nonce header body)
        unfolding decrypt crypted released plain_of plain_by
        open_bytes_lem =
            rw (
              opening-last v loads initial f l header body enough,
              packet-given p body enough (message_block p (openingBlock p)) (crypt p) (prepared p key nonce header),
            )

        pub open_length : length (open_block p (data_point p Decrypt key nonce header body))
            ≡ length (held p.rate p.key body) - p.key
        unfolding open_block
        open_length =
            let e = holds-data p (sizes v) (small v) Decrypt key nonce header body in
            simp length-take (omega (arith, ap length e))

        pub last-length : length (open_last p (data_point p Decrypt key nonce header body))
            ≡ length (held p.rate p.key body) - p.key
        last-length =
            let first = prepared p key nonce header in
            let c = body_of p body in
            let b = length-before_last p (sizes v) (openingBlock p) first c (length-prepared p (sizes v) key nonce header) in
            ap length (opening-last v loads initial f l header body enough)
            ∙ omega (
              arith,
              length-crypt p (sizes v) (before_last p (openingBlock p) first c) b (last_block p c),
              last_block-fits p (sizes v) c,
              open_length,
              ap length (opening-block v loads initial f l header body enough),
            )

      -- the end, past its checks, by the direction
      module _ {d : Direction} {phase : Phase} (t : Active d phase)
          (st : PhaseInvariant p phase loads header body mac)
          (out : List ℕ) (k : ℕ)
          (ok : EndPassed p phase (reader_held p (reader_in phase header body)) (length out) k) where
        pub is_open_lem : opening (point_in p phase key nonce header body).phase ≡ opens d
        is_open_lem = ap opening (phase_agrees p key nonce header body phase) ∙ active_opening t

        -- how much is written
        pub end-count : k ≡ cond (opens d) (length (held p.rate (keep p (Data d)) body) - p.key)
            (length (held p.rate (keep p (Data d)) body) + p.key)
        end-count =
            ok.count ∙ ap₂ (λ (b : Bool) (h : ℕ). cond b (h - p.key) (h + p.key)) (active_opening t) (buffered-count t st)
