-- Demand 1, for every engine value and every call: what each of the eleven numbers leaves, and where it comes back.
use mathlib.Core.Path.{◌≡◌, refl, ap, subst, ◌∙◌}
use mathlib.Core.Logic.{◌↔◌}
use mathlib.Core.Bool.{Bool, true, false, cond}
use mathlib.Core.List.{List, [], ◌∷◌}
use Prim.Native.Nat.{ℕ, ◌+◌, ◌-◌, ◌*◌, ◌^◌, ◌≤◌, ◌<◌, min}
use native.Mathlib.Omega.{arith}
use lib.ListN.{length, length-take, length-replicate}
use Rattle.std.specs.Prelude.{Result, Ok, Err}
use Rattle.schwaemm.specs.Bytes.{same}
use Rattle.tc_aead_cipher.specs.declared.phase.Direction.{Direction}
use Rattle.tc_aead_cipher.specs.declared.phase.Direction.TheVariants.{Encrypt, Decrypt}
use Rattle.tc_aead_cipher.specs.declared.phase.Phase.{Phase}
use Rattle.tc_aead_cipher.specs.declared.phase.Phase.TheVariants.{Uninitialized, Init, Aad, Data, Final}
use Rattle.tc_aead_cipher.specs.declared.aead_error.AeadError.{AeadError}
use Rattle.tc_aead_cipher.specs.declared.aead_error.AeadError.TheVariants.{NotInitialized, AlreadyFinalized, OutputTooShort}
use Rattle.tc_aead_cipher.specs.declared.aead_error.AeadError.TheVariants.{CiphertextTooShort, InputTooLong}
use Rattle.tc_aead_cipher.specs.declared.aead_init_error.AeadInitError.{AeadInitError}
use Rattle.tc_sparkle_aead.specs.declared.engine.SparkleEngine.{SparkleEngine}
use Rattle.tc_aead_cipher.specs.Variant.{params_of}
use Rattle.tc_aead_cipher.specs.Checks.{opens, opening, held_data, phase_check, header_check, update_len, total_len, aad_check}
use Rattle.tc_aead_cipher.specs.Checks.{data_check, end_check, start_check}
use Rattle.tc_sparkle_aead.specs.Message.{zeros, buffered, last_steps, written, after_header, without_header, open_block, open_out_by}
use Rattle.tc_sparkle_aead.specs.Engine.{refused_steps, repeats, update_output_len, output_len}
use Rattle.tc_sparkle_aead.specs.Calls.{refused, init_by, aad_by, process_aad_bytes, data_by, data_out_by, data_answer, final_answer}
use Rattle.tc_sparkle_aead.specs.Calls.{final_engine, add_steps, process_bytes}
use Rattle.tc_sparkle_aead.specs.Calls.{process_bytes_out, begin_data, open_final, open_final_by, seal_final}
use Rattle.tc_sparkle_aead.specs.Calls.{final_by, final_out_by, do_final, do_final_out}
use Rattle.tc_aead_cipher.proofs.CheckLaws.{update_len-over, update_len-fits, total_len-over, total_len-opening}
use Rattle.tc_aead_cipher.proofs.CheckLaws.{total_len-sealing, total_len_sealing_over, start_check-key, start_check-nonce}
use Rattle.tc_aead_cipher.proofs.CheckLaws.{start_check_size, start_check-opening, start_check-sealing}
use Rattle.tc_aead_cipher.proofs.VariantLaws.{sizes, Small, small}
use Rattle.schwaemm.specs.Blocks.{ready}
use Rattle.schwaemm.specs.Schwaemm.{Params}
use Rattle.schwaemm.proofs.RoundTrip.{same_of_equal, equal_of_same, both_true}
use lib.Dec.{eqb-suc-zero}
use borrow.Author.Tests.{lt-ltb, le-ltb, ne_eqb}
use native.Mathlib.Decide.{ℕ_discrete, dec_lt}
use native.Mathlib.Nat.{add-zero}
use Rattle.tc_sparkle_aead.specs.Calls.{init as initCall}
use Rattle.tc_aead_cipher.specs.Call.{Call}
use Rattle.tc_aead_cipher.specs.Outcome.{Outcome, outcome, start_outcome}
use Rattle.tc_sparkle_aead.specs.Sheet.{step}
use Rattle.tc_aead_cipher.specs.Outcome.Outcome.{ok, no}
use Rattle.claims.specs.Refused.{Returned, work_done, numbered_refusal, Active, in-init, in_aad, in-data, HasDirection, received_tag_of, computed_tag}
use Rattle.claims.specs.Refused.{Repeats, no-message, of-init, of_aad, of-data, of_final, held_at, engine_held, key_of}
use Rattle.claims.specs.Refused.{rate_of, data_writes, end_writes, output_sum, Refused, key-length, nonce-length, mac_size}
use Rattle.claims.specs.Refused.{data-room, end-room, no-tag, tag_differs, data-sum, update_sum, output-sum}
use Rattle.claims.specs.Refused.{header_not_initialized, data_not_initialized, end_not_initialized, header_after_data}
use Rattle.claims.specs.Refused.{header_finalized, data_finalized, end_finalized, nonce_reuse, OfStart, one, two, three}
use Rattle.claims.specs.Refused.{eleven, Unchanging, four, five, seven, eight, nine, ten, Numbered, of-start, of-tag}
use Rattle.claims.specs.Refused.{unchanging, Wiped, Unchanged, Failed}
use Rattle.claims.proofs.EngineEnd.{ciphertext, tag_right}

-- ---- The checks, by the phases that take calls

held_data-is : (p : Params) (phase : Phase) (n : ℕ) → held_data p phase n ≡ held_at p phase n
held_data-is p Uninitialized n = refl
held_data-is p (Init d) n = refl
held_data-is p (Aad d) n = refl
held_data-is p (Data Encrypt) n = ap (min n) (omega arith)
held_data-is p (Data Decrypt) n = refl
held_data-is p (Final d) n = refl

holds_bound : (p : Params) (phase : Phase) (n : ℕ) → held_at p phase n ≤ p.key + p.rate
holds_bound p Uninitialized n = omega arith
holds_bound p (Init d) n = omega arith
holds_bound p (Aad d) n = omega arith
holds_bound p (Data Encrypt) n = omega arith
holds_bound p (Data Decrypt) n = omega arith
holds_bound p (Final d) n = omega arith

active_ok : {d : Direction} {phase : Phase} → Active d phase → phase_check phase ≡ Ok 0
active_ok in-init = refl
active_ok in_aad = refl
active_ok in-data = refl

active_direction : {d : Direction} {phase : Phase} → Active d phase → HasDirection d phase
active_direction in-init = of-init
active_direction in_aad = of_aad
active_direction in-data = of-data

direction-opens : {d : Direction} {phase : Phase} → HasDirection d phase → opening phase ≡ opens d
direction-opens no-message = refl
direction-opens of-init = refl
direction-opens of_aad = refl
direction-opens of-data = refl
direction-opens of_final = refl

ready-writes : (p : Params) (d : Direction) (sum : ℕ)
    → ready p.rate (cond (opens d) p.key 0) sum * p.rate ≡ data_writes d p sum
unfolding ready
ready-writes p Encrypt sum = refl
ready-writes p Decrypt sum = refl

-- update_output_len and output_len by the direction.
module _ (p : Params) (d : Direction) (phase : Phase) (k n : ℕ) where
  update_over : 2 ^ 64 ≤ held_at p phase k + n → update_len p phase k n ≡ Err InputTooLong
  update_over over = update_len-over p phase k n (rw held_data-is over)

  update_fits : HasDirection d phase → held_at p phase k + n < 2 ^ 64
      → update_len p phase k n ≡ Ok (data_writes d p (held_at p phase k + n))
  update_fits f fits = update_len-fits p phase k n (rw held_data-is fits) ∙ rw (held_data-is, direction-opens f, ready-writes)

output-over : (p : Params) (d : Direction) (phase : Phase) (k n : ℕ) → HasDirection d phase
    → 2 ^ 64 ≤ output_sum d p (held_at p phase k + n) → total_len p phase k n ≡ Err InputTooLong
output-over p Encrypt phase k n f over = total_len_sealing_over p phase k n (direction-opens f) (rw held_data-is over)
output-over p Decrypt phase k n f over = total_len-over p phase k n (rw held_data-is over)

output-fits : (p : Params) (d : Direction) (phase : Phase) (k n : ℕ) → HasDirection d phase
    → output_sum d p (held_at p phase k + n) < 2 ^ 64 → total_len p phase k n ≡ Ok (end_writes d p (held_at p phase k + n))
output-fits p Encrypt phase k n f fits =
    total_len-sealing p phase k n (direction-opens f) (rw held_data-is fits) ∙ rw held_data-is
output-fits p Decrypt phase k n f fits =
    total_len-opening p phase k n (direction-opens f) (rw held_data-is fits) ∙ rw held_data-is

-- A data call and an end in a phase that takes them.
module _ (p : Params) (d : Direction) (phase : Phase) (k n available : ℕ) (t : Active d phase) where
  data_sum_law : 2 ^ 64 ≤ held_at p phase k + n → data_check p phase k n available ≡ Err InputTooLong
  unfolding data_check
  data_sum_law over = rw (active_ok t, update_over p d phase k n over)

  data_room_law : held_at p phase k + n < 2 ^ 64 → available < data_writes d p (held_at p phase k + n)
      → data_check p phase k n available ≡ Err (OutputTooShort (data_writes d p (held_at p phase k + n)) available)
  unfolding data_check
  data_room_law fits short = rw (active_ok t, update_fits p d phase k n (active_direction t) fits, lt-ltb _ _ short)

  data-taken : held_at p phase k + n < 2 ^ 64 → data_writes d p (held_at p phase k + n) ≤ available
      → data_check p phase k n available ≡ Ok (data_writes d p (held_at p phase k + n))
  unfolding data_check
  data-taken fits enough = rw (active_ok t, update_fits p d phase k n (active_direction t) fits, le-ltb _ _ enough)

-- the sum of an end never passes 2^64 - 1
end-sum : (p : Params) (d : Direction) (phase : Phase) (k : ℕ) → Small p
    → output_sum d p (held_at p phase k + 0) < 2 ^ 64
end-sum p Encrypt phase k s = omega (arith, holds_bound p phase k)
end-sum p Decrypt phase k s = omega (arith, holds_bound p phase k)

end_fits : (p : Params) (s : Small p) (d : Direction) (phase : Phase) (k : ℕ) → HasDirection d phase
    → total_len p phase k 0 ≡ Ok (end_writes d p (held_at p phase k))
end_fits p s d phase k f = rw add-zero at (output-fits p d phase k 0 f (end-sum p d phase k s))

module _ (p : Params) (s : Small p) (d : Direction) (phase : Phase) (k available : ℕ) (t : Active d phase) where
  end_room_law : available < end_writes d p (held_at p phase k)
      → end_check p phase k available ≡ Err (OutputTooShort (end_writes d p (held_at p phase k)) available)
  unfolding end_check
  end_room_law short = rw (active_ok t, end_fits p s d phase k (active_direction t), lt-ltb _ _ short)

module _ (p : Params) (s : Small p) (phase : Phase) (k available : ℕ) where
  seal-taken : Active Encrypt phase → held_at p phase k + p.key ≤ available
      → end_check p phase k available ≡ Ok (held_at p phase k + p.key)
  unfolding end_check
  seal-taken t enough =
      rw (
        active_ok t,
        end_fits p s Encrypt phase k (active_direction t),
        le-ltb _ _ enough,
        direction-opens (active_direction t),
      )

  module _ (t : Active Decrypt phase) where
    no_tag_law : held_at p phase k < p.key
        → end_check p phase k available ≡ Err (CiphertextTooShort p.key (held_at p phase k))
    unfolding end_check
    no_tag_law short =
        let enough : held_at p phase k - p.key ≤ available = omega arith in
        rw (
          active_ok t,
          end_fits p s Decrypt phase k (active_direction t),
          le-ltb _ _ enough,
          direction-opens (active_direction t),
          held_data-is,
          lt-ltb _ _ short,
        )

    open_taken : p.key ≤ held_at p phase k → held_at p phase k - p.key ≤ available
        → end_check p phase k available ≡ Ok (held_at p phase k - p.key)
    unfolding end_check
    open_taken whole enough =
        rw (
          active_ok t,
          end_fits p s Decrypt phase k (active_direction t),
          le-ltb _ _ enough,
          direction-opens (active_direction t),
          held_data-is,
          le-ltb _ _ whole,
        )

-- A header call that is not empty.
header_law : (phase : Phase) (n : ℕ) → 0 < n → aad_check phase n ≡ header_check phase
unfolding aad_check
header_law phase n h = rw (ne_eqb n 0 (omega arith))

-- ---- Both directions

not_same : (u v : List ℕ) → (u ≡ v → ⊥) → same u v ≡ false
not_same u v differs = go (same u v) refl
  where
    go : (b : Bool) → same u v ≡ b → b ≡ false
    go true q = absurd (differs (equal_of_same u v q))
    go false q = refl

already_begun : (e : SparkleEngine) (d : Direction) → e.current.phase ≡ Data d → begin_data e ≡ e
unfolding begin_data without_header after_header
already_begun e d q = rw q

opening-end : (e : SparkleEngine) (n : ℕ) (b : Bool) → e.current.phase ≡ Data Decrypt
    → tag_right e ≡ b → final_by (Ok n) e ≡ open_final_by b e n
unfolding open_final
opening-end e n b q h = rw (already_begun e Decrypt q, h, q)

-- The engine's comparison says whether a pair repeats.
module _ (e : SparkleEngine) (key nonce : List ℕ) where
  compared : Repeats e key nonce → repeats (params_of e.variant) e.pair key nonce ≡ true
  unfolding repeats
  compared again = rw (again.0, same_of_equal _ _ again.1, same_of_equal _ _ again.2)

  repeats_true : repeats (params_of e.variant) e.pair key nonce ≡ true → Repeats e key nonce
  unfolding repeats
  repeats_true q =
      let t = both_true _ _ q in
      let u = both_true _ _ t.1 in
      (t.0, equal_of_same _ _ u.0, equal_of_same _ _ u.1)

module _ (e : SparkleEngine) where
  -- Where its line holds, a refusal comes back.
  pub refused_comes_back : (c : Call) (r : List ℕ) → Refused e c r → (step e c).outcome ≡ no r
  unfolding step initCall process_aad_bytes process_bytes do_final update_output_len output_len
  refused_comes_back c r (key-length w) = rw start_check-key
  refused_comes_back c r (nonce-length k w) = rw start_check-nonce
  refused_comes_back c r (mac_size k n w) = rw start_check_size
  refused_comes_back c r (data-room t fits short) = rw (data_room_law _ _ _ _ _ _ t fits short)
  refused_comes_back c r (end-room t short) = rw (end_room_law _ (small e.variant) _ _ _ _ t short)
  refused_comes_back c r (no-tag t short) = rw (no_tag_law _ (small e.variant) _ _ _ t short)
  refused_comes_back c r (tag_differs q whole enough differs) =
      let t : Active Decrypt e.current.phase = rw q in-data in
      rw (open_taken _ (small e.variant) _ _ _ t whole enough, opening-end e _ false q (not_same _ _ differs))
  refused_comes_back c r (data-sum t over) = rw (data_sum_law (params_of e.variant) _ _ _ _ _ t over)
  refused_comes_back c r (update_sum over) = rw (update_over (params_of e.variant) Encrypt _ _ _ over)
  refused_comes_back c r (output-sum f over) = rw (output-over _ _ _ _ _ f over)
  refused_comes_back c r (header_not_initialized some q) = rw (header_law, q)
  refused_comes_back c r (data_not_initialized q) = unfold data_check in rw q
  refused_comes_back c r (end_not_initialized q) = unfold end_check in rw q
  refused_comes_back c r (header_after_data some q) = rw (header_law, q)
  refused_comes_back c r (header_finalized some q) = rw (header_law, q)
  refused_comes_back c r (data_finalized q) = unfold data_check in rw q
  refused_comes_back c r (end_finalized q) = unfold end_check in rw q
  refused_comes_back c r (nonce_reuse {key} {nonce} k n s again) =
      rw (start_check-sealing e.variant Encrypt _ _ _ _ k n s refl, compared e key nonce again)

module _ (e : SparkleEngine) (key nonce header : List ℕ) (size : ℕ) (k : length key ≡ key_of e)
    (n : length nonce ≡ rate_of e) (s : size ≡ key_of e) where
  start-opening : (step e (Call.Init Decrypt key nonce size header)).outcome ≡ ok 0
  unfolding step initCall
  start-opening = rw (start_check-opening e.variant Decrypt _ _ _ _ k n s refl)

  start_fresh : repeats (params_of e.variant) e.pair key nonce ≡ false
      → (step e (Call.Init Encrypt key nonce size header)).outcome ≡ ok 0
  unfolding step initCall
  start_fresh q = rw (start_check-sealing e.variant Encrypt _ _ _ _ k n s refl, q)

data-count : (e : SparkleEngine) (d : Direction) (input out : List ℕ) → Active d e.current.phase
    → engine_held e + length input < 2 ^ 64 → data_writes d (params_of e.variant) (engine_held e + length input) ≤ length out
    → (step e (Call.Data input out)).outcome ≡ ok (data_writes d (params_of e.variant) (engine_held e + length input))
unfolding step process_bytes
data-count e d input out t fits enough = rw (data-taken _ _ _ _ _ _ t fits enough)

seal-count : (e : SparkleEngine) (out : List ℕ) → Active Encrypt e.current.phase → engine_held e + key_of e ≤ length out
    → (step e (Call.Final out)).outcome ≡ ok (engine_held e + key_of e)
unfolding step do_final seal_final
seal-count e out t enough =
    rw (seal-taken _ (small e.variant) _ _ _ t enough, direction-opens (active_direction t))

-- with a tag's bytes at hand an opening is in Data
whole_in_data : (p : Params) (phase : Phase) (k : ℕ) → 0 < p.key → Active Decrypt phase → p.key ≤ held_at p phase k
    → phase ≡ Data Decrypt
whole_in_data p phase k positive in-init whole = absurd (omega arith)
whole_in_data p phase k positive in_aad whole = absurd (omega arith)
whole_in_data p phase k positive in-data whole = refl

module _ (e : SparkleEngine) (out : List ℕ) (q : e.current.phase ≡ Data Decrypt) (whole : key_of e ≤ engine_held e)
    (enough : engine_held e - key_of e ≤ length out) where
  open_count : received_tag_of e ≡ computed_tag e → (step e (Call.Final out)).outcome ≡ ok (engine_held e - key_of e)
  unfolding step do_final
  open_count equal =
      let t : Active Decrypt e.current.phase = rw q in-data in
      rw (open_taken _ (small e.variant) _ _ _ t whole enough, opening-end e _ true q (same_of_equal _ _ equal))

has-direction : (phase : Phase) → (d : Direction) × HasDirection d phase
has-direction Uninitialized = (Encrypt, no-message)
has-direction (Init d) = (d, of-init)
has-direction (Aad d) = (d, of_aad)
has-direction (Data d) = (d, of-data)
has-direction (Final d) = (d, of_final)

module _ (e : SparkleEngine) (d : Direction) (n : ℕ) (f : HasDirection d e.current.phase) where
  update_count : engine_held e + n < 2 ^ 64
      → (step e (Call.Update n)).outcome ≡ ok (data_writes d (params_of e.variant) (engine_held e + n))
  unfolding step update_output_len
  update_count fits = rw (update_fits (params_of e.variant) _ _ _ _ f fits)

  output-count : output_sum d (params_of e.variant) (engine_held e + n) < 2 ^ 64
      → (step e (Call.Output n)).outcome ≡ ok (end_writes d (params_of e.variant) (engine_held e + n))
  unfolding step output_len
  output-count fits = rw (output-fits _ _ _ _ _ f fits)

-- What an outcome tells: a count, or a refusal whose line holds.
data Answered (e : SparkleEngine) (c : Call) : Outcome → Type 0 where
  count : (n : ℕ) → Answered e c (ok n)
  number : {r : List ℕ} → Refused e c r → Answered e c (no r)

module _ (e : SparkleEngine) where
  answered-number : {c : Call} {r : List ℕ} → Refused e c r → Answered e c (step e c).outcome
  answered-number {c} {r} x = rw (refused_comes_back e c r x) (number x)

  answered-count : {c : Call} {n : ℕ} → (step e c).outcome ≡ ok n → Answered e c (step e c).outcome
  answered-count {c} {n} q = rw q (count n)

  answered-start : (d : Direction) (key nonce header : List ℕ) (size : ℕ)
      → Answered e (Call.Init d key nonce size header) (step e (Call.Init d key nonce size header)).outcome
  answered-start d key nonce header size = by_key (ℕ_discrete (length key) (key_of e))
    where
      by_repeat : (d : Direction) → length key ≡ key_of e → length nonce ≡ rate_of e → size ≡ key_of e
          → Answered e (Call.Init d key nonce size header) (step e (Call.Init d key nonce size header)).outcome
      by_repeat Encrypt k n s = by-pair (repeats (params_of e.variant) e.pair key nonce) refl
        where
          by-pair : (b : Bool) → repeats (params_of e.variant) e.pair key nonce ≡ b
              → Answered e (Call.Init Encrypt key nonce size header) (step e (Call.Init Encrypt key nonce size header)).outcome
          by-pair true q = answered-number (nonce_reuse k n s (repeats_true e key nonce q))
          by-pair false q = answered-count (start_fresh e key nonce header size k n s q)
      by_repeat Decrypt k n s = answered-count (start-opening e key nonce header size k n s)

      by_size : length key ≡ key_of e → length nonce ≡ rate_of e → Dec (size ≡ key_of e)
          → Answered e (Call.Init d key nonce size header) (step e (Call.Init d key nonce size header)).outcome
      by_size k n (Dec.no w) = answered-number (mac_size k n w)
      by_size k n (Dec.yes s) = by_repeat d k n s

      by-nonce : length key ≡ key_of e → Dec (length nonce ≡ rate_of e)
          → Answered e (Call.Init d key nonce size header) (step e (Call.Init d key nonce size header)).outcome
      by-nonce k (Dec.no w) = answered-number (nonce-length k w)
      by-nonce k (Dec.yes n) = by_size k n (ℕ_discrete size (key_of e))

      by_key : Dec (length key ≡ key_of e)
          → Answered e (Call.Init d key nonce size header) (step e (Call.Init d key nonce size header)).outcome
      by_key (Dec.no w) = answered-number (key-length w)
      by_key (Dec.yes k) = by-nonce k (ℕ_discrete (length nonce) (rate_of e))

  answered-header : (phase : Phase) (input : List ℕ) → e.current.phase ≡ phase
      → Answered e (Call.Aad input) (step e (Call.Aad input)).outcome
  unfolding step process_aad_bytes aad_check
  answered-header phase [] q = count 0
  answered-header Uninitialized (x ∷ input) q =
      let some : 0 < length (x ∷ input) = omega arith in answered-number (header_not_initialized some q)
  answered-header (Init d) (x ∷ input) q = rw (q, eqb-suc-zero) (count 0)
  answered-header (Aad d) (x ∷ input) q = rw (q, eqb-suc-zero) (count 0)
  answered-header (Data d) (x ∷ input) q =
      let some : 0 < length (x ∷ input) = omega arith in answered-number (header_after_data some q)
  answered-header (Final d) (x ∷ input) q =
      let some : 0 < length (x ∷ input) = omega arith in answered-number (header_finalized some q)

  answered-taken : (d : Direction) (input out : List ℕ) → Active d e.current.phase
      → Answered e (Call.Data input out) (step e (Call.Data input out)).outcome
  answered-taken d input out t = by-sum (dec_lt (engine_held e + length input) (2 ^ 64))
    where
      by-room : engine_held e + length input < 2 ^ 64
          → Dec (length out < data_writes d (params_of e.variant) (engine_held e + length input))
          → Answered e (Call.Data input out) (step e (Call.Data input out)).outcome
      by-room fits (Dec.yes short) = answered-number (data-room t fits short)
      by-room fits (Dec.no w) = answered-count (data-count e d input out t fits (omega arith))

      by-sum : Dec (engine_held e + length input < 2 ^ 64)
          → Answered e (Call.Data input out) (step e (Call.Data input out)).outcome
      by-sum (Dec.yes fits) = by-room fits (dec_lt (length out) (data_writes d (params_of e.variant) (engine_held e + length input)))
      by-sum (Dec.no w) = let over : 2 ^ 64 ≤ engine_held e + length input = omega arith in answered-number (data-sum t over)

  answered-message : (phase : Phase) (input out : List ℕ) → e.current.phase ≡ phase
      → Answered e (Call.Data input out) (step e (Call.Data input out)).outcome
  answered-message Uninitialized input out q = answered-number (data_not_initialized q)
  answered-message (Init d) input out q = answered-taken d input out (rw q in-init)
  answered-message (Aad d) input out q = answered-taken d input out (rw q in_aad)
  answered-message (Data d) input out q = answered-taken d input out (rw q in-data)
  answered-message (Final d) input out q = answered-number (data_finalized q)

  answered-ended : (d : Direction) (out : List ℕ) → Active d e.current.phase
      → Answered e (Call.Final out) (step e (Call.Final out)).outcome
  answered-ended d out t = by-room d t (dec_lt (length out) (end_writes d (params_of e.variant) (engine_held e)))
    where
      by-tag : Active Decrypt e.current.phase → key_of e ≤ engine_held e → engine_held e - key_of e ≤ length out
          → Answered e (Call.Final out) (step e (Call.Final out)).outcome
      by-tag t whole enough = go (tag_right e) refl
        where
          q : e.current.phase ≡ Data Decrypt
          q = whole_in_data (params_of e.variant) _ _ (sizes e.variant).key_positive t whole

          go : (b : Bool) → tag_right e ≡ b → Answered e (Call.Final out) (step e (Call.Final out)).outcome
          go true equal = answered-count (open_count e out q whole enough (equal_of_same _ _ equal))
          go false differs =
              let wrong : received_tag_of e ≡ computed_tag e → ⊥ =
              (λ equal. let w = same_of_equal _ _ equal in let z : ◌≡◌ {A = ℕ} 0 1 = cc in omega arith)
              in answered-number (tag_differs q whole enough wrong)

      by_length : Active Decrypt e.current.phase → engine_held e - key_of e ≤ length out → Dec (engine_held e < key_of e)
          → Answered e (Call.Final out) (step e (Call.Final out)).outcome
      by_length t enough (Dec.yes short) = answered-number (no-tag t short)
      by_length t enough (Dec.no w) = by-tag t (omega arith) enough

      by-room : (d : Direction) → Active d e.current.phase
          → Dec (length out < end_writes d (params_of e.variant) (engine_held e))
          → Answered e (Call.Final out) (step e (Call.Final out)).outcome
      by-room d t (Dec.yes short) = answered-number (end-room t short)
      by-room Encrypt t (Dec.no w) = answered-count (seal-count e out t (omega arith))
      by-room Decrypt t (Dec.no w) = by_length t (omega arith) (dec_lt (engine_held e) (key_of e))

  answered-end : (phase : Phase) (out : List ℕ) → e.current.phase ≡ phase
      → Answered e (Call.Final out) (step e (Call.Final out)).outcome
  answered-end Uninitialized out q = answered-number (end_not_initialized q)
  answered-end (Init d) out q = answered-ended d out (rw q in-init)
  answered-end (Aad d) out q = answered-ended d out (rw q in_aad)
  answered-end (Data d) out q = answered-ended d out (rw q in-data)
  answered-end (Final d) out q = answered-number (end_finalized q)

  answered_update : (n : ℕ) → Dec (engine_held e + n < 2 ^ 64) → Answered e (Call.Update n) (step e (Call.Update n)).outcome
  answered_update n (Dec.yes fits) =
      let f = has-direction e.current.phase in answered-count (update_count e f.0 n f.1 fits)
  answered_update n (Dec.no w) = let over : 2 ^ 64 ≤ engine_held e + n = omega arith in answered-number (update_sum over)

  answered-output : (n : ℕ) (d : Direction) → HasDirection d e.current.phase
      → Dec (output_sum d (params_of e.variant) (engine_held e + n) < 2 ^ 64)
      → Answered e (Call.Output n) (step e (Call.Output n)).outcome
  answered-output n d f (Dec.yes fits) = answered-count (output-count e d n f fits)
  answered-output n d f (Dec.no w) =
      let over : 2 ^ 64 ≤ output_sum d (params_of e.variant) (engine_held e + n) = omega arith in answered-number (output-sum f over)

  answered : (c : Call) → Answered e c (step e c).outcome
  unfolding step
  answered (Call.Init d key nonce size header) = answered-start d key nonce header size
  answered (Call.Aad input) = answered-header e.current.phase input refl
  answered (Call.Data input out) = answered-message e.current.phase input out refl
  answered (Call.Final out) = answered-end e.current.phase out refl
  answered Call.Reset = count 0
  answered Call.Mac = count _
  answered (Call.Update n) = answered_update n (dec_lt (engine_held e + n) (2 ^ 64))
  answered (Call.Output n) =
      let f = has-direction e.current.phase in
      answered-output n f.0 f.1 (dec_lt (output_sum f.0 (params_of e.variant) (engine_held e + n)) (2 ^ 64))

  -- And it comes back nowhere else.
  pub comes_back_refused : (c : Call) (r : List ℕ) → (step e c).outcome ≡ no r → Refused e c r
  comes_back_refused c r q = go (step e c).outcome (answered c) q
    where
      go : (o : Outcome) → Answered e c o → o ≡ no r → Refused e c r
      go o (count n) q = absurd (let z : ◌≡◌ {A = ℕ} 0 1 = cc in omega arith)
      go o (number {r = l} t) q = subst (Refused e c) (let z : l ≡ r = cc in z) t

-- A number comes back where its line holds, and nowhere else.
pub refusals : (e : SparkleEngine) (c : Call) (r : List ℕ) → ((step e c).outcome ≡ no r) ↔ Refused e c r
refusals e c r = (comes_back_refused e c r, refused_comes_back e c r)

-- ---- What a number leaves

numbered : (e : SparkleEngine) (c : Call) (r : List ℕ) → Refused e c r → Numbered r
numbered e c r (key-length w) = of-start one
numbered e c r (nonce-length k w) = of-start two
numbered e c r (mac_size k n w) = of-start three
numbered e c r (data-room t fits short) = unchanging four
numbered e c r (end-room t short) = unchanging four
numbered e c r (no-tag t short) = unchanging five
numbered e c r (tag_differs q whole enough differs) = of-tag
numbered e c r (data-sum t over) = unchanging seven
numbered e c r (update_sum over) = unchanging seven
numbered e c r (output-sum f over) = unchanging seven
numbered e c r (header_not_initialized some q) = unchanging eight
numbered e c r (data_not_initialized q) = unchanging eight
numbered e c r (end_not_initialized q) = unchanging eight
numbered e c r (header_after_data some q) = unchanging nine
numbered e c r (header_finalized some q) = unchanging ten
numbered e c r (data_finalized q) = unchanging ten
numbered e c r (end_finalized q) = unchanging ten
numbered e c r (nonce_reuse k n s again) = of-start eleven

-- A call that is refused comes back with one of eleven numbers.
pub refusal-numbers : (e : SparkleEngine) (c : Call) (r : List ℕ) → (step e c).outcome ≡ no r → Numbered r
refusal-numbers e c r q = numbered e c r (comes_back_refused e c r q)

-- Every call comes back with a count or with one of them.
pub returned : (e : SparkleEngine) (c : Call) → Returned (step e c).outcome
returned e c = by (step e c).outcome refl
  where
    by : (o : Outcome) → (step e c).outcome ≡ o → Returned o
    by (ok n) q = work_done n
    by (no r) q = numbered_refusal (refusal-numbers e c r q)

start-leaves : (k : Result (Unit {0}) AeadInitError) (e : SparkleEngine) (d : Direction) (key nonce header r : List ℕ)
    → start_outcome (init_by k e d key nonce header).answer ≡ no r → (init_by k e d key nonce header).engine ≡ refused e
start-leaves (Ok _) e d key nonce header r q = absurd (let z : ◌≡◌ {A = ℕ} 0 1 = cc in omega arith)
start-leaves (Err x) e d key nonce header r q = refl

module _ (e : SparkleEngine) where
  -- A refused start leaves no message, and of what was kept only the last loaded pair.
  pub start_wipes : (d : Direction) (key nonce header r : List ℕ) (size : ℕ)
      → (step e (Call.Init d key nonce size header)).outcome ≡ no r → Wiped e (Call.Init d key nonce size header)
  unfolding step initCall refused refused_steps
  start_wipes d key nonce header r size q =
      record {
        engine =
            start-leaves (start_check e.variant d (length key) (length nonce) size
            (repeats (params_of e.variant) e.pair key nonce)) e d key nonce header r q;
        buffer = refl;
      }

  start-number : (c : Call) (n : ℕ) (values : List ℕ) → OfStart n → Refused e c (n ∷ values)
      → (step e c).outcome ≡ no (n ∷ values) → Wiped e c
  start-number c n values one (key-length {d} {key} {nonce} {header} {size} w) q = start_wipes d key nonce header _ size q
  start-number c n values two (nonce-length {d} {key} {nonce} {header} {size} k w) q =
      start_wipes d key nonce header _ size q
  start-number c n values three (mac_size {d} {key} {nonce} {header} {size} k m w) q =
      start_wipes d key nonce header _ size q
  start-number c n values eleven (nonce_reuse {key} {nonce} {header} {size} k m s again) q =
      start_wipes Encrypt key nonce header _ size q

  -- The numbers 1, 2, 3 and 11 are those of a refused start.
  pub start_number_leaves : (c : Call) (n : ℕ) (values : List ℕ) → OfStart n → (step e c).outcome ≡ no (n ∷ values)
      → Wiped e c
  start_number_leaves c n values o q = start-number c n values o (comes_back_refused e c (n ∷ values) q) q

header-leaves : (k : Result ℕ AeadError) (e : SparkleEngine) (input r : List ℕ) → outcome (aad_by k e input).answer ≡ no r
    → (aad_by k e input).engine ≡ e
header-leaves (Err x) e input r q = refl
header-leaves (Ok n) e [] r q = refl
header-leaves (Ok n) e (x ∷ input) r q = absurd (let z : ◌≡◌ {A = ℕ} 0 1 = cc in omega arith)

data-leaves : (k : Result ℕ AeadError) (e : SparkleEngine) (input out r : List ℕ) → outcome (data_by k e input).answer ≡ no r
    → ((data_by k e input).engine ≡ e) × (data_out_by k e input out ≡ out)
data-leaves (Err x) e input out r q = (refl, refl)
data-leaves (Ok n) e input out r q = absurd (let z : ◌≡◌ {A = ℕ} 0 1 = cc in omega arith)

module _ (e : SparkleEngine) where
  header_unchanged : (input r : List ℕ) → (step e (Call.Aad input)).outcome ≡ no r → Unchanged e (Call.Aad input)
  unfolding step process_aad_bytes
  header_unchanged input r q =
      record { engine = header-leaves (aad_check e.current.phase (length input)) e input r q; buffer = refl }

  data_unchanged : (input out r : List ℕ) → (step e (Call.Data input out)).outcome ≡ no r
      → Unchanged e (Call.Data input out)
  unfolding step process_bytes process_bytes_out
  data_unchanged input out r q =
      let t = data-leaves (data_answer e (length input) (length out)) e input out r q in
      record { engine = t.0; buffer = t.1 }

  end_unchanged : (out : List ℕ) (x : AeadError) → final_answer e (length out) ≡ Err x → Unchanged e (Call.Final out)
  unfolding step do_final do_final_out
  end_unchanged out x h = record { engine = rw h; buffer = rw h }

  unchanged : (c : Call) (n : ℕ) (values : List ℕ) → Unchanging n → Refused e c (n ∷ values)
      → (step e c).outcome ≡ no (n ∷ values) → Unchanged e c
  unfolding step end_check
  unchanged c n values four (data-room {input = input} {out = out} t fits short) q = data_unchanged input out _ q
  unchanged c n values four (end-room {out = out} t short) q =
      end_unchanged out _ (end_room_law _ (small e.variant) _ _ _ _ t short)
  unchanged c n values five (no-tag {out = out} t short) q =
      end_unchanged out _ (no_tag_law _ (small e.variant) _ _ _ t short)
  unchanged c n values seven (data-sum {input = input} {out = out} t over) q = data_unchanged input out _ q
  unchanged c n values seven (update_sum over) q = record { engine = refl; buffer = refl }
  unchanged c n values seven (output-sum f over) q = record { engine = refl; buffer = refl }
  unchanged c n values eight (header_not_initialized {input = input} some p) q = header_unchanged input _ q
  unchanged c n values eight (data_not_initialized {input = input} {out = out} p) q = data_unchanged input out _ q
  unchanged c n values eight (end_not_initialized {out = out} p) q = end_unchanged out NotInitialized (rw p)
  unchanged c n values nine (header_after_data {input = input} some p) q = header_unchanged input _ q
  unchanged c n values ten (header_finalized {input = input} some p) q = header_unchanged input _ q
  unchanged c n values ten (data_finalized {input = input} {out = out} p) q = data_unchanged input out _ q
  unchanged c n values ten (end_finalized {out = out} p) q = end_unchanged out AlreadyFinalized (rw p)

  -- The numbers 4, 5 and 7 to 10 change neither engine nor buffer.
  pub unchanging_number_leaves : (c : Call) (n : ℕ) (values : List ℕ) → Unchanging n
      → (step e c).outcome ≡ no (n ∷ values) → Unchanged e c
  unchanging_number_leaves c n values u q = unchanged c n values u (comes_back_refused e c (n ∷ values) q) q

-- ---- A failed tag

opening_end_out : (e : SparkleEngine) (n : ℕ) (out : List ℕ) (b : Bool) → e.current.phase ≡ Data Decrypt
    → tag_right e ≡ b → final_out_by (Ok n) e out ≡ written (open_out_by b (params_of e.variant) e.current) out
opening_end_out e n out b q h = rw (already_begun e Decrypt q, h, q)

module _ (e : SparkleEngine) (array : length e.current.buffer ≡ 64) (q : e.current.phase ≡ Data Decrypt) where
  length-held : length (buffered (params_of e.variant) e.current) ≡ engine_held e
  unfolding buffered
  length-held = rw (length-take, q) (omega (arith, small e.variant))

  length-open_block : length (ciphertext e) ≡ engine_held e - key_of e
  unfolding open_block
  length-open_block = rw (length-take, length-held) (omega arith)

  module _ (out : List ℕ) (whole : key_of e ≤ engine_held e) (enough : engine_held e - key_of e ≤ length out)
      (differs : received_tag_of e ≡ computed_tag e → ⊥) where
    failed : Failed e out
    unfolding step do_final do_final_out final_engine add_steps last_steps written zeros
    failed =
        let t : Active Decrypt e.current.phase = rw q in-data in
        let w = not_same _ _ differs in
        let taken = open_taken _ (small e.variant) _ _ (length out) t whole enough in
        record {
          phase = q;
          whole = whole;
          engine = rw (taken, opening-end e _ false q w, length-open_block);
          buffer = rw (taken, opening_end_out e _ out false q w, length-open_block, length-replicate);
        }

-- 6 comes from an end. The buffer of the engine is an array of 64 bytes.
pub six_leaves : (e : SparkleEngine) (c : Call) (values : List ℕ) → length e.current.buffer ≡ 64
    → (step e c).outcome ≡ no (6 ∷ values) → (out : List ℕ) × (c ≡ Call.Final out) × Failed e out
six_leaves e c values array q = go c values (comes_back_refused e c (6 ∷ values) q)
  where
    go : (c : Call) (values : List ℕ) → Refused e c (6 ∷ values) → (out : List ℕ) × (c ≡ Call.Final out) × Failed e out
    go c values (tag_differs {out} p whole enough differs) = (out, refl, failed e array p out whole enough differs)
