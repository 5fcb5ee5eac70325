-- Laws of data calls, over plain variables: the point and the output after the blocks that go, and what the check of a
-- data call says of the blocks.
use Rattle.std.proofs.Common.{◌≡◌, ℕ, ◌+◌, ◌*◌, ◌^◌, ◌≤◌, Bool, true, false, cond, ltb, List, ◌++◌, length, take, drop, sym, refl, ap, ◌∙◌, ap₂, arith, ltb-false, Result, Ok, Err}
use Rattle.schwaemm.specs.Blocks.{ready, given}
use Rattle.schwaemm.specs.Schwaemm.{Params, message_block, crypt}
use Rattle.tc_aead_cipher.specs.Variant.{params_of}
use Rattle.tc_aead_cipher.specs.declared.phase.Phase.{Phase}
use Rattle.tc_sparkle_aead.specs.declared.message.Point.{Point}
use Rattle.tc_sparkle_aead.specs.declared.message.Progress.{Progress}
use Rattle.tc_aead_cipher.specs.declared.phase.Phase.TheVariants.{Uninitialized, Init, Aad, Data, Final}
use Rattle.tc_aead_cipher.specs.declared.phase.Direction.{Direction}
use Rattle.tc_aead_cipher.specs.declared.aead_error.AeadError.{AeadError}
use Rattle.tc_aead_cipher.specs.declared.aead_error.AeadError.TheVariants.{OutputTooShort, InputTooLong}
use Rattle.tc_sparkle_aead.specs.declared.engine.SparkleEngine.{SparkleEngine}
use Rattle.tc_aead_cipher.specs.Checks.{keep, held_data, then, room, update_len, data_check}
use Rattle.tc_sparkle_aead.specs.Message.{state_in, buffered_count, block_count, plain_of, stream_out, written, without_header, after_header, begin_point, begin_steps, data_from}
use Rattle.tc_sparkle_aead.specs.Calls.{at_point, begin_by, begin_data, data_in, data_out, data_by, data_out_by, data_answer, process_bytes, process_bytes_out}
use Rattle.tc_sparkle_aead.proofs.Fill.{length-zeros}
use Rattle.tc_aead_cipher.proofs.VariantLaws.{Small}
use Rattle.tc_sparkle_aead.proofs.BeginLaws.{begin_at, begin_current, begin_variant}
use Rattle.tc_sparkle_aead.proofs.CallLaws.{stream-is, length-stream}

module _ (p : Params) (small : Small p) (k : ℕ) (at : Point) (input : List ℕ) (long : length at.buffer ≡ 64) (h : ℕ)
    (eh : h ≡ buffered_count p at.phase at.held) (count : ℕ) where
  -- the number of blocks from the code's own held count
  pub count-is : count ≡ block_count p k at input → count ≡ ready p.rate k (h + length input)
  unfolding block_count
  count-is e =
      e ∙ ap (ready p.rate k) (length-stream p at input small long ∙ ap (λ (n : ℕ). n + length input) (sym eh))

  pub is-count : (n : ℕ) → count ≡ ready p.rate k n → n ≡ h + length input → count ≡ block_count p k at input
  unfolding block_count
  is-count n e en =
      e ∙ ap (ready p.rate k) (en ∙ ap (λ (n : ℕ). n + length input) eh ∙ sym (length-stream p at input small long))

-- what the blocks write
pub written_at : (p : Params) (at : Point) (input out bytes : List ℕ) (h count : ℕ) → h ≡ buffered_count p at.phase at.held → count ≡ block_count p (keep p at.phase) at input → length (given p.rate (message_block p (plain_of p at.phase)) (crypt p) count (state_in p at.words) (take h at.buffer ++ input)) ≡ count * p.rate → bytes ≡ given p.rate (message_block p (plain_of p at.phase)) (crypt p) count (state_in p at.words) (take h at.buffer ++ input) ++ drop (count * p.rate) out → bytes ≡ written (stream_out p at input) out
unfolding written stream_out
written_at p at input out bytes h count eh ec el eb =
    let g = given p.rate (message_block p (plain_of p at.phase)) (crypt p) count (state_in p at.words) (take h at.buffer ++ input) in
    eb ∙ ap (λ (n : ℕ). g ++ drop n out) (sym el)
    ∙ ap₂ (λ (c : ℕ) (l : List ℕ). given p.rate (message_block p (plain_of p at.phase)) (crypt p) c (state_in p at.words) l ++ drop (length (given p.rate (message_block p (plain_of p at.phase)) (crypt p) c (state_in p at.words) l)) out) ec (stream-is p at input h eh)

-- the check of a data call has room for what its blocks become
module _ (r available n : ℕ) where
  roomy : (b : Bool) → ltb available r ≡ b → cond b (Err (OutputTooShort r available)) (Ok r) ≡ Ok n → r ≤ available
  roomy true t e = absurd (let z : ◌≡◌ {A = ℕ} 0 1 = cc in omega arith)
  roomy false t e = ltb-false available r t

  within_room : (b : Bool) → then (cond b (Ok r) (Err InputTooLong)) (room available) ≡ Ok n → r ≤ available
  within_room true e = roomy (ltb available r) refl e
  within_room false e = absurd (let z : ◌≡◌ {A = ℕ} 0 1 = cc in omega arith)

update_room : (p : Params) (phase : Phase) (held m available n : ℕ) → then (update_len p phase held m) (room available) ≡ Ok n → ready p.rate (keep p phase) (held_data p phase held + m) * p.rate ≤ available
unfolding update_len
update_room p phase held m available n e =
    within_room (ready p.rate (keep p phase) (held_data p phase held + m) * p.rate) available n (ltb (held_data p phase held + m) (2 ^ 64)) e

-- the blocks of a point in Data, from its held count
block_count-in : (p : Params) → Small p → (k h : ℕ) (at : Point) (input : List ℕ) → length at.buffer ≡ 64 → buffered_count p at.phase at.held ≡ h → block_count p k at input ≡ ready p.rate k (h + length input)
unfolding block_count
block_count-in p small k h at input long e =
    ap (ready p.rate k) (length-stream p at input small long ∙ ap (λ (n : ℕ). n + length input) e)

none-held : (p : Params) (d : Direction) → buffered_count p (Data d) 0 ≡ 0
none-held p d = omega arith

-- the point where the data begins has room for its blocks
pub data-room : (p : Params) → Small p → (phase : Phase) (at : Point) → at.phase ≡ phase → length at.buffer ≡ 64
    → (input : List ℕ) (available n : ℕ) → data_check p phase at.held (length input) available ≡ Ok n
    → block_count p (keep p (begin_point p phase at).phase) (begin_point p phase at) input * p.rate ≤ available
unfolding data_check without_header after_header
data-room p f Uninitialized at q long input available n ok = absurd (let z : ◌≡◌ {A = ℕ} 0 1 = cc in omega arith)
data-room p f (Init d) at q long input available n ok =
    rw (block_count-in p f (keep p (Data d)) 0 (without_header d at) input (length-zeros 64) (none-held p d))
    (update_room p (Init d) at.held (length input) available n ok)
data-room p f (Aad d) at q long input available n ok =
    rw (block_count-in p f (keep p (Data d)) 0 (after_header p d at) input (length-zeros 64) (none-held p d))
    (update_room p (Aad d) at.held (length input) available n ok)
data-room p f (Data d) at q long input available n ok =
    let count : block_count p (keep p at.phase) at input ≡ ready p.rate (keep p (Data d)) (held_data p (Data d) at.held + length input) =
    ap (λ (k : ℕ). block_count p k at input) (ap (keep p) q)
    ∙ block_count-in p f (keep p (Data d)) (held_data p (Data d) at.held) at input long
    (ap (λ (ph : Phase). buffered_count p ph at.held) q) in
    rw count (update_room p (Data d) at.held (length input) available n ok)
data-room p f (Final d) at q long input available n ok = absurd (let z : ◌≡◌ {A = ℕ} 0 1 = cc in omega arith)

-- a data call by its check: refused, and taken
module _ (e : SparkleEngine) (input out : List ℕ) (answer : Result ℕ AeadError)
    (checked : answer ≡ data_answer e (length input) (length out)) where
  pub data_refused : (x : AeadError) → answer ≡ Err x → record { answer = answer; engine = e } ≡ process_bytes e input out
  unfolding process_bytes
  data_refused x q =
      (λ i. record { answer = q i; engine = e }) ∙ ap (λ (k : Result ℕ AeadError). data_by k e input) (sym q ∙ checked)

  pub data_refused_out : (x : AeadError) → answer ≡ Err x → out ≡ process_bytes_out e input out
  unfolding process_bytes_out
  data_refused_out x q = ap (λ (k : Result ℕ AeadError). data_out_by k e input out) (sym q ∙ checked)

  module _ (n : ℕ) (accepted : answer ≡ Ok n) (at : Point)
      (begins : at ≡ begin_point (params_of e.variant) e.current.phase e.current) where
    -- the point of the engine in which the data begins, and its parameters
    point-is : at ≡ (begin_data e).current
    unfolding begin_data
    point-is = begins ∙ sym (begin_current e e.current.phase)

    params_are : params_of e.variant ≡ params_of (begin_data e).variant
    unfolding begin_data
    params_are = sym (ap params_of (begin_variant e e.current.phase))

    pub data-taken : (first : ℕ) → first ≡ begin_steps (params_of e.variant) e.current.phase → (x : Point)
        (done : Progress) → done ≡ data_from (params_of e.variant) at input → (engine : SparkleEngine)
        → engine ≡ at_point (at_point e x first) done.point done.steps
        → record { answer = answer; engine = engine } ≡ process_bytes e input out
    unfolding process_bytes data_in begin_data
    data-taken first ef x done ed engine en =
        let r = data_from (params_of (begin_data e).variant) (begin_data e).current input in
        let to : done ≡ r = ed ∙ ap₂ (λ (p : Params) (y : Point). data_from p y input) params_are point-is in
        let moved =
        en ∙ ap (λ (k : ℕ). at_point (at_point e x k) done.point done.steps) ef
        ∙ begin_at e e.current.phase x done.point done.steps
        ∙ ap (λ (y : Progress). at_point (begin_by e.current.phase e) y.point y.steps) to in
        (λ i. record { answer = accepted i; engine = moved i }) ∙ ap (λ (k : Result ℕ AeadError). data_by k e input) (sym accepted ∙ checked)

    pub data_taken_out : (out₁ : List ℕ) → out₁ ≡ written (stream_out (params_of e.variant) at input) out
        → out₁ ≡ process_bytes_out e input out
    unfolding process_bytes_out data_out
    data_taken_out out₁ eo =
        eo ∙ ap₂ (λ (p : Params) (y : Point). written (stream_out p y input) out) params_are point-is
        ∙ ap (λ (k : Result ℕ AeadError). data_out_by k e input out) (sym accepted ∙ checked)
