-- What a call runs, from what the reader keeps before it: `ran`. It is by how much document 01's formula for the message
-- grows, and it is what a call that is neither init nor reset adds to the engine's steps, where the invariant holds.
use mathlib.Core.Path.{◌≡◌, refl, sym, ap, subst, ◌∙◌}
use mathlib.Core.Bool.{true, cond}
use mathlib.Core.List.{List, [], ◌∷◌, ◌++◌, append-nil}
use Prim.Native.Nat.{ℕ, zero, suc, ◌+◌, ◌-◌, ◌*◌, ◌%◌, ◌^◌, ◌≤◌, ◌<◌}
use native.Mathlib.Nat.{mod-add-mod, mod-eq_of_lt, add-mul, zero-mul, zero-add, add-zero}
use native.Mathlib.Omega.{arith}
use borrow.Author.Tests.{lt-ltb}
use lib.Dec.{ltb}
use lib.ListN.{length, length-append}
use Rattle.std.specs.Prelude.{Result, Ok, Err}
use Rattle.schwaemm.specs.Blocks.{ready, held}
use Rattle.schwaemm.specs.Schwaemm.{Params, Sizes, leading, steps_of, steps}
use Rattle.schwaemm.proofs.Cut.{ready_add, ready-before, ready-none, rest_above, rest_below, length-held}
use Rattle.schwaemm.proofs.Steps.{steps-none, steps_some}
use Rattle.tc_aead_cipher.specs.declared.variant.SparkleVariant.{SparkleVariant}
use Rattle.tc_aead_cipher.specs.declared.phase.Direction.{Direction}
use Rattle.tc_aead_cipher.specs.declared.phase.Direction.TheVariants.{Encrypt, Decrypt}
use Rattle.tc_aead_cipher.specs.declared.phase.Phase.{Phase}
use Rattle.tc_aead_cipher.specs.declared.phase.Phase.TheVariants.{Uninitialized, Init, Aad, Data, Final}
use Rattle.tc_aead_cipher.specs.declared.aead_error.AeadError.{AeadError}
use Rattle.tc_aead_cipher.specs.declared.aead_init_error.AeadInitError.{AeadInitError}
use Rattle.tc_sparkle_aead.specs.declared.message.Mac.{Mac}
use Rattle.tc_sparkle_aead.specs.declared.engine.Steps.{Steps}
use Rattle.tc_sparkle_aead.specs.declared.engine.SparkleEngine.{SparkleEngine}
use Rattle.tc_aead_cipher.specs.Variant.{params_of}
use Rattle.tc_aead_cipher.specs.Checks.{direction_of, keep, aad_check, header_check, data_check, end_check, start_check}
use Rattle.tc_sparkle_aead.specs.Message.{buffered, last_steps, open_block}
use Rattle.tc_sparkle_aead.specs.Calls.{add_steps, at_point, aad_by, process_aad_bytes, data_in, data_by, process_bytes, final_by, do_final}
use Rattle.tc_aead_cipher.proofs.VariantLaws.{sizes, small}
use Rattle.tc_aead_cipher.specs.Call.{Call}
use Rattle.tc_sparkle_aead.specs.Sheet.{step}
use Rattle.claims.specs.Reader.{Load, last_key, last_nonce, Reader, reader_held, repeated, read_header, read_message, read_end}
use Rattle.claims.specs.Reader.{read}
use Rattle.claims.specs.Refused.{Active}
use Rattle.claims.specs.Refused.Active.{in-init, in_aad, in-data}
use Rattle.claims.specs.Steps.{start_steps, steps_before, message_length}
use Rattle.claims.specs.Messages.{Keeps}
use Rattle.tc_sparkle_aead.proofs.Points.{block_point, ready_zero}
use Rattle.claims.proofs.Invariant.{Invariant, PhaseInvariant, LoadsFit, engine_of, head_point, data_point, holds-init}
use Rattle.claims.proofs.Invariant.{holds_aad, holds-data, head-runs, data_blocks, is_loaded, point_held}
use Rattle.claims.proofs.InvariantKept.{reader_of, steps_at_data, begin_data_lem, data-in, aad_some, header-answer, data-answer}
use Rattle.claims.proofs.InvariantKept.{final_answer_lem, active_loaded, active_enough}
use Rattle.claims.proofs.Accepted.{data_passed_active, end_passed_active, open_length}
use Rattle.claims.proofs.CallOutputs.{seal_engine_step, open_engine_step}

-- ---- What a call runs

-- A start: big, and its header's blocks but the last. A refused call runs nothing.
abbrev pub start_ran : Result (Unit {0}) AeadInitError → Params → (header : List ℕ) → ℕ
start_ran (Err x) p header = 0
start_ran (Ok _) p header = start_steps p header

-- What is held of a header of n bytes, and what n bytes more of it run.
abbrev pub header_held : Params → ℕ → ℕ
header_held p n = n - leading p n * p.rate

abbrev pub header_ran : Result ℕ AeadError → Params → Reader → ℕ → ℕ
header_ran (Err x) p r n = 0
header_ran (Ok k) p r n = leading p (header_held p (length r.header) + n) * p.slim

-- Where the data begins: the last block of the header, where there is one.
abbrev pub begin_ran : Params → Phase → ℕ
begin_ran p Uninitialized = 0
begin_ran p (Init d) = 0
begin_ran p (Aad d) = p.big
begin_ran p (Data d) = 0
begin_ran p (Final d) = 0

-- Data: the header's last block, and the blocks that go of what is held and n bytes more.
abbrev pub message_ran : Result ℕ AeadError → Params → Reader → ℕ → ℕ
message_ran (Err x) p r n = 0
message_ran (Ok k) p r n = begin_ran p r.phase + ready p.rate (keep p r.phase) (reader_held p r + n) * p.slim

-- An end: the header's last block, and the message's, where there is one.
abbrev pub last_ran : Params → ℕ → ℕ
last_ran p n = cond (ltb 0 n) p.big 0

abbrev pub end_ran : Result ℕ AeadError → Params → Reader → ℕ
end_ran (Err x) p r = 0
end_ran (Ok k) p r =
    begin_ran p r.phase + last_ran p (message_length (direction_of r.phase) p (reader_held p r))

-- What a call runs, from the reader before it.
unfoldable pub ran : SparkleVariant → Reader → Call → ℕ
ran v r (Call.Init d key nonce size h) =
    start_ran (start_check v d (length key) (length nonce) size (repeated r key nonce)) (params_of v) h
ran v r (Call.Aad input) = header_ran (aad_check r.phase (length input)) (params_of v) r (length input)
ran v r (Call.Data input out) =
    let p = params_of v in
    message_ran (data_check p r.phase (reader_held p r) (length input) (length out)) p r (length input)
ran v r (Call.Final out) = let p = params_of v in end_ran (end_check p r.phase (reader_held p r) (length out)) p r
ran v r Call.Reset = 0
ran v r Call.Mac = 0
ran v r (Call.Update n) = 0
ran v r (Call.Output n) = 0

-- Document 01's formula for the message so far, and in Final for the whole message.
abbrev pub so_far : Params → Phase → (header body : List ℕ) → ℕ
so_far p Uninitialized header body = steps_before p Uninitialized header body
so_far p (Init d) header body = steps_before p (Init d) header body
so_far p (Aad d) header body = steps_before p (Aad d) header body
so_far p (Data d) header body = steps_before p (Data d) header body
so_far p (Final d) header body = steps p (length header) (message_length d p (length body))

abbrev pub ran_so_far : Params → Reader → ℕ
ran_so_far p r = so_far p r.phase r.header r.body

-- ---- By how much the formula grows

module _ (p : Params) (h : Sizes p) where
  -- blocks that have gone and blocks that go
  more_blocks : (keep n m : ℕ)
      → ready p.rate keep (n + m) * p.slim
      ≡ ready p.rate keep n * p.slim + ready p.rate keep (n - ready p.rate keep n * p.rate + m) * p.slim
  more_blocks keep n m =
      ap (λ (k : ℕ). k * p.slim) (ready_add p.rate keep h.rate_positive n m)
      ∙ add-mul (ready p.rate keep n) _ p.slim

  -- no more bytes, no more blocks
  no_blocks : (n : ℕ) → leading p (header_held p n + 0) * p.slim ≡ 0
  unfolding leading
  no_blocks n =
      ap (λ (k : ℕ). k * p.slim)
      (ready-none p.rate 0 h.rate_positive (n - ready p.rate 0 n * p.rate + 0)
      (omega (arith, rest_below p.rate 0 h.rate_positive n)))
      ∙ zero-mul p.slim

  header-more : (header input : List ℕ)
      → start_steps p (header ++ input)
      ≡ start_steps p header + leading p (header_held p (length header) + length input) * p.slim
  unfolding leading
  header-more header input =
      rw (length-append header input) (omega (arith, more_blocks 0 (length header) (length input)))

  -- the blocks and the last block
  last_more : (n : ℕ) → steps_of p n ≡ leading p n * p.slim + last_ran p (n - leading p n * p.rate)
  unfolding leading
  last_more zero = rw (ready_zero p.rate 0, zero-mul p.rate, zero-mul p.slim, steps-none p)
  last_more (suc n) =
      rw (lt-ltb 0 (suc n - ready p.rate 0 (suc n) * p.rate) (rest_above p.rate 0 (suc n) (omega arith)))
      (unfold leading in steps_some p (suc n) (omega arith))

  module _ (loads : List Load) (header body : List ℕ) (mac : Mac) where
    -- where the data begins
    begin_more : {d : Direction} {phase : Phase} → Active d phase → PhaseInvariant p phase loads header body mac
        → so_far p phase header body + begin_ran p phase ≡ so_far p (Data d) header body
    unfolding steps_before leading
    begin_more {d = d} in-init st =
        rw (st.2, st.3, ready_zero p.rate 0, ready_zero p.rate (keep p (Data d)), steps-none p) (omega arith)
    begin_more {d = d} in_aad st =
        rw (st.3, ready_zero p.rate (keep p (Data d)), steps_some p (length header) st.2) (unfold leading in omega arith)
    begin_more in-data st = omega arith

    data-more : (d : Direction) (input : List ℕ)
        → so_far p (Data d) header (body ++ input)
        ≡ so_far p (Data d) header body
        + ready p.rate (keep p (Data d)) (point_held p body (Data d) + length input) * p.slim
    unfolding steps_before
    data-more d input =
        rw (length-append body input) (omega (arith, more_blocks (keep p (Data d)) (length body) (length input)))

    end_more : (d : Direction)
        → so_far p (Final d) header body
        ≡ so_far p (Data d) header body
        + last_ran p (message_length d p (point_held p body (Data d)))
    unfolding steps_before steps leading
    end_more Encrypt = omega (arith, last_more (length body))
    end_more Decrypt =
        let n = length body in
        let is = ready-before p.rate p.key n in
        let e : n - ready p.rate p.key n * p.rate - p.key ≡ n - p.key - ready p.rate 0 (n - p.key) * p.rate =
        rw is (omega arith) in
        rw (e, is) (omega (arith, last_more (n - p.key)))

    -- data and an end, in a phase that takes them
    message_grows : {d : Direction} {phase : Phase} → Active d phase → PhaseInvariant p phase loads header body mac
        → (initial input : List ℕ) (k : ℕ)
        → ran_so_far p (read_message (Ok k) (reader_of loads initial phase header body) input).reader
        ≡ so_far p phase header body + message_ran (Ok k) p (reader_of loads initial phase header body) (length input)
    message_grows {d = d} in-init st initial input k = omega (arith, begin_more {d = d} in-init st, data-more d input)
    message_grows {d = d} in_aad st initial input k = omega (arith, begin_more {d = d} in_aad st, data-more d input)
    message_grows {d = d} in-data st initial input k = omega (arith, begin_more {d = d} in-data st, data-more d input)

    end_grows : {d : Direction} {phase : Phase} → Active d phase → PhaseInvariant p phase loads header body mac
        → (initial : List ℕ) (k : ℕ)
        → ran_so_far p (read_end (Ok k) p (reader_of loads initial phase header body)).reader
        ≡ so_far p phase header body + end_ran (Ok k) p (reader_of loads initial phase header body)
    end_grows {d = Encrypt} in-init st initial k = omega (arith, begin_more {d = Encrypt} in-init st, end_more Encrypt)
    end_grows {d = Decrypt} in-init st initial k = omega (arith, begin_more {d = Decrypt} in-init st, end_more Decrypt)
    end_grows {d = Encrypt} in_aad st initial k = omega (arith, begin_more {d = Encrypt} in_aad st, end_more Encrypt)
    end_grows {d = Decrypt} in_aad st initial k = omega (arith, begin_more {d = Decrypt} in_aad st, end_more Decrypt)
    end_grows {d = Encrypt} in-data st initial k = omega (arith, begin_more {d = Encrypt} in-data st, end_more Encrypt)
    end_grows {d = Decrypt} in-data st initial k = omega (arith, begin_more {d = Decrypt} in-data st, end_more Decrypt)

  -- a header call
  header_grows : (phase : Phase) (loads : List Load) (initial header body : List ℕ) (x : ℕ) (input : List ℕ)
      → ran_so_far p (read_header (header_check phase) (reader_of loads initial phase header body) (x ∷ input)).reader
      ≡ so_far p phase header body
      + header_ran (header_check phase) p (reader_of loads initial phase header body) (suc (length input))
  unfolding steps_before
  header_grows Uninitialized loads initial header body x input = sym (add-zero _)
  header_grows (Init d) loads initial header body x input = header-more header (x ∷ input)
  header_grows (Aad d) loads initial header body x input = header-more header (x ∷ input)
  header_grows (Data d) loads initial header body x input = sym (add-zero _)
  header_grows (Final d) loads initial header body x input = sym (add-zero _)

-- Of every call that is neither init nor reset.
module _ (v : SparkleVariant) (r : Reader) (mac : Mac)
    (st : PhaseInvariant (params_of v) r.phase r.loads r.header r.body mac) where
  pub grows : (c : Call) → Keeps c → ran_so_far (params_of v) (read v r c).reader ≡ ran_so_far (params_of v) r + ran v r c
  unfolding read ran
  grows (Call.Init d key nonce size h) k = absurd k
  grows (Call.Aad []) k = unfold aad_check in
      ap (λ (l : List ℕ). so_far (params_of v) r.phase l r.body) (append-nil r.header)
      ∙ sym (add-zero _) ∙ ap (λ (n : ℕ). ran_so_far (params_of v) r + n) (sym (no_blocks (params_of v) (sizes v) (length r.header)))
  grows (Call.Aad (x ∷ input)) k =
      rw (aad_some r.phase (length input))
      (header_grows (params_of v) (sizes v) r.phase r.loads r.initial r.header r.body x input)
  grows (Call.Data input out) k =
      by (data_check (params_of v) r.phase (reader_held (params_of v) r) (length input) (length out)) refl
    where
      by : (k : Result ℕ AeadError) → data_check (params_of v) r.phase (reader_held (params_of v) r) (length input) (length out) ≡ k
          → ran_so_far (params_of v) (read_message k r input).reader
          ≡ ran_so_far (params_of v) r + message_ran k (params_of v) r (length input)
      by (Err x) q = sym (add-zero _)
      by (Ok n) q =
          let t = data_passed_active (params_of v) r.phase (reader_held (params_of v) r) (length input) (length out) n q in
          message_grows (params_of v) (sizes v) r.loads r.header r.body mac t.1 st r.initial input n
  grows (Call.Final out) k =
      by (end_check (params_of v) r.phase (reader_held (params_of v) r) (length out)) refl
    where
      by : (k : Result ℕ AeadError) → end_check (params_of v) r.phase (reader_held (params_of v) r) (length out) ≡ k
          → ran_so_far (params_of v) (read_end k (params_of v) r).reader ≡ ran_so_far (params_of v) r + end_ran k (params_of v) r
      by (Err x) q = sym (add-zero _)
      by (Ok n) q =
          let t = end_passed_active (params_of v) r.phase (reader_held (params_of v) r) (length out) n q in
          end_grows (params_of v) (sizes v) r.loads r.header r.body mac t.1 st r.initial n
  grows Call.Reset k = absurd k
  grows Call.Mac k = sym (add-zero _)
  grows (Call.Update n) k = sym (add-zero _)
  grows (Call.Output n) k = sym (add-zero _)

-- ---- What the engine adds

pub add_none : (s : Steps) → s.current < 2 ^ 64 → add_steps 0 s ≡ s
unfolding add_steps
add_none s below =
    λ i. record { current = (ap (λ (n : ℕ). n % 2 ^ 64) (add-zero s.current) ∙ mod-eq_of_lt below) i; initial = s.initial }

add_both : (a b : ℕ) (s : Steps) → add_steps b (add_steps a s) ≡ add_steps (a + b) s
unfolding add_steps
add_both a b s =
    let e : ((s.current + a) % 2 ^ 64 + b) % 2 ^ 64 ≡ (s.current + (a + b)) % 2 ^ 64 =
    mod-add-mod (s.current + a) (2 ^ 64) b ∙ ap (λ (n : ℕ). n % 2 ^ 64) (omega arith) in
    λ i. record { current = e i; initial = s.initial }

begin_adds : (p : Params) {d : Direction} {phase : Phase} → Active d phase → (n : ℕ) (s : Steps)
    → add_steps n (steps_at_data p phase s) ≡ add_steps (begin_ran p phase + n) s
begin_adds p in-init n s = add_both 0 n s
begin_adds p in_aad n s = add_both p.big n s
begin_adds p in-data n s = ap (λ (k : ℕ). add_steps k s) (sym (zero-add n))

module _ (v : SparkleVariant) (loads : List Load) (initial header body : List ℕ) (mac : Mac) (s : Steps)
    (below : s.current < 2 ^ 64) where
  abbrev p : Params
  p = params_of v

  -- a header call
  header-held : (x : ℕ) (input : List ℕ)
      → ready p.rate 0 (length (held p.rate 0 header ++ (x ∷ input))) * p.slim
      ≡ leading p (header_held p (length header) + suc (length input)) * p.slim
  unfolding leading
  header-held x input =
      ap (λ (n : ℕ). ready p.rate 0 n * p.slim)
      (length-append (held p.rate 0 header) (x ∷ input)
      ∙ ap (λ (n : ℕ). n + suc (length input)) (length-held p.rate 0 header))

  header-runs : (phase : Phase) → PhaseInvariant p phase loads header body mac → (x : ℕ) (input : List ℕ)
      → (aad_by (header_check phase) (engine_of v (reader_of loads initial phase header body) mac s) (x ∷ input)).engine.steps
      ≡ add_steps (header_ran (header_check phase) p (reader_of loads initial phase header body) (suc (length input))) s
  unfolding at_point head_point block_point
  header-runs Uninitialized st x input = sym (add_none s below)
  header-runs (Init d) st x input =
      ap (λ (n : ℕ). add_steps n s)
      (head-runs p (sizes v) (small v) (last_key loads) (last_nonce loads) (Init d) header
      (ap (λ (l : List ℕ). buffered p (head_point p (Init d) (last_key loads) (last_nonce loads) l)) st.2
      ∙ holds-init p (sizes v) (small v) (last_key loads) (last_nonce loads) d ∙ ap (held p.rate 0) (sym st.2))
      d x input ∙ header-held x input)
  header-runs (Aad d) st x input =
      ap (λ (n : ℕ). add_steps n s)
      (head-runs p (sizes v) (small v) (last_key loads) (last_nonce loads) (Aad d) header
      (holds_aad p (sizes v) (small v) (last_key loads) (last_nonce loads) d header) d x input ∙ header-held x input)
  header-runs (Data d) st x input = sym (add_none s below)
  header-runs (Final d) st x input = sym (add_none s below)

  -- data
  data-held : (d : Direction) (input : List ℕ)
      → ready p.rate (keep p (Data d)) (length (held p.rate (keep p (Data d)) body ++ input)) * p.slim
      ≡ ready p.rate (keep p (Data d)) (point_held p body (Data d) + length input) * p.slim
  data-held d input =
      ap (λ (n : ℕ). ready p.rate (keep p (Data d)) n * p.slim)
      (length-append (held p.rate (keep p (Data d)) body) input
      ∙ ap (λ (n : ℕ). n + length input) (length-held p.rate (keep p (Data d)) body))

  message-runs : LoadsFit p loads → {d : Direction} {phase : Phase} → Active d phase → PhaseInvariant p phase loads header body mac
      → (input : List ℕ) (k : ℕ)
      → (data_by (Ok k) (engine_of v (reader_of loads initial phase header body) mac s) input).engine.steps
      ≡ add_steps (begin_ran p phase
      + ready p.rate (keep p (Data d)) (point_held p body (Data d) + length input) * p.slim) s
  message-runs f {d} {phase} t st input k =
      let at-data = steps_at_data p phase s in
      ap (λ (e : SparkleEngine). (data_in e input).steps) (begin_data_lem v loads initial f t header body mac s st)
      ∙ ap (λ (e : SparkleEngine). e.steps) (data-in v loads initial f d at-data header body input)
      ∙ ap (λ (n : ℕ). add_steps n at-data)
      (ap (λ (n : ℕ). n * p.slim) (data_blocks p (sizes v) (small v) d (last_key loads) (last_nonce loads) header body input)
      ∙ data-held d input)
      ∙ begin_adds p t _ s

  message_ran_lem : {d : Direction} {phase : Phase} → Active d phase → (n k : ℕ)
      → message_ran (Ok k) p (reader_of loads initial phase header body) n
      ≡ begin_ran p phase
      + ready p.rate (keep p (Data d)) (point_held p body (Data d) + n) * p.slim
  message_ran_lem in-init n k = refl
  message_ran_lem in_aad n k = refl
  message_ran_lem in-data n k = refl

  -- an end
  seal-runs : last_steps p (buffered p (data_point p Encrypt (last_key loads) (last_nonce loads) header body))
      ≡ last_ran p (point_held p body (Data Encrypt))
  unfolding last_steps
  seal-runs =
      ap (λ (l : List ℕ). last_ran p (length l)) (holds-data p (sizes v) (small v) Encrypt (last_key loads) (last_nonce loads) header body)
      ∙ ap (last_ran p) (length-held p.rate 0 body)

  open_runs : LoadsFit p loads → is_loaded loads ≡ true → p.key ≤ length body
      → last_steps p (open_block p (data_point p Decrypt (last_key loads) (last_nonce loads) header body))
      ≡ last_ran p (point_held p body (Data Decrypt) - p.key)
  unfolding last_steps
  open_runs f l enough =
      ap (last_ran p)
      (open_length v loads initial f header body mac l enough
      ∙ ap (λ (n : ℕ). n - p.key) (length-held p.rate p.key body))

  end_ran_lem : {d : Direction} {phase : Phase} → Active d phase → (k : ℕ)
      → end_ran (Ok k) p (reader_of loads initial phase header body)
      ≡ begin_ran p phase
      + last_ran p (message_length d p (point_held p body (Data d)))
  end_ran_lem in-init k = refl
  end_ran_lem in_aad k = refl
  end_ran_lem in-data k = refl

-- the engine that the reader gives
module _ (v : SparkleVariant) (r : Reader) (mac : Mac) (s : Steps) (f : LoadsFit (params_of v) r.loads)
    (st : PhaseInvariant (params_of v) r.phase r.loads r.header r.body mac) (below : s.current < 2 ^ 64) where
  data_adds : (input out : List ℕ) (k : Result ℕ AeadError)
      → data_check (params_of v) r.phase (reader_held (params_of v) r) (length input) (length out) ≡ k
      → (data_by k (engine_of v r mac s) input).engine.steps ≡ add_steps (message_ran k (params_of v) r (length input)) s
  data_adds input out (Err x) q = sym (add_none s below)
  data_adds input out (Ok n) q =
      let t = data_passed_active (params_of v) r.phase (reader_held (params_of v) r) (length input) (length out) n q in
      message-runs v r.loads r.initial r.header r.body mac s below f t.1 st input n
      ∙ ap (λ (j : ℕ). add_steps j s)
      (sym (message_ran_lem v r.loads r.initial r.header r.body mac s below t.1 (length input) n))

  end_adds : (out : List ℕ) (k : Result ℕ AeadError)
      → end_check (params_of v) r.phase (reader_held (params_of v) r) (length out) ≡ k
      → (final_by k (engine_of v r mac s)).engine.steps ≡ add_steps (end_ran k (params_of v) r) s
  end_adds out (Err x) q = sym (add_none s below)
  end_adds out (Ok n) q =
      let t = end_passed_active (params_of v) r.phase (reader_held (params_of v) r) (length out) n q in by t.0 t.1
    where
      is : (final_by (Ok n) (engine_of v r mac s)).engine ≡ (step (engine_of v r mac s) (Call.Final out)).engine
      is =
          unfold step in unfold do_final in
          ap (λ (k : Result ℕ AeadError). (final_by k (engine_of v r mac s)).engine) (sym (final_answer_lem v r mac s (length out) ∙ q))

      by : (d : Direction) → Active d r.phase
          → (final_by (Ok n) (engine_of v r mac s)).engine.steps ≡ add_steps (end_ran (Ok n) (params_of v) r) s
      by Encrypt t =
          ap (λ (e : SparkleEngine). e.steps) (is ∙ seal_engine_step v r mac s f st out n q t)
          ∙ ap (λ (j : ℕ). add_steps j (steps_at_data (params_of v) r.phase s))
          (seal-runs v r.loads r.initial r.header r.body mac s below)
          ∙ begin_adds (params_of v) t _ s
          ∙ ap (λ (j : ℕ). add_steps j s) (sym (end_ran_lem v r.loads r.initial r.header r.body mac s below t n))
      by Decrypt t =
          ap (λ (e : SparkleEngine). e.steps) (is ∙ open_engine_step v r mac s f st out n q t)
          ∙ ap (λ (j : ℕ). add_steps j (steps_at_data (params_of v) r.phase s))
          (open_runs v r.loads r.initial r.header r.body mac s below f
          (active_loaded v r.loads r.initial f t r.header r.body mac st)
          (active_enough (params_of v) (sizes v) t r.body (length out) n q))
          ∙ begin_adds (params_of v) t _ s
          ∙ ap (λ (j : ℕ). add_steps j s) (sym (end_ran_lem v r.loads r.initial r.header r.body mac s below t n))

  call_adds : (c : Call) → Keeps c → (step (engine_of v r mac s) c).engine.steps ≡ add_steps (ran v r c) s
  unfolding step ran process_aad_bytes process_bytes do_final
  call_adds (Call.Init d key nonce size h) k = absurd k
  call_adds (Call.Aad []) k = unfold aad_check in
      sym (ap (λ (n : ℕ). add_steps n s) (no_blocks (params_of v) (sizes v) (length r.header)) ∙ add_none s below)
  call_adds (Call.Aad (x ∷ input)) k =
      ap (λ (a : Result ℕ AeadError). (aad_by a (engine_of v r mac s) (x ∷ input)).engine.steps)
      (header-answer v r mac s (suc (length input)) ∙ aad_some r.phase (length input))
      ∙ header-runs v r.loads r.initial r.header r.body mac s below r.phase st x input
      ∙ ap (λ (a : Result ℕ AeadError). add_steps (header_ran a (params_of v) r (suc (length input))) s)
      (sym (aad_some r.phase (length input)))
  call_adds (Call.Data input out) k =
      ap (λ (a : Result ℕ AeadError). (data_by a (engine_of v r mac s) input).engine.steps)
      (data-answer v r mac s (length input) (length out))
      ∙ data_adds input out (data_check (params_of v) r.phase (reader_held (params_of v) r) (length input) (length out)) refl
  call_adds (Call.Final out) k =
      ap (λ (a : Result ℕ AeadError). (final_by a (engine_of v r mac s)).engine.steps) (final_answer_lem v r mac s (length out))
      ∙ end_adds out (end_check (params_of v) r.phase (reader_held (params_of v) r) (length out)) refl
  call_adds Call.Reset k = absurd k
  call_adds Call.Mac k = sym (add_none s below)
  call_adds (Call.Update n) k = sym (add_none s below)
  call_adds (Call.Output n) k = sym (add_none s below)

-- A call that is neither init nor reset adds what it runs.
pub ran_added : (v : SparkleVariant) (e : SparkleEngine) (r : Reader) → Invariant v e r → e.steps.current < 2 ^ 64
    → (c : Call) → Keeps c → (step e c).engine.steps ≡ add_steps (ran v r c) e.steps
ran_added v e r w below c k =
    subst (λ (x : SparkleEngine). x.steps.current < 2 ^ 64 → (step x c).engine.steps ≡ add_steps (ran v r c) x.steps)
    (sym w.same-engine)
    (λ b. call_adds v r w.mac w.steps w.loads_fit w.phase_invariant b c k) below
