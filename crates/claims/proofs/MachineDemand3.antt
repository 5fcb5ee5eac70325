-- The engine as a machine: from an invariant between engine and reader that gives what `Linked` states, it answers every
-- call as the tables say, and meets demand 3.
use mathlib.Core.Path.{◌≡◌, refl, sym, ap, ◌∙◌}
use mathlib.Core.Bool.{Bool, true, false, cond}
use mathlib.Core.List.{List, [], ◌∷◌}
use Prim.Native.Nat.{ℕ}
use native.Mathlib.Omega.{arith}
use lib.ListN.{length}
use lib.Dec.{eqb}
use Rattle.std.specs.Prelude.{Result, Ok, Err}
use Rattle.schwaemm.specs.Schwaemm.{Params, verified}
use Rattle.tc_aead_cipher.specs.declared.variant.SparkleVariant.{SparkleVariant}
use Rattle.tc_aead_cipher.specs.declared.phase.Direction.{Direction}
use Rattle.tc_aead_cipher.specs.declared.phase.Direction.TheVariants.{Encrypt, Decrypt}
use Rattle.tc_aead_cipher.specs.declared.phase.Phase.{Phase}
use Rattle.tc_aead_cipher.specs.declared.phase.Phase.TheVariants.{Uninitialized, Init, Aad, Data, Final}
use Rattle.tc_aead_cipher.specs.declared.aead_error.AeadError.{AeadError}
use Rattle.tc_sparkle_aead.specs.declared.engine.SparkleEngine.{SparkleEngine}
use Rattle.tc_aead_cipher.specs.Variant.{params_of}
use Rattle.tc_aead_cipher.specs.Checks.{opening, held_data, update_len, total_len, aad_check, header_check, data_check, end_check, start_check}
use Rattle.tc_sparkle_aead.specs.Engine.{new_engine}
use Rattle.tc_aead_cipher.specs.Call.{Call}
use Rattle.claims.specs.Shape.{shape}
use Rattle.tc_aead_cipher.specs.Outcome.{outcome, start_outcome}
use Rattle.tc_sparkle_aead.specs.Sheet.{step, Line, line, lines, sheet}
use Rattle.claims.specs.Reader.{verdict_of, Reader, new_reader, repeated, reader_held, read_start, read_end, end_in, read}
use Rattle.claims.specs.Reader.{loaded_key, loaded_nonce, read_from, reader}
use Rattle.claims.specs.Messages.{open_outcome, end_outcome, answer_of}
use Rattle.claims.specs.Machine.{engine, after, lines_of, Demand3}
use Rattle.claims.proofs.PublicState.{public_of, yes, header_shows, shows, shows_is, start-verdict}
use Rattle.claims.proofs.Demand3.{Linked, asked_is_read, read_start_note, end_check-held, sheets_and_verdicts}

-- The checks depend on the held bytes through h.
update_len-held : (p : Params) (phase : Phase) (a b n : ℕ) → held_data p phase a ≡ held_data p phase b
    → update_len p phase a n ≡ update_len p phase b n
unfolding update_len
update_len-held p phase a b n h = rw h

total_len-held : (p : Params) (phase : Phase) (a b n : ℕ) → held_data p phase a ≡ held_data p phase b
    → total_len p phase a n ≡ total_len p phase b n
unfolding total_len
total_len-held p phase a b n h = rw h

data_check-held : (p : Params) (phase : Phase) (a b n available : ℕ) → held_data p phase a ≡ held_data p phase b
    → data_check p phase a n available ≡ data_check p phase b n available
unfolding data_check
data_check-held p phase a b n available h = simp (update_len-held p phase a b n h)

header-count : (phase : Phase) (b : Bool)
    → header_shows (cond b (Ok 0) (header_check phase)) ≡ outcome (cond b (Ok 0) (header_check phase))
header-count phase true = refl
header-count Uninitialized false = refl
header-count (Init d) false = refl
header-count (Aad d) false = refl
header-count (Data d) false = refl
header-count (Final d) false = refl

header_expected : (phase : Phase) (n : ℕ) → header_shows (aad_check phase n) ≡ outcome (aad_check phase n)
unfolding aad_check
header_expected phase n = header-count phase (eqb n 0)

open_shown : (b : Bool) (n : ℕ) → open_outcome (yes (verdict_of b)) n ≡ open_outcome b n
open_shown true n = refl
open_shown false n = refl

end-phase : (p : Params) (r : Reader) (phase : Phase) (n available : ℕ)
    → end_check p phase (reader_held p r) available ≡ Ok n
    → end_outcome (Ok n) (opening phase) (yes (end_in phase p r).verdict)
    ≡ end_outcome (Ok n) (opening phase) (verified p (loaded_key r) (loaded_nonce r) r.header r.body)
unfolding end_check
end-phase p r Uninitialized n available c = refl
end-phase p r (Init Encrypt) n available c = refl
end-phase p r (Init Decrypt) n available c = open_shown (verified p (loaded_key r) (loaded_nonce r) r.header r.body) n
end-phase p r (Aad Encrypt) n available c = refl
end-phase p r (Aad Decrypt) n available c = open_shown (verified p (loaded_key r) (loaded_nonce r) r.header r.body) n
end-phase p r (Data Encrypt) n available c = refl
end-phase p r (Data Decrypt) n available c = open_shown (verified p (loaded_key r) (loaded_nonce r) r.header r.body) n
end-phase p r (Final d) n available c = absurd (let z : ◌≡◌ {A = ℕ} 0 1 = cc in omega arith)

end-shown : (p : Params) (r : Reader) (k : Result ℕ AeadError) (available : ℕ)
    → end_check p r.phase (reader_held p r) available ≡ k
    → end_outcome k (opening r.phase) (yes (read_end k p r).verdict)
    ≡ end_outcome k (opening r.phase) (verified p (loaded_key r) (loaded_nonce r) r.header r.body)
end-shown p r (Err x) available c = refl
end-shown p r (Ok n) available c = end-phase p r r.phase n available c

-- What the public state shows at the reader's verdict is what the tables say.
module _ (v w : SparkleVariant) (r : Reader) (phase : Phase) (k : ℕ) (variant : w ≡ v) (same-phase : phase ≡ r.phase)
    (held : held_data (params_of v) r.phase k ≡ held_data (params_of v) r.phase (reader_held (params_of v) r)) where
  start_expected : (d : Direction) (key nonce header : List ℕ) (size : ℕ)
      → start_outcome (start_check w d (length key) (length nonce) size
      (yes (read_start (start_check v d (length key) (length nonce) size (repeated r key nonce)) r d key nonce header).verdict))
      ≡ start_outcome (start_check v d (length key) (length nonce) size (repeated r key nonce))
  start_expected d key nonce header size =
      let p = params_of v in
      let b = repeated r key nonce in
      rw (variant, ← read_start_note (start_check v d (length key) (length nonce) size b) r d key nonce header)
      (ap start_outcome (sym (start-verdict v (length key) (length nonce) size d b)))

  data_expected : (n available : ℕ)
      → outcome (data_check (params_of w) phase k n available)
      ≡ outcome (data_check (params_of v) r.phase (reader_held (params_of v) r) n available)
  data_expected n available =
      rw (variant, same-phase, data_check-held (params_of v) r.phase k (reader_held (params_of v) r) n available held)

  end_expected : (available : ℕ)
      → end_outcome (end_check (params_of w) phase k available) (opening phase)
      (yes (read_end (end_check (params_of v) r.phase (reader_held (params_of v) r) available) (params_of v) r).verdict)
      ≡ end_outcome (end_check (params_of v) r.phase (reader_held (params_of v) r) available) (opening r.phase)
      (verified (params_of v) (loaded_key r) (loaded_nonce r) r.header r.body)
  end_expected available =
      rw (variant, same-phase, end_check-held (params_of v) r.phase k (reader_held (params_of v) r) available held)
      (end-shown (params_of v) r (end_check (params_of v) r.phase (reader_held (params_of v) r) available) available refl)

  update_expected : (n : ℕ)
      → outcome (update_len (params_of w) phase k n) ≡ outcome (update_len (params_of v) r.phase (reader_held (params_of v) r) n)
  update_expected n =
      rw (variant, same-phase, update_len-held (params_of v) r.phase k (reader_held (params_of v) r) n held)

  output_expected : (n : ℕ)
      → outcome (total_len (params_of w) phase k n) ≡ outcome (total_len (params_of v) r.phase (reader_held (params_of v) r) n)
  output_expected n =
      rw (variant, same-phase, total_len-held (params_of v) r.phase k (reader_held (params_of v) r) n held)

module _ (v : SparkleVariant) (e : SparkleEngine) (r : Reader) (l : Linked v e r) where
  shown : (c : Call) → (step e c).outcome ≡ shows (public_of e) (shape c) (read v r c).verdict
  shown c = shows_is e c ∙ ap (shows (public_of e) (shape c)) (asked_is_read v e r l c)

  -- A call that is no mac call is answered as the tables say.
  pub answered : (c : Call) → (c ≡ Call.Mac → ⊥) → (step e c).outcome ≡ answer_of v r c
  unfolding answer_of read
  answered (Call.Init d key nonce size header) other =
      shown (Call.Init d key nonce size header)
      ∙ start_expected v e.variant r e.current.phase e.current.held l.variant l.phase l.held d key nonce header size
  answered (Call.Aad input) other =
      shown (Call.Aad input) ∙ header_expected e.current.phase (length input)
      ∙ ap (λ (phase : Phase). outcome (aad_check phase (length input))) l.phase
  answered (Call.Data input out) other =
      shown (Call.Data input out)
      ∙ data_expected v e.variant r e.current.phase e.current.held l.variant l.phase l.held (length input) (length out)
  answered (Call.Final out) other =
      shown (Call.Final out)
      ∙ end_expected v e.variant r e.current.phase e.current.held l.variant l.phase l.held (length out)
  answered Call.Reset other = shown Call.Reset
  answered Call.Mac other = absurd (other refl)
  answered (Call.Update n) other =
      shown (Call.Update n)
      ∙ update_expected v e.variant r e.current.phase e.current.held l.variant l.phase l.held n
  answered (Call.Output n) other =
      shown (Call.Output n)
      ∙ output_expected v e.variant r e.current.phase e.current.held l.variant l.phase l.held n

pub engine-lines : (e : SparkleEngine) (xs : List Call) → lines_of engine e xs ≡ lines e xs
unfolding lines
engine-lines e [] = refl
engine-lines e (x ∷ xs) = ap (λ (ls : List Line). line (step e x) ∷ ls) (engine-lines (step e x).engine xs)

module _ (Invariant : SparkleVariant → SparkleEngine → Reader → Type 0)
    (linked : (v : SparkleVariant) (e : SparkleEngine) (r : Reader) → Invariant v e r → Linked v e r)
    (new : (v : SparkleVariant) → Invariant v (new_engine v) new_reader)
    (keeps : (v : SparkleVariant) (e : SparkleEngine) (r : Reader) (c : Call) → Invariant v e r
    → Invariant v (step e c).engine (read v r c).reader)
  where
    invariant_after : (v : SparkleVariant) (xs : List Call) (e : SparkleEngine) (r : Reader) → Invariant v e r
        → Invariant v (after engine e xs) (read_from v r xs)
    unfolding read_from
    invariant_after v [] e r f = f
    invariant_after v (x ∷ xs) e r f =
        invariant_after v xs (step e x).engine (read v r x).reader (keeps v e r x f)

    -- Demand 2, the answers.
    pub engine-answers : (v : SparkleVariant) (before : List Call) (c : Call) → (c ≡ Call.Mac → ⊥)
        → (engine.step (after engine (engine.new v) before) c).line.outcome ≡ answer_of v (reader v before) c
    unfolding reader line
    engine-answers v before c other =
        answered v (after engine (new_engine v) before) (read_from v new_reader before)
        (linked v _ _ (invariant_after v before (new_engine v) new_reader (new v))) c other

    -- Demand 3.
    pub engine_meets_3 : Demand3 engine
    unfolding sheet
    engine_meets_3 v xs ys a =
        let both = sheets_and_verdicts v (Invariant v) (linked v) (new v) (keeps v) xs ys a in
        let p = engine-lines (new_engine v) xs in
        let q = engine-lines (new_engine v) ys in
        ((λ l. both.0 (sym p ∙ l ∙ q)), (λ w. p ∙ both.1 w ∙ sym q))
