-- Whether a tag can be read, after every call of every list: only a start, a reset and an accepted end change the tag.
use mathlib.Core.Path.{◌≡◌, refl, sym, ap, ◌∙◌}
use mathlib.Core.Bool.{Bool, true, false, cond}
use mathlib.Core.List.{List, [], ◌∷◌, map}
use Prim.Native.Nat.{ℕ}
use lib.ListN.{length}
use Rattle.std.specs.Prelude.{Result, Ok, Err}
use Rattle.schwaemm.specs.Schwaemm.{verified}
use Rattle.tc_aead_cipher.specs.declared.variant.SparkleVariant.{SparkleVariant}
use Rattle.tc_aead_cipher.specs.declared.phase.Direction.{Direction}
use Rattle.tc_aead_cipher.specs.declared.phase.Phase.{Phase}
use Rattle.tc_aead_cipher.specs.declared.phase.Phase.TheVariants.{Uninitialized, Init, Aad, Data, Final}
use Rattle.tc_aead_cipher.specs.declared.aead_error.AeadError.{AeadError}
use Rattle.tc_aead_cipher.specs.declared.aead_init_error.AeadInitError.{AeadInitError}
use Rattle.tc_sparkle_aead.specs.declared.message.Mac.{Mac}
use Rattle.tc_sparkle_aead.specs.declared.engine.SparkleEngine.{SparkleEngine}
use Rattle.tc_aead_cipher.specs.Variant.{params_of}
use Rattle.tc_aead_cipher.specs.Checks.{opening, aad_check, end_check, start_check}
use Rattle.tc_sparkle_aead.specs.Message.{no_mac, readable}
use Rattle.tc_sparkle_aead.specs.Engine.{new_engine, repeats}
use Rattle.tc_sparkle_aead.specs.Calls.{at_point, refused, started, init_by, init, aad_in, aad_by, process_aad_bytes, begin_by, begin_data}
use Rattle.tc_sparkle_aead.specs.Calls.{data_in, data_by, data_answer, process_bytes, final_by, final_answer, do_final, mac_of}
use Rattle.tc_sparkle_aead.specs.Calls.{reset as resetEngine}
use Rattle.tc_aead_cipher.specs.Call.{Call}
use Rattle.tc_sparkle_aead.specs.Sheet.{step, Line, line, lines, sheet}
use Rattle.claims.specs.Reader.{Reader, new_reader, reader_held, read, loaded_key, loaded_nonce}
use Rattle.claims.specs.Messages.{shown_by_end, shown_after, shown_tags}
use Rattle.claims.specs.Machine.{engine, sheet_of}
use Rattle.claims.proofs.Invariant.{Invariant, engine_of, invariant_new}
use Rattle.claims.proofs.InvariantKept.{invariant_step, final_answer_lem}
use Rattle.claims.proofs.CallOutputs.{end_mac_lem}
use Rattle.claims.proofs.MachineDemand3.{engine-lines}

-- ---- Calls that keep the tag.

aad_keeps : (phase : Phase) (e : SparkleEngine) (input : List ℕ) → (aad_in phase e input).mac ≡ e.mac
unfolding at_point
aad_keeps Uninitialized e input = refl
aad_keeps (Init d) e input = refl
aad_keeps (Aad d) e input = refl
aad_keeps (Data d) e input = refl
aad_keeps (Final d) e input = refl

header-keeps : (k : Result ℕ AeadError) (e : SparkleEngine) (input : List ℕ) → (aad_by k e input).engine.mac ≡ e.mac
header-keeps (Err x) e input = refl
header-keeps (Ok n) e [] = refl
header-keeps (Ok n) e (x ∷ input) = aad_keeps e.current.phase e (x ∷ input)

begin_keeps : (phase : Phase) (e : SparkleEngine) → (begin_by phase e).mac ≡ e.mac
unfolding at_point
begin_keeps Uninitialized e = refl
begin_keeps (Init d) e = refl
begin_keeps (Aad d) e = refl
begin_keeps (Data d) e = refl
begin_keeps (Final d) e = refl

message-keeps : (k : Result ℕ AeadError) (e : SparkleEngine) (input : List ℕ) → (data_by k e input).engine.mac ≡ e.mac
unfolding data_in at_point begin_data
message-keeps (Err x) e input = refl
message-keeps (Ok n) e input = begin_keeps e.current.phase e

same_tag : (e e' : SparkleEngine) → e'.mac ≡ e.mac → (mac_of e').readable ≡ (mac_of e).readable
unfolding mac_of
same_tag e e' q = ap (λ (m : Mac). (cond m.readable m no_mac).readable) q

-- ---- A start and a reset drop it.

start_drops_by : (k : Result (Unit {0}) AeadInitError) (e : SparkleEngine) (d : Direction) (key nonce header : List ℕ)
    → mac_of (init_by k e d key nonce header).engine ≡ no_mac
unfolding mac_of started refused no_mac
start_drops_by (Ok _) e d key nonce header = refl
start_drops_by (Err x) e d key nonce header = refl

pub start_drops : (e : SparkleEngine) (d : Direction) (key nonce : List ℕ) (size : ℕ) (header : List ℕ)
    → mac_of (step e (Call.Init d key nonce size header)).engine ≡ no_mac
unfolding step init
start_drops e d key nonce size header =
    start_drops_by (start_check e.variant d (length key) (length nonce) size
    (repeats (params_of e.variant) e.pair key nonce)) e d key nonce header

pub reset_drops : (e : SparkleEngine) → mac_of (step e Call.Reset).engine ≡ no_mac
unfolding step resetEngine mac_of no_mac
reset_drops e = refl

dropped : (m : Mac) → m ≡ no_mac → m.readable ≡ false
unfolding no_mac
dropped m q = ap (λ (x : Mac). x.readable) q

-- ---- An end.

shown-is : (good : Bool) (tag : List ℕ) → (cond good (readable tag) no_mac).readable ≡ good
unfolding readable no_mac
shown-is true tag = refl
shown-is false tag = refl

end_shows : (opens tag_right before : Bool) (n : ℕ) → cond opens tag_right true ≡ shown_by_end (Ok n) opens tag_right before
end_shows true tag_right before n = refl
end_shows false tag_right before n = refl

module _ (v : SparkleVariant) (e : SparkleEngine) (r : Reader) (w : Invariant v e r) where
  end_step : (out : List ℕ) → (mac_of (step e (Call.Final out)).engine).readable
      ≡ shown_after v r (mac_of e).readable (Call.Final out)
  unfolding shown_after
  end_step out = by (end_check (params_of v) r.phase (reader_held (params_of v) r) (length out)) refl
    where
      by : (k : Result ℕ AeadError) → end_check (params_of v) r.phase (reader_held (params_of v) r) (length out) ≡ k
          → (mac_of (step e (Call.Final out)).engine).readable
          ≡ shown_after v r (mac_of e).readable (Call.Final out)
      by (Err x) q =
          unfold step in unfold do_final in
          let E = engine_of v r w.mac w.steps in
          ap (λ (y : SparkleEngine). (mac_of (final_by (final_answer y (length out)) y).engine).readable) w.same-engine
          ∙ ap (λ (k : Result ℕ AeadError). (mac_of (final_by k E).engine).readable) (final_answer_lem v r w.mac w.steps (length out) ∙ q)
          ∙ ap (λ (y : SparkleEngine). (mac_of y).readable) (sym w.same-engine)
          ∙ sym (ap (λ (k : Result ℕ AeadError). shown_by_end k (opening r.phase)
          (verified (params_of v) (loaded_key r) (loaded_nonce r) r.header r.body) (mac_of e).readable) q)
      by (Ok n) q =
          let good = cond (opening r.phase) (verified (params_of v) (loaded_key r) (loaded_nonce r) r.header r.body) true in
          ap (λ (m : Mac). m.readable) (end_mac_lem v e r w out n q) ∙ shown-is good _
          ∙ end_shows (opening r.phase) (verified (params_of v) (loaded_key r) (loaded_nonce r) r.header r.body) (mac_of e).readable n
          ∙ sym (ap (λ (k : Result ℕ AeadError). shown_by_end k (opening r.phase)
          (verified (params_of v) (loaded_key r) (loaded_nonce r) r.header r.body) (mac_of e).readable) q)

  -- ---- Every call.

  shown-step : (c : Call) → (mac_of (step e c).engine).readable ≡ shown_after v r (mac_of e).readable c
  unfolding shown_after
  shown-step (Call.Init d key nonce size h) = dropped _ (start_drops e d key nonce size h)
  shown-step (Call.Aad input) =
      unfold step in unfold process_aad_bytes in
      same_tag e _ (header-keeps (aad_check e.current.phase (length input)) e input)
  shown-step (Call.Data input out) =
      unfold step in unfold process_bytes in
      same_tag e _ (message-keeps (data_answer e (length input) (length out)) e input)
  shown-step (Call.Final out) = end_step out
  shown-step Call.Reset = dropped _ (reset_drops e)
  shown-step Call.Mac = unfold step in refl
  shown-step (Call.Update n) = unfold step in refl
  shown-step (Call.Output n) = unfold step in refl

-- ---- Every list of calls.

shown-from : (v : SparkleVariant) (calls : List Call) (e : SparkleEngine) (r : Reader) → Invariant v e r
    → map (λ (l : Line). l.readable) (lines e calls) ≡ shown_tags v r (mac_of e).readable calls
unfolding shown_tags lines line
shown-from v [] e r w = refl
shown-from v (c ∷ calls) e r w =
    let q = (read v r c).reader in
    ap (λ (bs : List Bool). (mac_of (step e c).engine).readable ∷ bs)
    (shown-from v calls (step e c).engine q (invariant_step v e r w c))
    ∙ ap (λ (b : Bool). b ∷ shown_tags v q b calls) (shown-step v e r w c)

pub sheet-shown : (v : SparkleVariant) (calls : List Call)
    → map (λ (l : Line). l.readable) (sheet v calls) ≡ shown_tags v new_reader false calls
unfolding sheet new_engine mac_of no_mac
sheet-shown v calls = shown-from v calls (new_engine v) new_reader (invariant_new v)

-- The same of the engine as a machine.
pub engine-shown : (v : SparkleVariant) (calls : List Call)
    → map (λ (l : Line). l.readable) (sheet_of engine v calls) ≡ shown_tags v new_reader false calls
unfolding sheet
engine-shown v calls = ap (map (λ (l : Line). l.readable)) (engine-lines (new_engine v) calls) ∙ sheet-shown v calls
