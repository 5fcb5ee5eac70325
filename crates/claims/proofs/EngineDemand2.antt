-- Demand 2, the bytes: a message without refusal, however its data is cut, is written as the specification gives it, and
-- so are the bytes of every list of calls. With the answers and the steps the engine meets demand 2.
use mathlib.Core.Path.{◌≡◌, refl, sym, ap, ap₂, ◌∙◌}
use mathlib.Core.Bool.{cond}
use mathlib.Core.List.{List, [], ◌∷◌, ◌++◌, append_assoc, append-nil}
use Prim.Native.Nat.{ℕ}
use native.Mathlib.Omega.{arith}
use lib.ListN.{length}
use Rattle.std.specs.Prelude.{Result}
use Rattle.schwaemm.specs.Schwaemm.{seal, decrypt, body}
use Rattle.tc_aead_cipher.specs.declared.variant.SparkleVariant.{SparkleVariant}
use Rattle.tc_aead_cipher.specs.declared.phase.Direction.{Direction}
use Rattle.tc_aead_cipher.specs.declared.phase.Direction.TheVariants.{Encrypt, Decrypt}
use Rattle.tc_aead_cipher.specs.declared.aead_error.AeadError.{AeadError}
use Rattle.tc_sparkle_aead.specs.declared.engine.SparkleEngine.{SparkleEngine}
use Rattle.tc_aead_cipher.specs.Variant.{params_of}
use Rattle.tc_aead_cipher.specs.Checks.{data_check}
use Rattle.tc_sparkle_aead.specs.Engine.{new_engine}
use Rattle.tc_sparkle_aead.specs.Calls.{mac_of}
use Rattle.tc_aead_cipher.specs.Call.{Call}
use Rattle.tc_aead_cipher.specs.Outcome.{outcome}
use Rattle.tc_sparkle_aead.specs.Sheet.{step, line, run, run_from}
use Rattle.tc_aead_cipher.specs.Outcome.Outcome.{ok}
use Rattle.claims.specs.Reader.{Reader, reader_held, read_message, read, read_from, reader}
use Rattle.claims.specs.Messages.{outputs, AllBetween, started_engine, wrote, answer_of, handed_by, handed, UnderWay}
use Rattle.claims.specs.Messages.{released, finished_bytes}
use Rattle.claims.specs.Machine.{engine, lines_of, sheet_of, bytes_of, Piece, data_calls, joined, piece_calls, AllOk, after}
use Rattle.claims.specs.Machine.{handed_of, Demand2}
use Rattle.claims.specs.Machine.AllOk.{none, more}
use Rattle.claims.proofs.Invariant.{Invariant}
use Rattle.claims.proofs.InvariantKept.{invariant_step, invariant_run}
use Rattle.claims.proofs.CallOutputs.{outcome-ok}
use Rattle.claims.proofs.UnrefusedMessages.{started_reader, start_invariant, sealed_accepted, opened-accepted}
use Rattle.claims.proofs.ListOutputs.{so_far, finished}
use Rattle.claims.proofs.MachineDemand3.{answered}
use Rattle.claims.proofs.EngineDemand3.{linked, engine-answered}
use Rattle.claims.proofs.Shown.{engine-shown}
use Rattle.claims.proofs.EngineCounts.{engine-counted}

bytes-outputs : (e : SparkleEngine) (calls : List Call) → bytes_of engine e calls ≡ outputs e calls
unfolding outputs wrote line
bytes-outputs e [] = refl
bytes-outputs e (c ∷ calls) =
    ap (λ (l : List ℕ). wrote (step e c) ++ l) (bytes-outputs (step e c).engine calls)

-- the data calls alone
abbrev messages : List Piece → List Call
messages [] = []
messages (x ∷ pieces) = Call.Data x.input x.out ∷ messages pieces

data-calls : (pieces : List Piece) (out : List ℕ) → data_calls pieces out ≡ messages pieces ++ (Call.Final out ∷ [])
data-calls [] out = refl
data-calls (x ∷ pieces) out =
    ap (λ (l : List Call). Call.Data x.input x.out ∷ l) (data-calls pieces out)

messages_between : (e : SparkleEngine) (pieces : List Piece) → AllBetween e (messages pieces)
messages_between e [] = tt
messages_between e (x ∷ pieces) = (tt, messages_between (step e (Call.Data x.input x.out)).engine pieces)

-- An accepted data call appends its input.
message-read : (v : SparkleVariant) (e : SparkleEngine) (r : Reader) → Invariant v e r → (input out : List ℕ) (n : ℕ)
    → (step e (Call.Data input out)).outcome ≡ ok n
    → ((read v r (Call.Data input out)).reader.header ≡ r.header)
    × ((read v r (Call.Data input out)).reader.body ≡ r.body ++ input)
unfolding read answer_of
message-read v e r w input out n q =
    let p = params_of v in
    let a : outcome (data_check p r.phase (reader_held p r) (length input) (length out)) ≡ ok n =
    sym (answered v e r (linked v e r w) (Call.Data input out) (λ h. let z : ◌≡◌ {A = ℕ} 0 1 = cc in omega arith)) ∙ q
    in
    let c = outcome-ok (data_check p r.phase (reader_held p r) (length input) (length out)) n a in
    (ap (λ (k : Result ℕ AeadError). (read_message k r input).reader.header) c, ap (λ (k : Result ℕ AeadError). (read_message k r input).reader.body) c)

-- what data calls and an end without refusal leave
record PiecesAccepted (v : SparkleVariant) (pieces : List Piece) (out : List ℕ) (e : SparkleEngine) (r : Reader) : Type 0 where
  count : ℕ
  end-ok : (step (run_from e (messages pieces)) (Call.Final out)).outcome ≡ ok count
  header_is : (read_from v r (messages pieces)).header ≡ r.header
  body_is : (read_from v r (messages pieces)).body ≡ r.body ++ joined pieces

pieces_accepted : (v : SparkleVariant) (pieces : List Piece) (out : List ℕ) (e : SparkleEngine) (r : Reader) → Invariant v e r
    → AllOk (lines_of engine e (data_calls pieces out)) → PiecesAccepted v pieces out e r
unfolding run_from read_from line
pieces_accepted v [] out e r w (more n q none) =
    record { count = n; end-ok = q; header_is = refl; body_is = sym (append-nil r.body) }
pieces_accepted v (x ∷ pieces) out e r w (more n q all) =
    let p = params_of v in
    let c = Call.Data x.input x.out in
    let g = pieces_accepted v pieces out (step e c).engine (read v r c).reader (invariant_step v e r w c) all in
    let m = message-read v e r w x.input x.out n q in
    record {
      count = g.count;
      end-ok = g.end-ok;
      header_is = g.header_is ∙ m.0;
      body_is =
          g.body_is ∙ ap (λ (l : List ℕ). l ++ joined pieces) m.1 ∙ append_assoc r.body x.input (joined pieces);
    }

-- a message without refusal, by its start
module _ (v : SparkleVariant) (d : Direction) (key nonce header : List ℕ) (size : ℕ) (pieces : List Piece) (out : List ℕ)
    (k : ℕ) (taken : (step (run v []) (Call.Init d key nonce size header)).outcome ≡ ok k)
    (all : AllOk (lines_of engine (started_engine v [] d key nonce size header) (data_calls pieces out))) where
  pieces_of_message : PiecesAccepted v pieces out (started_engine v [] d key nonce size header) (started_reader (reader v []) d key nonce header)
  pieces_of_message =
      pieces_accepted v pieces out (started_engine v [] d key nonce size header) (started_reader (reader v []) d key nonce header)
      (start_invariant v [] d key nonce size header (messages pieces) out k taken
      (messages_between (started_engine v [] d key nonce size header) pieces)) all

  written-outputs : bytes_of engine (new_engine v) (piece_calls d key nonce header size pieces out)
      ≡ outputs (run v []) (Call.Init d key nonce size header ∷ (messages pieces ++ (Call.Final out ∷ [])))
  unfolding run run_from
  written-outputs =
      bytes-outputs (new_engine v) (piece_calls d key nonce header size pieces out)
      ∙ ap (λ (l : List Call). outputs (new_engine v) (Call.Init d key nonce size header ∷ l)) (data-calls pieces out)

module _ (v : SparkleVariant) (key nonce header : List ℕ) (size : ℕ) (pieces : List Piece) (out : List ℕ) where
  pub engine-seals : AllOk (sheet_of engine v (piece_calls Encrypt key nonce header size pieces out))
      → bytes_of engine (engine.new v) (piece_calls Encrypt key nonce header size pieces out)
      ≡ seal (params_of v) key nonce header (joined pieces)
  unfolding run run_from line
  engine-seals (more k q all) =
      let g = pieces_of_message v Encrypt key nonce header size pieces out k q all in
      written-outputs v Encrypt key nonce header size pieces out k q all
      ∙ sealed_accepted v [] key nonce size header (messages pieces) out k g.count q
      (messages_between (started_engine v [] Encrypt key nonce size header) pieces) g.end-ok
      ∙ ap₂ (λ (h m : List ℕ). seal (params_of v) key nonce h m) g.header_is g.body_is

  pub engine-opens : AllOk (sheet_of engine v (piece_calls Decrypt key nonce header size pieces out))
      → bytes_of engine (engine.new v) (piece_calls Decrypt key nonce header size pieces out)
      ≡ decrypt (params_of v) key nonce header (body (params_of v) (joined pieces))
  unfolding run run_from line
  engine-opens (more k q all) =
      let g = pieces_of_message v Decrypt key nonce header size pieces out k q all in
      written-outputs v Decrypt key nonce header size pieces out k q all
      ∙ (opened-accepted v [] key nonce size header (messages pieces) out k g.count q
      (messages_between (started_engine v [] Decrypt key nonce size header) pieces) g.end-ok).bytes-are
      ∙ ap₂ (λ (h m : List ℕ). decrypt (params_of v) key nonce h (body (params_of v) m)) g.header_is g.body_is

-- of every list of calls
handed-is : (e : SparkleEngine) (before : List ℕ) (calls : List Call) → handed_of engine e before calls ≡ handed e before calls
unfolding handed wrote line
handed-is e before [] = refl
handed-is e before (c ∷ calls) = handed-is (step e c).engine (handed_by c before (wrote (step e c))) calls

after_is : (e : SparkleEngine) (calls : List Call) → after engine e calls ≡ run_from e calls
unfolding run_from
after_is e [] = refl
after_is e (c ∷ calls) = after_is (step e c).engine calls

engine_so_far : (v : SparkleVariant) (calls : List Call) → UnderWay (reader v calls).phase
    → handed_of engine (engine.new v) [] calls ≡ released (params_of v) (reader v calls)
engine_so_far v calls u = handed-is (new_engine v) [] calls ∙ so_far v calls u

engine-completed : (v : SparkleVariant) (calls : List Call) (out : List ℕ) (n : ℕ)
    → (engine.step (after engine (engine.new v) calls) (Call.Final out)).line.outcome ≡ ok n
    → handed_of engine (engine.new v) [] (calls ++ (Call.Final out ∷ [])) ≡ finished_bytes (params_of v) (reader v calls)
unfolding run line
engine-completed v calls out n q =
    handed-is (new_engine v) [] (calls ++ (Call.Final out ∷ []))
    ∙ finished v calls out n
    (ap (λ (e : SparkleEngine). (step e (Call.Final out)).outcome) (sym (after_is (new_engine v) calls)) ∙ q)

variant_is : (v : SparkleVariant) (calls : List Call) → (after engine (new_engine v) calls).variant ≡ v
unfolding run
variant_is v calls =
    ap (λ (e : SparkleEngine). e.variant) (after_is (new_engine v) calls)
    ∙ ap (λ (e : SparkleEngine). e.variant) (invariant_run v calls).same-engine

engine_mac_counts : (v : SparkleVariant) (before : List Call)
    → (engine.step (after engine (engine.new v) before) Call.Mac).line.outcome
    ≡ ok (cond (engine.step (after engine (engine.new v) before) Call.Mac).line.readable (params_of v).key 0)
unfolding step line
engine_mac_counts v before =
    ap (λ (w : SparkleVariant). ok (cond (mac_of (after engine (new_engine v) before)).readable (params_of w).key 0))
    (variant_is v before)

-- The engine meets demand 2.
pub engine_demand_2 : Demand2 engine
engine_demand_2 =
    record {
      answers = engine-answered;
      seals = engine-seals;
      opens = engine-opens;
      so_far = engine_so_far;
      completed = engine-completed;
      shown = engine-shown;
      mac_counts = engine_mac_counts;
      counted = engine-counted;
    }
