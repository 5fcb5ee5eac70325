-- Demands 2 and 3 as predicates over anything that takes the calls: a machine. The answers, bytes and steps that are asked
-- for are those of the plain reader, of which no machine knows.
use Rattle.std.specs.Prelude.{◌≡◌, ◌↔◌, false, cond, List, [], ◌∷◌, ◌++◌, map, ℕ, take}
use Rattle.schwaemm.specs.Schwaemm.{seal, decrypt, body as body_of}
use Rattle.tc_aead_cipher.specs.declared.variant.SparkleVariant.{SparkleVariant}
use Rattle.tc_aead_cipher.specs.declared.phase.Direction.{Direction}
use Rattle.tc_aead_cipher.specs.declared.phase.Direction.TheVariants.{Encrypt, Decrypt}
use Rattle.tc_sparkle_aead.specs.declared.engine.SparkleEngine.{SparkleEngine}
use Rattle.tc_aead_cipher.specs.Variant.{params_of}
use Rattle.tc_sparkle_aead.specs.Engine.{new_engine}
use Rattle.tc_aead_cipher.specs.Call.{Call}
use Rattle.claims.specs.Shape.{Alike}
use Rattle.tc_sparkle_aead.specs.Sheet.{step, Line, line}
use Rattle.tc_aead_cipher.specs.Outcome.Outcome.{ok}
use Rattle.claims.specs.Reader.{new_reader, verdicts, reader}
use Rattle.claims.specs.Steps.{counts}
use Rattle.claims.specs.Messages.{count_of, answer_of, handed_by, UnderWay, released, finished_bytes, shown_tags}

-- ---- Machines

-- What a machine gives for a call: its next state, the line, and the output buffer that was lent.
pub record Reply (State : Type 0) : Type 0 where
  pub state : State
  pub line : Line
  pub buffer : List ℕ

-- What takes the calls: its states, a new one of each variant, and what it gives for a call.
pub record Machine : Type 1 where
  pub State : Type 0
  pub new : SparkleVariant → State
  pub step : State → Call → Reply State

-- The engine.
abbrev pub engine : Machine
engine =
    record {
      State = SparkleEngine;
      new = new_engine;
      step = λ e c. record { state = (step e c).engine; line = line (step e c); buffer = (step e c).buffer };
    }

module _ (m : Machine) where
  -- The state after a list of calls, and the lines of the list.
  abbrev pub after : m.State → List Call → m.State
  after s [] = s
  after s (c ∷ calls) = after (m.step s c).state calls

  abbrev pub lines_of : m.State → List Call → List Line
  lines_of s [] = []
  lines_of s (c ∷ calls) = (m.step s c).line ∷ lines_of (m.step s c).state calls

  abbrev pub sheet_of : SparkleVariant → List Call → List Line
  sheet_of v calls = lines_of (m.new v) calls

-- The bytes that the calls of a list wrote: of each as many as it counts.
abbrev pub bytes_of : (m : Machine) → m.State → List Call → List ℕ
bytes_of m s [] = []
bytes_of m s (c ∷ calls) =
    take (count_of (m.step s c).line.outcome) (m.step s c).buffer ++ bytes_of m (m.step s c).state calls

-- The bytes that it has handed out since the last start or reset, behind those of `before`.
abbrev pub handed_of : (m : Machine) → m.State → (before : List ℕ) → List Call → List ℕ
handed_of m s before [] = before
handed_of m s before (c ∷ calls) =
    handed_of m (m.step s c).state
    (handed_by c before (take (count_of (m.step s c).line.outcome) (m.step s c).buffer)) calls

-- ---- Demand 2

-- A message: a start, data calls, each with its input and its output, and the end.
pub record Piece : Type 0 where
  pub input : List ℕ
  pub out : List ℕ

abbrev pub data_calls : List Piece → List ℕ → List Call
data_calls [] out = Call.Final out ∷ []
data_calls (x ∷ pieces) out = Call.Data x.input x.out ∷ data_calls pieces out

abbrev pub joined : List Piece → List ℕ
joined [] = []
joined (x ∷ pieces) = x.input ++ joined pieces

abbrev pub piece_calls : Direction → (key nonce header : List ℕ) (size : ℕ) → List Piece → List ℕ → List Call
piece_calls d key nonce header size pieces out = Call.Init d key nonce size header ∷ data_calls pieces out

pub data AllOk : List Line → Type 0 where
  none : AllOk []
  more : {l : Line} {rest : List Line} (n : ℕ) → l.outcome ≡ ok n → AllOk rest → AllOk (l ∷ rest)

pub record Demand2 (m : Machine) : Type 0 where
  -- every call after every list is answered as the tables say
  pub answers : (v : SparkleVariant) (before : List Call) (c : Call) → (c ≡ Call.Mac → ⊥)
      → (m.step (after m (m.new v) before) c).line.outcome ≡ answer_of v (reader v before) c
  -- however the data is cut, a sealing without refusal writes what the specification gives
  pub seals : (v : SparkleVariant) (key nonce header : List ℕ) (size : ℕ) (pieces : List Piece) (out : List ℕ)
      → AllOk (sheet_of m v (piece_calls Encrypt key nonce header size pieces out))
      → bytes_of m (m.new v) (piece_calls Encrypt key nonce header size pieces out)
      ≡ seal (params_of v) key nonce header (joined pieces)
  -- and an opening what the packet, without its tag, decrypts to
  pub opens : (v : SparkleVariant) (key nonce header : List ℕ) (size : ℕ) (pieces : List Piece) (out : List ℕ)
      → AllOk (sheet_of m v (piece_calls Decrypt key nonce header size pieces out))
      → bytes_of m (m.new v) (piece_calls Decrypt key nonce header size pieces out)
      ≡ decrypt (params_of v) key nonce header (body_of (params_of v) (joined pieces))
  -- over every list of calls, resets included, the bytes handed out are the specification's for what was taken
  pub so_far : (v : SparkleVariant) (calls : List Call) → UnderWay (reader v calls).phase
      → handed_of m (m.new v) [] calls ≡ released (params_of v) (reader v calls)
  -- and an end that is not refused completes them
  pub completed : (v : SparkleVariant) (calls : List Call) (out : List ℕ) (n : ℕ)
      → (m.step (after m (m.new v) calls) (Call.Final out)).line.outcome ≡ ok n
      → handed_of m (m.new v) [] (calls ++ (Call.Final out ∷ [])) ≡ finished_bytes (params_of v) (reader v calls)
  -- on every line a tag can be read where the calls before say so, and mac counts it
  pub shown : (v : SparkleVariant) (calls : List Call)
      → map (λ (l : Line). l.readable) (sheet_of m v calls) ≡ shown_tags v new_reader false calls
  pub mac_counts : (v : SparkleVariant) (before : List Call)
      → (m.step (after m (m.new v) before) Call.Mac).line.outcome
      ≡ ok (cond (m.step (after m (m.new v) before) Call.Mac).line.readable (params_of v).key 0)
  -- the steps of every line are the formula's
  pub counted : (v : SparkleVariant) (calls : List Call)
      → map (λ (l : Line). l.steps) (sheet_of m v calls) ≡ counts v new_reader 0 calls

-- ---- Demand 3

abbrev pub Demand3 : Machine → Type 0
Demand3 m =
    (v : SparkleVariant) (xs ys : List Call) → Alike xs ys
    → (sheet_of m v xs ≡ sheet_of m v ys) ↔ (verdicts v xs ≡ verdicts v ys)
