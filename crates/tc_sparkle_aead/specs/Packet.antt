-- A whole packet at once: init on a new engine, one data call and the end. And the same end at a point of the data, for the
-- code that puts no engine together.
use Rattle.std.specs.Prelude.{ℕ, ◌+◌, ◌-◌, Bool, cond, List, ◌++◌, length, take, drop, Result, Ok, Err}
use Rattle.schwaemm.specs.Schwaemm.{Params}
use Rattle.tc_aead_cipher.specs.declared.variant.SparkleVariant.{SparkleVariant}
use Rattle.tc_aead_cipher.specs.declared.phase.Direction.{Direction}
use Rattle.tc_aead_cipher.specs.declared.phase.Phase.TheVariants.{Data}
use Rattle.tc_aead_cipher.specs.declared.aead_error.AeadError.{AeadError}
use Rattle.tc_aead_cipher.specs.declared.reply.Reply.{Reply}
use Rattle.tc_aead_cipher.specs.Variant.{params_of}
use Rattle.tc_aead_cipher.specs.Checks.{opening, end_check}
use Rattle.tc_aead_cipher.specs.Call.{Call}
use Rattle.tc_aead_cipher.specs.Outcome.{Outcome, outcome}
use Rattle.tc_aead_cipher.specs.Reply.{reply_of}
use Rattle.tc_sparkle_aead.specs.declared.message.Point.{Point}
use Rattle.tc_sparkle_aead.specs.declared.message.Mac.{Mac}
use Rattle.tc_sparkle_aead.specs.declared.engine.SparkleEngine.{SparkleEngine}
use Rattle.tc_sparkle_aead.specs.Message.{empty_point, written, seal_end, seal_out, open_end, open_out}
use Rattle.tc_sparkle_aead.specs.Engine.{new_engine}
use Rattle.tc_sparkle_aead.specs.Calls.{answered}
use Rattle.tc_sparkle_aead.specs.Sheet.{step}

-- The reply of the first call that is refused, or of the end; and the output.
pub record PacketResult : Type 0 where
  pub reply : Reply
  pub out : List ℕ

-- ---- By the engine's calls

-- The end, behind the n bytes that the data call wrote.
abbrev pub end_by : ℕ → Outcome → List ℕ → PacketResult
end_by n (Outcome.ok m) out = record { reply = reply_of (Outcome.ok (n + m)); out = out }
end_by n (Outcome.no v) out = record { reply = reply_of (Outcome.no v); out = out }

unfoldable pub end_packet : ℕ → SparkleEngine → List ℕ → PacketResult
end_packet n e out =
    let l = step e (Call.Final (drop n out)) in end_by n l.outcome (take n out ++ l.buffer)

-- The data call and the end.
abbrev pub data_by : Outcome → SparkleEngine → List ℕ → PacketResult
data_by (Outcome.ok n) e out = end_packet n e out
data_by (Outcome.no v) e out = record { reply = reply_of (Outcome.no v); out = out }

unfoldable pub data_packet : SparkleEngine → (input out : List ℕ) → PacketResult
data_packet e input out =
    let l = step e (Call.Data input out) in data_by l.outcome l.engine l.buffer

-- The start, the data call and the end, on a new engine of a variant.
abbrev pub start_by : Outcome → SparkleEngine → (input out : List ℕ) → PacketResult
start_by (Outcome.ok n) e input out = data_packet e input out
start_by (Outcome.no v) e input out = record { reply = reply_of (Outcome.no v); out = out }

unfoldable pub variant_packet : SparkleVariant → Direction → (key nonce header input out : List ℕ) → PacketResult
variant_packet v d key nonce header input out =
    let p = params_of v in
    let l = step (new_engine v) (Call.Init d key nonce p.key header) in start_by l.outcome l.engine input out

-- ---- By the points of the message

-- The point where the data begins, from the words of its state.
unfoldable pub data_point : Direction → List ℕ → Point
data_point d words = empty_point (Data d) words

-- The tag that an end gives, and what it writes.
abbrev pub end_mac : Bool → Params → (key : List ℕ) → Point → Mac
end_mac opens p key at = cond opens (open_end p key at).mac (seal_end p key at).mac

abbrev pub end_bytes : Bool → Params → (key : List ℕ) → Point → List ℕ
end_bytes opens p key at = cond opens (open_out p key at) (seal_out p key at)

-- The end at a point of the data under a key, behind the n bytes that are written: by its check.
abbrev pub point_end_by : Result ℕ AeadError → ℕ → Params → (key : List ℕ) → Point → List ℕ → PacketResult
point_end_by (Err x) n p key at out = record { reply = reply_of (outcome (Err x)); out = out }
point_end_by (Ok m) n p key at out =
    record {
      reply = reply_of (outcome (answered (Ok (n + m)) (end_mac (opening at.phase) p key at)));
      out = take n out ++ written (end_bytes (opening at.phase) p key at) (drop n out);
    }

unfoldable pub point_end : ℕ → Params → (key : List ℕ) → Point → List ℕ → PacketResult
point_end n p key at out = point_end_by (end_check p at.phase at.held (length out - n)) n p key at out
