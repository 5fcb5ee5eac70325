-- What the claims of demand 1 say: when a call is refused, with which number, and what each number leaves.
use Rattle.std.specs.Prelude.{◌≡◌, true, cond, List, [], ◌∷◌, ◌++◌, ℕ, ◌+◌, ◌-◌, ◌*◌, ◌/◌, ◌%◌, ◌^◌, ◌≤◌, ◌<◌, min, length, take, drop, ltb}
use Rattle.schwaemm.specs.Schwaemm.{Params}
use Rattle.tc_aead_cipher.specs.declared.phase.Direction.{Direction}
use Rattle.tc_aead_cipher.specs.declared.phase.Direction.TheVariants.{Encrypt, Decrypt}
use Rattle.tc_aead_cipher.specs.declared.phase.Phase.{Phase}
use Rattle.tc_aead_cipher.specs.declared.phase.Phase.TheVariants.{Uninitialized, Init, Aad, Data, Final}
use Rattle.tc_sparkle_aead.specs.declared.engine.SparkleEngine.{SparkleEngine}
use Rattle.tc_aead_cipher.specs.Variant.{params_of}
use Rattle.tc_sparkle_aead.specs.Message.{zeros, no_message, no_mac, final_point, received_tag, open_tag}
use Rattle.tc_sparkle_aead.specs.Engine.{no_steps, current_key}
use Rattle.tc_aead_cipher.specs.Call.{Call}
use Rattle.tc_aead_cipher.specs.Outcome.{Outcome}
use Rattle.tc_sparkle_aead.specs.Sheet.{step}
use Rattle.tc_aead_cipher.specs.Outcome.Outcome.{ok, no}

-- ---- Where a number comes back

-- The phases that take data and an end, by their direction.
pub data Active (d : Direction) : Phase → Type 0 where
  in-init : Active d (Init d)
  in_aad : Active d (Aad d)
  in-data : Active d (Data d)

-- The phases by their direction; Uninitialized counts as sealing.
pub data HasDirection : Direction → Phase → Type 0 where
  no-message : HasDirection Encrypt Uninitialized
  of-init : {d : Direction} → HasDirection d (Init d)
  of_aad : {d : Direction} → HasDirection d (Aad d)
  of-data : {d : Direction} → HasDirection d (Data d)
  of_final : {d : Direction} → HasDirection d (Final d)

-- The held bytes h: 0 outside Data; at most a block, on an opening a tag and a block.
abbrev pub held_at : Params → Phase → ℕ → ℕ
held_at p Uninitialized n = 0
held_at p (Init d) n = 0
held_at p (Aad d) n = 0
held_at p (Data Encrypt) n = min n p.rate
held_at p (Data Decrypt) n = min n (p.key + p.rate)
held_at p (Final d) n = 0

abbrev pub engine_held : SparkleEngine → ℕ
engine_held e = held_at (params_of e.variant) e.current.phase e.current.held

-- The variant's bytes: key and tag; nonce and block.
abbrev pub key_of : SparkleEngine → ℕ
key_of e = (params_of e.variant).key

abbrev pub rate_of : SparkleEngine → ℕ
rate_of e = (params_of e.variant).rate

-- What a data call writes when h + n is the sum: a byte stays, on an opening a tag and a byte; the rest rounded down to a
-- multiple of the rate.
abbrev pub data_writes : Direction → Params → ℕ → ℕ
data_writes Encrypt p sum = (sum - 1) / p.rate * p.rate
data_writes Decrypt p sum = (sum - (p.key + 1)) / p.rate * p.rate

-- What h bytes are with the tag; on an opening without it.
abbrev pub end_writes : Direction → Params → ℕ → ℕ
end_writes Encrypt p h = h + p.key
end_writes Decrypt p h = h - p.key

-- The sum that an output_len must not let pass 2^64 - 1.
abbrev pub output_sum : Direction → Params → ℕ → ℕ
output_sum Encrypt p sum = sum + p.key
output_sum Decrypt p sum = sum

-- A key and a nonce are the last loaded pair: one is loaded, and its bytes are these.
abbrev pub Repeats : SparkleEngine → (key nonce : List ℕ) → Type 0
Repeats e key nonce =
    (e.pair.loaded ≡ true) × (take (key_of e) e.pair.key ≡ key) × (take (rate_of e) e.pair.nonce ≡ nonce)

-- The tag that an opening holds at its end, and the one that its message has under the loaded key.
abbrev pub received_tag_of : SparkleEngine → List ℕ
received_tag_of e = received_tag (params_of e.variant) e.current

abbrev pub computed_tag : SparkleEngine → List ℕ
computed_tag e = open_tag (params_of e.variant) (current_key (params_of e.variant) e.pair) e.current

-- When a call is refused, with which number and values: the lines of document 01's two tables, each with the checks
-- before it passed.
pub data Refused (e : SparkleEngine) : Call → List ℕ → Type 0 where
  key-length : {d : Direction} {key nonce header : List ℕ} {size : ℕ} → (length key ≡ key_of e → ⊥)
      → Refused e (Call.Init d key nonce size header) (1 ∷ (length key ∷ []))
  nonce-length : {d : Direction} {key nonce header : List ℕ} {size : ℕ} → length key ≡ key_of e
      → (length nonce ≡ rate_of e → ⊥) → Refused e (Call.Init d key nonce size header) (2 ∷ (length nonce ∷ []))
  mac_size : {d : Direction} {key nonce header : List ℕ} {size : ℕ} → length key ≡ key_of e → length nonce ≡ rate_of e
      → (size ≡ key_of e → ⊥) → Refused e (Call.Init d key nonce size header) (3 ∷ (size ∷ []))
  data-room : {d : Direction} {input out : List ℕ} → Active d e.current.phase → engine_held e + length input < 2 ^ 64
      → length out < data_writes d (params_of e.variant) (engine_held e + length input)
      → Refused e (Call.Data input out)
      (4 ∷ (data_writes d (params_of e.variant) (engine_held e + length input) ∷ (length out ∷ [])))
  end-room : {d : Direction} {out : List ℕ} → Active d e.current.phase
      → length out < end_writes d (params_of e.variant) (engine_held e)
      → Refused e (Call.Final out) (4 ∷ (end_writes d (params_of e.variant) (engine_held e) ∷ (length out ∷ [])))
  no-tag : {out : List ℕ} → Active Decrypt e.current.phase → engine_held e < key_of e
      → Refused e (Call.Final out) (5 ∷ (key_of e ∷ (engine_held e ∷ [])))
  tag_differs : {out : List ℕ} → e.current.phase ≡ Data Decrypt → key_of e ≤ engine_held e → engine_held e - key_of e ≤ length out
      → (received_tag_of e ≡ computed_tag e → ⊥) → Refused e (Call.Final out) (6 ∷ [])
  data-sum : {d : Direction} {input out : List ℕ} → Active d e.current.phase → 2 ^ 64 ≤ engine_held e + length input
      → Refused e (Call.Data input out) (7 ∷ [])
  update_sum : {n : ℕ} → 2 ^ 64 ≤ engine_held e + n → Refused e (Call.Update n) (7 ∷ [])
  output-sum : {d : Direction} {n : ℕ} → HasDirection d e.current.phase
      → 2 ^ 64 ≤ output_sum d (params_of e.variant) (engine_held e + n) → Refused e (Call.Output n) (7 ∷ [])
  header_not_initialized : {input : List ℕ} → 0 < length input → e.current.phase ≡ Uninitialized
      → Refused e (Call.Aad input) (8 ∷ [])
  data_not_initialized : {input out : List ℕ} → e.current.phase ≡ Uninitialized
      → Refused e (Call.Data input out) (8 ∷ [])
  end_not_initialized : {out : List ℕ} → e.current.phase ≡ Uninitialized → Refused e (Call.Final out) (8 ∷ [])
  header_after_data : {d : Direction} {input : List ℕ} → 0 < length input → e.current.phase ≡ Data d
      → Refused e (Call.Aad input) (9 ∷ [])
  header_finalized : {d : Direction} {input : List ℕ} → 0 < length input → e.current.phase ≡ Final d
      → Refused e (Call.Aad input) (10 ∷ [])
  data_finalized : {d : Direction} {input out : List ℕ} → e.current.phase ≡ Final d
      → Refused e (Call.Data input out) (10 ∷ [])
  end_finalized : {d : Direction} {out : List ℕ} → e.current.phase ≡ Final d → Refused e (Call.Final out) (10 ∷ [])
  nonce_reuse : {key nonce header : List ℕ} {size : ℕ} → length key ≡ key_of e → length nonce ≡ rate_of e → size ≡ key_of e
      → Repeats e key nonce → Refused e (Call.Init Encrypt key nonce size header) (11 ∷ [])

-- ---- What a number leaves

-- The output buffer that a call lends, if it lends one.
abbrev pub lent : Call → List ℕ
lent (Call.Init d key nonce size header) = []
lent (Call.Aad input) = []
lent (Call.Data input out) = out
lent (Call.Final out) = out
lent Call.Reset = []
lent Call.Mac = []
lent (Call.Update n) = []
lent (Call.Output n) = []

-- The numbers of a refused start, and the numbers after which nothing has changed; 6 is the eleventh.
pub data OfStart : ℕ → Type 0 where
  one : OfStart 1
  two : OfStart 2
  three : OfStart 3
  eleven : OfStart 11

pub data Unchanging : ℕ → Type 0 where
  four : Unchanging 4
  five : Unchanging 5
  seven : Unchanging 7
  eight : Unchanging 8
  nine : Unchanging 9
  ten : Unchanging 10

-- Which of the eleven a refusal is.
pub data Numbered : List ℕ → Type 0 where
  of-start : {n : ℕ} {values : List ℕ} → OfStart n → Numbered (n ∷ values)
  of-tag : {values : List ℕ} → Numbered (6 ∷ values)
  unchanging : {n : ℕ} {values : List ℕ} → Unchanging n → Numbered (n ∷ values)

-- What every call comes back with: a count, or one of the eleven.
pub data Returned : Outcome → Type 0 where
  work_done : (n : ℕ) → Returned (ok n)
  numbered_refusal : {r : List ℕ} → Numbered r → Returned (no r)

-- Everything wiped but the variant and the last loaded pair; the buffer, if one is lent, as it was.
pub record Wiped (e : SparkleEngine) (c : Call) : Type 0 where
  pub engine : (step e c).engine
      ≡ record {
        variant = e.variant;
        current = no_message;
        initial = no_message;
        pair = e.pair;
        mac = no_mac;
        steps = no_steps;
      }
  pub buffer : (step e c).buffer ≡ lent c

-- Neither engine nor buffer has changed.
pub record Unchanged (e : SparkleEngine) (c : Call) : Type 0 where
  pub engine : (step e c).engine ≡ e
  pub buffer : (step e c).buffer ≡ lent c

-- What a failed tag leaves at an end into `out`: the message is over, no tag can be read, and zeros stand where the end
-- would have written.
pub record Failed (e : SparkleEngine) (out : List ℕ) : Type 0 where
  pub phase : e.current.phase ≡ Data Decrypt
  pub whole : key_of e ≤ engine_held e
  pub engine : (step e (Call.Final out)).engine
      ≡ record {
        variant = e.variant;
        current = final_point Decrypt;
        initial = e.initial;
        pair = e.pair;
        mac = no_mac;
        steps =
            record {
              current = (e.steps.current + cond (ltb 0 (engine_held e - key_of e)) (params_of e.variant).big 0) % 2 ^ 64;
              initial = e.steps.initial;
            };
      }
  pub buffer : (step e (Call.Final out)).buffer ≡ zeros (engine_held e - key_of e) ++ drop (engine_held e - key_of e) out
