-- A call list in bytes, and the answers to it in bytes (docs/HOST.md).
use Rattle.std.specs.Prelude.{◌≡◌, ℕ, zero, suc, ◌+◌, ◌-◌, Bool, false, cond, Option, None, Some, List, [], ◌∷◌, ◌++◌, length, take, drop, get_or, ltb, leb, eqb}
use Rattle.tc_aead_cipher.specs.declared.phase.Direction.TheVariants.{Encrypt, Decrypt}
use Rattle.tc_sparkle_aead.specs.declared.engine.SparkleEngine.{SparkleEngine}
use Rattle.tc_sparkle_aead.specs.Engine.{new_engine}
use Rattle.tc_sparkle_aead.specs.Calls.{mac_of}
use Rattle.tc_aead_cipher.specs.declared.call.CallKind.{CallKind}
use Rattle.tc_aead_cipher.specs.Variant.{variant_of, is_variant}
use Rattle.tc_aead_cipher.specs.Call.{Call, call_of}
use Rattle.tc_aead_cipher.specs.Reply.{reply_of}
use Rattle.tc_aead_cipher.specs.declared.reply.Reply.{Reply}
use Rattle.tc_sparkle_aead.specs.Sheet.{step, line}
use Rattle.host.specs.Bytes.{number_at, number}

-- ---- A call in a list

-- The head of a call: its kind, its number, and the lengths of its three runs of bytes.
pub record Head : Type 0 where
  pub kind : ℕ
  pub number : ℕ
  pub first : ℕ
  pub second : ℕ
  pub third : ℕ

-- The head of the call in front of the rest of a list.
unfoldable pub head_of : List ℕ → Head
head_of rest =
    record {
      kind = get_or rest 0 0;
      number = number_at rest 1;
      first = number_at rest 9;
      second = number_at rest 17;
      third = number_at rest 25;
    }

-- The bytes of a call: its head's and its runs'.
unfoldable pub call_length : Head → ℕ
call_length h = 33 + h.first + h.second + h.third

-- A call is well-formed: its head is whole, its kind is one of the nine, its runs stand in the list.
unfoldable pub well_formed : List ℕ → Bool
well_formed rest =
    cond (ltb (length rest) 33) false
    (cond (ltb (head_of rest).kind 1) false
    (cond (ltb 9 (head_of rest).kind) false (leb (call_length (head_of rest)) (length rest))))

unfoldable pub read_of : List ℕ → Option Head
read_of rest = cond (well_formed rest) (Some (head_of rest)) None

-- The runs of bytes.
unfoldable pub first_run : Head → List ℕ → List ℕ
first_run h runs = take h.first runs

unfoldable pub second_run : Head → List ℕ → List ℕ
second_run h runs = take h.second (drop h.first runs)

unfoldable pub third_run : Head → List ℕ → List ℕ
third_run h runs = take h.third (drop (h.first + h.second) runs)

-- The kind of call that a number means; kinds 1 to 9.
unfoldable pub kind_at : ℕ → CallKind
kind_at n =
    cond (eqb n 1) (CallKind.Init Encrypt)
    (cond (eqb n 2) (CallKind.Init Decrypt)
    (cond (eqb n 3) CallKind.Aad
    (cond (eqb n 4) CallKind.Data
    (cond (eqb n 5) CallKind.Final
    (cond (eqb n 6) CallKind.Reset
    (cond (eqb n 7) CallKind.Mac (cond (eqb n 8) CallKind.Update CallKind.Output)))))))

-- The kind of a number, or none.
unfoldable pub kind_read : ℕ → Option CallKind
kind_read n = cond (ltb n 1) None (cond (ltb 9 n) None (Some (kind_at n)))

-- The call of a head and its runs: the third is a start's header, and the output of a data call and of an end.
unfoldable pub call_in : Head → List ℕ → Call
call_in h runs =
    call_of (kind_at h.kind) h.number (first_run h runs) (second_run h runs) (third_run h runs) (third_run h runs)

-- A kind, a number and three runs of bytes are those of the call in front of the rest of a list, and some bytes are those
-- behind it.
pub record IsRead (rest : List ℕ) (kind : CallKind) (number : ℕ) (first second third behind : List ℕ) : Type 0 where
  pub found : Some (head_of rest) ≡ read_of rest
  pub kind_is : kind ≡ kind_at (head_of rest).kind
  pub number_is : number ≡ (head_of rest).number
  pub first_is : first ≡ first_run (head_of rest) (drop 33 rest)
  pub second_is : second ≡ second_run (head_of rest) (drop 33 rest)
  pub third_is : third ≡ third_run (head_of rest) (drop 33 rest)
  pub behind_is : behind ≡ drop (call_length (head_of rest)) rest

-- ---- An answer

-- The bytes behind the head of an answer: the output after the call; for the tag, the array that holds it.
unfoldable pub shown : SparkleEngine → Call → List ℕ
shown e (Call.Init d key nonce size header) = []
shown e (Call.Aad input) = []
shown e (Call.Data input out) = (step e (Call.Data input out)).buffer
shown e (Call.Final out) = (step e (Call.Final out)).buffer
shown e Call.Reset = []
shown e Call.Mac = (mac_of e).bytes
shown e (Call.Update n) = []
shown e (Call.Output n) = []

-- How many they are: the output's; the tag's array has 32. Of a call, and by its head.
unfoldable pub shown_count : Call → ℕ
shown_count (Call.Init d key nonce size header) = 0
shown_count (Call.Aad input) = 0
shown_count (Call.Data input out) = length out
shown_count (Call.Final out) = length out
shown_count Call.Reset = 0
shown_count Call.Mac = 32
shown_count (Call.Update n) = 0
shown_count (Call.Output n) = 0

abbrev pub shown_by : CallKind → (third : ℕ) → ℕ
shown_by (CallKind.Init d) third = 0
shown_by CallKind.Aad third = 0
shown_by CallKind.Data third = third
shown_by CallKind.Final third = third
shown_by CallKind.Reset third = 0
shown_by CallKind.Mac third = 32
shown_by CallKind.Update third = 0
shown_by CallKind.Output third = 0

unfoldable pub shown_length : Head → ℕ
shown_length h = shown_by (kind_at h.kind) h.third

unfoldable pub flag : Bool → ℕ
flag b = cond b 1 0

-- The head of an answer: the reply's number, whether a tag can be read, the reply's values, the steps, and how many
-- bytes stand behind.
unfoldable pub answer_head : Reply → Bool → ℕ → ℕ → List ℕ
answer_head r readable steps n =
    r.number ∷ (flag readable ∷ (number r.first ++ (number r.second ++ (number steps ++ number n))))

unfoldable pub answer_of : SparkleEngine → Call → List ℕ
answer_of e c =
    let l = line (step e c) in
    answer_head (reply_of l.outcome) l.readable l.steps (shown_count c) ++ shown e c

-- ---- A run

-- What a run of a list leaves: a return code, how many bytes of the list are left where it stopped, and the answers.
pub record Ran : Type 0 where
  pub code : ℕ
  pub left : ℕ
  pub answers : List ℕ

unfoldable pub stopped : ℕ → List ℕ → Ran
stopped code rest = record { code = code; left = length rest; answers = [] }

unfoldable pub answered : List ℕ → Ran → Ran
answered bytes r = record { code = r.code; left = r.left; answers = bytes ++ r.answers }

-- The calls of the rest of a list, each on the engine as the last one left it: 0 at the list's end, 21 where a call is
-- malformed, 22 where its answer has no room. The first number bounds the calls; the rest's length is enough.
unfoldable pub run_calls : ℕ → List ℕ → SparkleEngine → ℕ → Ran
run_calls zero rest e room = stopped 0 rest
run_calls (suc k) rest e room =
    let h = head_of rest in
    let c = call_in h (drop 33 rest) in
    cond (ltb 0 (length rest))
    (cond (well_formed rest)
    (cond (leb (34 + shown_length h) room)
    (answered (answer_of e c)
    (run_calls k (drop (call_length h) rest) (step e c).engine (room - (34 + shown_length h))))
    (stopped 22 rest))
    (stopped 21 rest))
    (stopped 0 rest)

-- The calls of the rest of a list, and the answers to a list of calls: what is written where the code is 0 (`run_is_answers`).
unfoldable pub calls_in : ℕ → List ℕ → List Call
calls_in zero rest = []
calls_in (suc k) rest =
    cond (ltb 0 (length rest))
    (cond (well_formed rest) (call_in (head_of rest) (drop 33 rest) ∷ calls_in k (drop (call_length (head_of rest)) rest)) []) []

unfoldable pub answers_of : SparkleEngine → List Call → List ℕ
answers_of e [] = []
answers_of e (c ∷ calls) = answer_of e c ++ answers_of (step e c).engine calls

-- The run of a list on a new engine of its variant.
unfoldable pub run_list : List ℕ → ℕ → Ran
run_list list room =
    cond (is_variant (get_or list 0 0))
    (run_calls (length list) (drop 1 list) (new_engine (variant_of (get_or list 0 0))) room)
    (stopped 21 list)
