-- Answers to a call list, one behind the other (docs/HOST.md).
use Rattle.std.specs.Prelude.{ℕ, ◌+◌, ◌-◌, cond, List, Option, Some, None, length, take, drop, nat_le, nat_lt}
use Rattle.host.specs.Bytes.{number_at}

-- How many bytes the head of an answer says that stand behind it.
unfoldable pub bytes_behind : List ℕ → ℕ
bytes_behind answer = number_at (take 8 (drop 26 answer)) 0

-- The bytes of the answer in front of the rest: its head's 34 and those behind it, where a whole answer stands there.
unfoldable pub answer_length : List ℕ → Option ℕ
answer_length rest =
    cond (nat_lt (length rest) 34) None
    (cond (nat_le (bytes_behind rest) (length rest - 34)) (Some (34 + bytes_behind rest)) None)
