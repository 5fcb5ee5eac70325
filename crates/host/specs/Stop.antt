-- How a run of a call list ended, as the numbers of docs/HOST.md: its return code, and where in the list it stopped.
use Rattle.std.specs.Prelude.{ℕ, Result, Ok, Err}
use Rattle.host.specs.declared.run.Reason.{Reason}
use Rattle.host.specs.declared.run.Reason.TheVariants.{Malformed, NoRoom}
use Rattle.host.specs.declared.run.Stop.{Stop}

abbrev pub reason_code : Reason → ℕ
reason_code Malformed = 21
reason_code NoRoom = 22

-- 0 where every call has run.
abbrev pub code_of : Result Unit Stop → ℕ
code_of (Ok done) = 0
code_of (Err stop) = reason_code stop.reason

-- The end of the list where every call has run.
abbrev pub place_of : (len : ℕ) → Result Unit Stop → ℕ
place_of len (Ok done) = len
place_of len (Err stop) = stop.place
