-- Lists of calls whose sheets are worked out: document 01's for the program `sheet` ("Worked by hand"), and one with every
-- call.
use Rattle.std.specs.Prelude.{ℕ, Bool, List, [], ◌∷◌, replicate}
use Rattle.tc_aead_cipher.specs.declared.phase.Direction.TheVariants.{Encrypt, Decrypt}
use Rattle.tc_aead_cipher.specs.Call.{Call}
use Rattle.tc_aead_cipher.specs.Outcome.{Outcome}
use Rattle.tc_sparkle_aead.specs.Sheet.{Line}

-- A sealing start of variant 1 with key and nonce of zeros and no header.
abbrev pub start : Call
start = Call.Init Encrypt (replicate 16 0) (replicate 16 0) 16 []

abbrev pub worked : List Call
worked =
    start
    ∷ (Call.Aad (replicate 20 0)
    ∷ (Call.Data (replicate 33 0) (replicate 32 0)
    ∷ (Call.Aad (replicate 1 0)
    ∷ (Call.Final (replicate 16 0) ∷ (Call.Final (replicate 17 0) ∷ (Call.Data [] [] ∷ (start ∷ [])))))))

-- A list with every call: an opening that a reset restarts, and the sealing of an empty message under another nonce.
abbrev pub every_call : List Call
every_call =
    Call.Init Encrypt (replicate 16 0) (replicate 32 0) 15 []
    ∷ (Call.Mac
    ∷ (Call.Init Decrypt (replicate 16 0) (replicate 32 0) 16 (replicate 1 0)
    ∷ (Call.Data [] []
    ∷ (Call.Update 49
    ∷ (Call.Output 49
    ∷ (Call.Reset
    ∷ (Call.Aad (replicate 1 0)
    ∷ (Call.Init Encrypt (replicate 16 0) (replicate 32 1) 16 []
    ∷ (Call.Final (replicate 16 0) ∷ (Call.Mac ∷ []))))))))))

-- A line of the sheet.
abbrev pub row : Outcome → ℕ → Bool → Line
row o n b = record { outcome = o; steps = n; readable = b }
