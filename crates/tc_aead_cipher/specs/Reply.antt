-- An outcome as four numbers, and back.
use Rattle.std.specs.Prelude.{◌-◌, cond, List, [], ◌∷◌, ℕ, eqb, length, get_or, take}
use Rattle.tc_aead_cipher.specs.Outcome.{Outcome}
use Rattle.tc_aead_cipher.specs.Outcome.Outcome.{ok, no}
use Rattle.tc_aead_cipher.specs.declared.reply.Reply.{Reply}

-- Number 0 and the count, or the refusal's number and its values; how many values there are, and 0 for one that there is not.
abbrev pub reply_of : Outcome → Reply
reply_of (ok n) = record { number = 0; values = 1; first = n; second = 0 }
reply_of (no vs) = record { number = get_or vs 0 0; values = length vs - 1; first = get_or vs 1 0; second = get_or vs 2 0 }

-- A refusal's number and values, from a reply.
abbrev pub refusal_of : Reply → List ℕ
refusal_of r = r.number ∷ take r.values (r.first ∷ (r.second ∷ []))

-- The outcome of a reply; of `reply_of` of an answer's outcome it is that outcome (`reply-outcome`, `reply-start`).
abbrev pub outcome_of : Reply → Outcome
outcome_of r = cond (eqb r.number 0) (ok r.first) (no (refusal_of r))
