-- A number that is no byte is above 4, the last variant's.
use Rattle.std.proofs.Common.{◌≡◌, ℕ, ◌<◌, false, refl, sym, ◌∙◌, arith}
use Rattle.std.specs.Prelude.{None, Result, Ok, Err, OkIff, is_ok}
use mathlib.Core.Bool.{false≢true}
use borrow.Author.Tests.{le-ltb, lt-leb}
use Rattle.tc_aead_cipher.specs.Variant.{is_variant}
use Rattle.call_text.specs.Line.{known}
use Rattle.call_text.proofs.line.known.Goals as goal

large : (n : ℕ) → 4 < n → known n ≡ None
unfolding is_variant
large n h = rw (le-ltb n 1 (omega arith), lt-leb n 4 h) refl

no_byte : {E : Type 0} (r : Result ℕ E) (n : ℕ) → OkIff r (n < 256) n → false ≡ is_ok r → 4 < n
no_byte (Ok x) n h e = absurd (false≢true e)
no_byte (Err x) n h e = omega (arith, h)

pub returns-in_err-k : goal.returns-in_err-k
returns-in_err-k c =
    c.from_residual.ensures ∙ sym (large c.args.n (no_byte _ c.args.n c.try_from.ensures c.in_err-k.ensures.variant))
