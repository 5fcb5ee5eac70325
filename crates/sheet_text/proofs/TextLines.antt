-- Every line, every title and every refusal fits the array.
use mathlib.Core.Path.{◌≡◌, refl, ap}
use mathlib.Core.Bool.{Bool, true, false}
use mathlib.Core.List.{List, [], ◌∷◌}
use Prim.Native.Nat.{ℕ, zero, suc, ◌+◌, ◌^◌, ◌≤◌, ◌<◌}
use native.Mathlib.Omega.{arith}
use lib.Dec.{eqb}
use lib.ListN.{length, take, length-append}
use lib.Seq.{take_all}
use Rattle.tc_aead_cipher.specs.declared.call.CallKind.{CallKind}
use Rattle.tc_aead_cipher.specs.declared.call.CallKind.TheVariants.{Init, Aad, Data, Final, Reset, Mac, Update, Output}
use Rattle.tc_aead_cipher.specs.declared.reply.Reply.{Reply}
use Rattle.tc_aead_cipher.specs.declared.variant.SparkleVariant.{SparkleVariant}
use Rattle.tc_aead_cipher.specs.declared.variant.SparkleVariant.TheVariants.{Schwaemm128_128, Schwaemm256_128, Schwaemm192_192, Schwaemm256_256}
use Rattle.tc_aead_cipher.specs.Reply.{outcome_of, refusal_of}
use Rattle.forms.specs.Bytes.{text}
use Rattle.forms.specs.Decimal.{decimal_in, decimal}
use Rattle.forms.proofs.DecimalLaws.{decimal-length}
use Rattle.sheet_text.specs.Text.{spaced, outcome_text, name_text, flag_text, refusal_text, line_text, title_text}

name_length : (kind : CallKind) → length (name_text kind) ≤ 6
name_length (Init d) = omega arith
name_length Aad = omega arith
name_length Data = omega arith
name_length Final = omega arith
name_length Reset = omega arith
name_length Mac = omega arith
name_length Update = omega arith
name_length Output = omega arith

flag-length : (b : Bool) → length (flag_text b) ≤ 1
flag-length true = omega arith
flag-length false = omega arith

word : (n : ℕ) → n < 2 ^ 64 → length (decimal n) ≤ 20
word n h = decimal-length n 19 (omega arith)

spaced-length : (n : ℕ) (ns : List ℕ) → length (spaced (n ∷ ns)) ≡ suc (length (decimal n) + length (spaced ns))
spaced-length n ns = ap suc (length-append (decimal n) (spaced ns))

module _ (r : Reply) (number : r.number < 256) (first : r.first < 2 ^ 64) (second : r.second < 2 ^ 64) where
  number-length : length (decimal r.number) ≤ 3
  number-length = decimal-length r.number 2 (omega arith)

  -- how many values the reply has is not bounded: it shows two at most
  values_length : (k : ℕ) → length (spaced (r.number ∷ take k (r.first ∷ (r.second ∷ [])))) ≤ 46
  values_length zero = omega (arith, spaced-length r.number [], number-length)
  values_length (suc zero) =
      let m = spaced-length r.number (r.first ∷ []) in
      let n = spaced-length r.first [] in
      omega (arith, m, n, number-length, word r.first first)
  values_length (suc (suc k)) =
      let m = spaced-length r.number (r.first ∷ (r.second ∷ [])) in
      let n = spaced-length r.first (r.second ∷ []) in
      let o = spaced-length r.second [] in
      rw (take_all {A = ℕ} k [] (omega arith))
      (omega (arith, m, n, o, number-length, word r.first first, word r.second second))

  outcome-length : (s : Bool) → eqb r.number 0 ≡ s → length (outcome_text (outcome_of r)) ≤ 50
  outcome-length true e = rw e (omega (arith, length-append (decimal r.first) (text ")"), word r.first first))
  outcome-length false e =
      rw e (omega (arith, length-append (spaced (refusal_of r)) (text ")"), values_length r.values))

  pub refusal-fits : length (refusal_text (refusal_of r)) ≤ 128
  unfolding refusal_text
  refusal-fits = omega (arith, length-append (spaced (refusal_of r)) (text ")\n"), values_length r.values)

  -- A line of every kind of call, reply, count and flag fits.
  pub line-fits : (kind : CallKind) (steps : ℕ) (b : Bool) → steps < 2 ^ 64
      → length (line_text kind (record { outcome = outcome_of r; steps = steps; readable = b })) ≤ 128
  unfolding line_text
  line-fits kind steps b h =
      simp length-append
      (omega (arith, name_length kind, outcome-length (eqb r.number 0) refl, word steps h, flag-length b))

pub title-fits : (v : SparkleVariant) → length (title_text v) ≤ 128
unfolding title_text decimal_in
title-fits Schwaemm128_128 = omega arith
title-fits Schwaemm256_128 = omega arith
title-fits Schwaemm192_192 = omega arith
title-fits Schwaemm256_256 = omega arith
