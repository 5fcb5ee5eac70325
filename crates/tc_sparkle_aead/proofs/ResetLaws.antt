-- Where a reset leads, by cases. A `match` that groups phases tells which of their numbers are possible.
use Rattle.std.proofs.Common.{◌≡◌, ℕ, true, false, [], ◌∷◌, refl, inl, inr, arith}
use types.Run.{OneOf}
use denote.Enum.Declared.{tag_of}
use Rattle.tc_aead_cipher.specs.declared.phase.Direction.TheVariants.{Encrypt, Decrypt}
use Rattle.tc_aead_cipher.specs.declared.phase.Phase.{Phase}
use Rattle.tc_aead_cipher.specs.declared.phase.Phase.TheVariants.{Uninitialized, Init, Aad, Data, Final}
use Rattle.tc_sparkle_aead.specs.declared.message.Point.{Point}
use Rattle.tc_aead_cipher.specs.Checks.{opening}
use Rattle.tc_sparkle_aead.specs.Message.{final_point, reset_point}
use Rattle.tc_aead_cipher.specs.contracts.phase.Phase.{the_type}

-- a reset of an opening, and of a sealing in Data or Final
module _ (initial : Point) where
  pub reset-opening : (phase : Phase) → opening phase ≡ true → initial ≡ reset_point phase initial
  reset-opening Uninitialized opened = absurd (let z : ◌≡◌ {A = ℕ} 0 1 = cc in omega arith)
  reset-opening (Init d) opened = refl
  reset-opening (Aad d) opened = refl
  reset-opening (Data Encrypt) opened = absurd (let z : ◌≡◌ {A = ℕ} 0 1 = cc in omega arith)
  reset-opening (Data Decrypt) opened = refl
  reset-opening (Final Encrypt) opened = absurd (let z : ◌≡◌ {A = ℕ} 0 1 = cc in omega arith)
  reset-opening (Final Decrypt) opened = refl

  pub reset-sealing : (phase : Phase) → OneOf (3 ∷ (4 ∷ [])) (tag_of the_type phase) → opening phase ≡ false
      → final_point Encrypt ≡ reset_point phase initial
  reset-sealing Uninitialized (inl h) sealed = absurd (omega arith)
  reset-sealing Uninitialized (inr h) sealed = absurd (omega arith)
  reset-sealing (Init d) (inl h) sealed = absurd (omega arith)
  reset-sealing (Init d) (inr h) sealed = absurd (omega arith)
  reset-sealing (Aad d) (inl h) sealed = absurd (omega arith)
  reset-sealing (Aad d) (inr h) sealed = absurd (omega arith)
  reset-sealing (Data Encrypt) h sealed = refl
  reset-sealing (Data Decrypt) h sealed = absurd (let z : ◌≡◌ {A = ℕ} 0 1 = cc in omega arith)
  reset-sealing (Final Encrypt) h sealed = refl
  reset-sealing (Final Decrypt) h sealed = absurd (let z : ◌≡◌ {A = ℕ} 0 1 = cc in omega arith)
