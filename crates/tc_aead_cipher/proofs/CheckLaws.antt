-- The laws of the checks: under which hypothesis a definition of `specs.Checks` gives which answer.
use mathlib.Core.Path.{◌≡◌, refl, ap}
use mathlib.Core.Bool.{Bool, true, false, cond}
use Prim.Native.Nat.{ℕ, suc, ◌+◌, ◌-◌, ◌*◌, ◌^◌, ◌≤◌, ◌<◌}
use native.Mathlib.Omega.{arith}
use native.Mathlib.Decide.{ℕ_discrete}
use lib.Dec.{eqb}
use borrow.Author.Tests.{lt-ltb, le-ltb, eq-eqb, ne_eqb, eqb-true, eqb-false}
use Rattle.std.specs.Prelude.{Ok, Err}
use Rattle.schwaemm.specs.Blocks.{ready}
use Rattle.schwaemm.specs.Schwaemm.{Params}
use Rattle.tc_aead_cipher.specs.Checks.{opens, opening, held_data, keep, within64, update_len, total_len, start_check, aad_check, header_check}
use Rattle.tc_aead_cipher.specs.Variant.{params_of}
use Rattle.tc_aead_cipher.specs.declared.variant.SparkleVariant.{SparkleVariant}
use Rattle.tc_aead_cipher.specs.declared.phase.Direction.{Direction}
use Rattle.tc_aead_cipher.specs.declared.phase.Direction.TheVariants.{Encrypt, Decrypt}
use Rattle.tc_aead_cipher.specs.declared.phase.Phase.{Phase}
use Rattle.tc_aead_cipher.specs.declared.aead_error.AeadError.TheVariants.{InputTooLong}
use Rattle.tc_aead_cipher.specs.declared.aead_init_error.AeadInitError.{AeadInitError}
use Rattle.tc_aead_cipher.specs.declared.aead_init_error.AeadInitError.TheVariants.{InvalidKeyLength, InvalidNonceLength, InvalidMacSize, NonceReuse}

pub cond_same : {A : Type 0} (b : Bool) {x : A} → cond b x x ≡ x
cond_same true = refl
cond_same false = refl

-- a sum past 2^64 - 1, and one that is not
module _ (sum n : ℕ) where
  within64-over : 2 ^ 64 ≤ sum → within64 sum n ≡ Err InputTooLong
  within64-over over = ap (λ (t : Bool). cond t (Ok n) (Err InputTooLong)) (le-ltb sum (2 ^ 64) over)

  within64-fits : sum < 2 ^ 64 → within64 sum n ≡ Ok n
  within64-fits fits = ap (λ (t : Bool). cond t (Ok n) (Err InputTooLong)) (lt-ltb sum (2 ^ 64) fits)

module _ (p : Params) (phase : Phase) (held n : ℕ) where
  -- update_output_len: 7, or the bytes of the blocks that are ready.
  pub update_len-over : 2 ^ 64 ≤ held_data p phase held + n → update_len p phase held n ≡ Err InputTooLong
  unfolding update_len
  update_len-over over = within64-over (held_data p phase held + n) _ over

  pub update_len-fits : held_data p phase held + n < 2 ^ 64
      → update_len p phase held n ≡ Ok (ready p.rate (keep p phase) (held_data p phase held + n) * p.rate)
  unfolding update_len
  update_len-fits fits = within64-fits (held_data p phase held + n) _ fits

  -- output_len: 7, or the sum, less the tag on an opening and with the tag otherwise.
  pub total_len-over : 2 ^ 64 ≤ held_data p phase held + n → total_len p phase held n ≡ Err InputTooLong
  unfolding total_len
  total_len-over over =
      rw (le-ltb _ _ over, le-ltb (held_data p phase held + n + p.key) (2 ^ 64) (omega arith)) (cond_same (opening phase))

  pub total_len-opening : opening phase ≡ true → held_data p phase held + n < 2 ^ 64
      → total_len p phase held n ≡ Ok (held_data p phase held + n - p.key)
  unfolding total_len
  total_len-opening is-opening fits = rw (is-opening, lt-ltb _ _ fits) refl

  pub total_len_sealing_over : opening phase ≡ false → 2 ^ 64 ≤ held_data p phase held + n + p.key
      → total_len p phase held n ≡ Err InputTooLong
  unfolding total_len
  total_len_sealing_over is-sealing over = rw (is-sealing, le-ltb _ _ over) refl

  pub total_len-sealing : opening phase ≡ false → held_data p phase held + n + p.key < 2 ^ 64
      → total_len p phase held n ≡ Ok (held_data p phase held + n + p.key)
  unfolding total_len
  total_len-sealing is-sealing fits = rw (is-sealing, lt-ltb _ _ fits) refl

module _ (v : SparkleVariant) (direction : Direction) (key nonce size : ℕ) (repeats : Bool) where
  -- A start: 1, 2, 3 in this order; what is left is the direction's and the pair's to say.
  pub start_check-key : (key ≡ (params_of v).key → ⊥) → start_check v direction key nonce size repeats ≡ Err (InvalidKeyLength key)
  unfolding start_check
  start_check-key wrong = rw (ne_eqb _ _ wrong) refl

  pub start_check-nonce : key ≡ (params_of v).key → (nonce ≡ (params_of v).rate → ⊥)
      → start_check v direction key nonce size repeats ≡ Err (InvalidNonceLength nonce)
  unfolding start_check
  start_check-nonce k wrong = rw (eq-eqb _ _ k, ne_eqb _ _ wrong) refl

  pub start_check_size : key ≡ (params_of v).key → nonce ≡ (params_of v).rate → (size ≡ (params_of v).key → ⊥)
      → start_check v direction key nonce size repeats ≡ Err (InvalidMacSize size)
  unfolding start_check
  start_check_size k n wrong = rw (eq-eqb _ _ k, eq-eqb _ _ n, ne_eqb _ _ wrong) refl

  module _ (k : key ≡ (params_of v).key) (n : nonce ≡ (params_of v).rate) (s : size ≡ (params_of v).key) where
    pub start_check-opening : opens direction ≡ true → start_check v direction key nonce size repeats ≡ Ok tt
    unfolding start_check
    start_check-opening is-opening = rw (eq-eqb _ _ k, eq-eqb _ _ n, eq-eqb _ _ s, is-opening) refl

    pub start_check-sealing : opens direction ≡ false
        → start_check v direction key nonce size repeats ≡ cond repeats (Err NonceReuse) (Ok tt)
    unfolding start_check
    start_check-sealing is-sealing = rw (eq-eqb _ _ k, eq-eqb _ _ n, eq-eqb _ _ s, is-sealing) refl

-- What of a start's check the pair decides: nothing where a check before it has failed, and nothing on an opening; a
-- sealing past the other checks gets 11 exactly where its pair repeats.
pub data StartCase (v : SparkleVariant) (key nonce size : ℕ) : Direction → Type 0 where
  refused-before : {d : Direction} (x : AeadInitError) → (x ≡ NonceReuse → ⊥)
      → ((repeats : Bool) → start_check v d key nonce size repeats ≡ Err x) → StartCase v key nonce size d
  opens_always : ((repeats : Bool) → start_check v Decrypt key nonce size repeats ≡ Ok tt)
      → StartCase v key nonce size Decrypt
  seals_by_pair : ((repeats : Bool) → start_check v Encrypt key nonce size repeats ≡ cond repeats (Err NonceReuse) (Ok tt))
      → StartCase v key nonce size Encrypt

module _ (v : SparkleVariant) (key nonce size : ℕ) where
  sizes_right : key ≡ (params_of v).key → nonce ≡ (params_of v).rate → size ≡ (params_of v).key → (d : Direction)
      → StartCase v key nonce size d
  sizes_right k n s Encrypt = seals_by_pair (λ repeats. start_check-sealing v Encrypt key nonce size repeats k n s refl)
  sizes_right k n s Decrypt = opens_always (λ repeats. start_check-opening v Decrypt key nonce size repeats k n s refl)

  pub start_check_case : (d : Direction) → StartCase v key nonce size d
  start_check_case d = by_key (ℕ_discrete key (params_of v).key)
    where
      by_size : key ≡ (params_of v).key → nonce ≡ (params_of v).rate → Dec (size ≡ (params_of v).key)
          → StartCase v key nonce size d
      by_size k n (no wrong) =
          refused-before (InvalidMacSize size) (λ e. let z : ◌≡◌ {A = ℕ} 0 1 = cc in omega arith)
          (λ repeats. start_check_size v d key nonce size repeats k n wrong)
      by_size k n (yes s) = sizes_right k n s d

      by-nonce : key ≡ (params_of v).key → Dec (nonce ≡ (params_of v).rate) → StartCase v key nonce size d
      by-nonce k (no wrong) =
          refused-before (InvalidNonceLength nonce) (λ e. let z : ◌≡◌ {A = ℕ} 0 1 = cc in omega arith)
          (λ repeats. start_check-nonce v d key nonce size repeats k wrong)
      by-nonce k (yes n) = by_size k n (ℕ_discrete size (params_of v).key)

      by_key : Dec (key ≡ (params_of v).key) → StartCase v key nonce size d
      by_key (no wrong) =
          refused-before (InvalidKeyLength key) (λ e. let z : ◌≡◌ {A = ℕ} 0 1 = cc in omega arith)
          (λ repeats. start_check-key v d key nonce size repeats wrong)
      by_key (yes k) = by-nonce k (ℕ_discrete nonce (params_of v).rate)

-- a passed check: key and nonce have the variant's lengths
module _ (v : SparkleVariant) (direction : Direction) (key nonce size : ℕ) (again : Bool)
    (passed : start_check v direction key nonce size again ≡ Ok tt) where
  key-by : (t : Bool) → eqb key (params_of v).key ≡ t → key ≡ (params_of v).key
  key-by true e = eqb-true key (params_of v).key e
  key-by false e =
      let wrong = start_check-key v direction key nonce size again (eqb-false key (params_of v).key e) in
      let z : ◌≡◌ {A = ℕ} 0 1 = cc in
      absurd (omega arith)

  nonce-by : (t : Bool) → key ≡ (params_of v).key → eqb nonce (params_of v).rate ≡ t → nonce ≡ (params_of v).rate
  nonce-by true k e = eqb-true nonce (params_of v).rate e
  nonce-by false k e =
      let wrong = start_check-nonce v direction key nonce size again k (eqb-false nonce (params_of v).rate e) in
      let z : ◌≡◌ {A = ℕ} 0 1 = cc in
      absurd (omega arith)

  pub start_check_lengths : (key ≡ (params_of v).key) × (nonce ≡ (params_of v).rate)
  start_check_lengths = (key-by _ refl, nonce-by _ (key-by _ refl) refl)

-- a header call: an empty one is accepted in every phase
pub aad_check-none : (phase : Phase) → aad_check phase 0 ≡ Ok 0
unfolding aad_check
aad_check-none phase = refl

pub aad_check_some : (phase : Phase) (n : ℕ) → aad_check phase (suc n) ≡ header_check phase
unfolding aad_check
aad_check_some phase n = rw (ne_eqb (suc n) 0 (λ e. omega arith)) refl
