-- The header's definitions, from the header's length where they go by its first byte, and the steps that its blocks run.
use Rattle.std.proofs.Common.{◌≡◌, ℕ, ◌+◌, ◌*◌, ◌^◌, ◌<◌, ◌≤◌, List, [], ◌∷◌, length, sym, refl, ap, ◌∙◌, ap₂, mul-le-mul_left, arith, ne_eqb, Result, Ok, Err}
use Rattle.schwaemm.specs.Schwaemm.{Params, Sizes, absorb_block}
use Rattle.tc_aead_cipher.specs.declared.phase.Direction.{Direction}
use Rattle.tc_aead_cipher.specs.declared.phase.Phase.{Phase}
use Rattle.tc_aead_cipher.specs.declared.phase.Phase.TheVariants.{Uninitialized, Init, Aad, Data, Final}
use Rattle.tc_aead_cipher.specs.declared.aead_error.AeadError.{AeadError}
use Rattle.tc_sparkle_aead.specs.declared.message.Point.{Point}
use Rattle.tc_sparkle_aead.specs.declared.engine.SparkleEngine.{SparkleEngine}
use Rattle.tc_aead_cipher.specs.Variant.{params_of}
use Rattle.tc_aead_cipher.specs.Checks.{direction_of, header_check, aad_check}
use Rattle.tc_sparkle_aead.specs.Message.{streamed, absorb_header, header_steps}
use Rattle.tc_sparkle_aead.specs.Calls.{at_point, aad_in, aad_by, process_aad_bytes}
use Rattle.tc_aead_cipher.proofs.VariantLaws.{Small}

-- no header, and a header
module _ (p : Params) (d : Direction) (at : Point) where
  pub absorb-none : (header : List ℕ) → length header ≡ 0 → absorb_header p d at header ≡ at
  unfolding absorb_header
  absorb-none [] h = refl
  absorb-none (x ∷ header) h = absurd (omega arith)

  pub absorb_some : (header : List ℕ) → 0 < length header
      → absorb_header p d at header ≡ streamed p 0 (absorb_block p) (Aad d) at header
  unfolding absorb_header
  absorb_some [] h = absurd (omega arith)
  absorb_some (x ∷ header) h = refl

-- a header call without bytes
pub aad_empty : (e : SparkleEngine) (input : List ℕ) → length input ≡ 0
    → record { answer = Ok 0; engine = e } ≡ process_aad_bytes e input
unfolding process_aad_bytes aad_check
aad_empty e [] none = refl
aad_empty e (x ∷ input) none = absurd (omega arith)

-- a phase whose check passes is Init or Aad, and the check counts nothing
aad_in_passed : (phase : Phase) (n : ℕ) (e : SparkleEngine) (input : List ℕ) → header_check phase ≡ Ok n
    → aad_in phase e input
    ≡ at_point e (absorb_header (params_of e.variant) (direction_of phase) e.current input)
    (header_steps (params_of e.variant) e.current input)
aad_in_passed Uninitialized n e input passed = absurd (let z : ◌≡◌ {A = ℕ} 0 1 = cc in omega arith)
aad_in_passed (Init d) n e input passed = refl
aad_in_passed (Aad d) n e input passed = refl
aad_in_passed (Data d) n e input passed = absurd (let z : ◌≡◌ {A = ℕ} 0 1 = cc in omega arith)
aad_in_passed (Final d) n e input passed = absurd (let z : ◌≡◌ {A = ℕ} 0 1 = cc in omega arith)

count_zero : (phase : Phase) (n : ℕ) → header_check phase ≡ Ok n → header_check phase ≡ Ok 0
count_zero Uninitialized n e = absurd (let z : ◌≡◌ {A = ℕ} 0 1 = cc in omega arith)
count_zero (Init d) n e = refl
count_zero (Aad d) n e = refl
count_zero (Data d) n e = absurd (let z : ◌≡◌ {A = ℕ} 0 1 = cc in omega arith)
count_zero (Final d) n e = absurd (let z : ◌≡◌ {A = ℕ} 0 1 = cc in omega arith)

aad_by_some : (n : ℕ) (e : SparkleEngine) (input : List ℕ) → 0 < length input
    → aad_by (Ok n) e input ≡ record { answer = Ok 0; engine = aad_in e.current.phase e input }
aad_by_some n e [] h = absurd (omega arith)
aad_by_some n e (x ∷ input) h = refl

-- a header call with bytes by its phase's check: refused, and taken
module _ (e : SparkleEngine) (input : List ℕ) (answer : Result ℕ AeadError) (some : length input ≡ 0 → ⊥)
    (checked : answer ≡ header_check e.current.phase) where
  by-check : (k : Result ℕ AeadError) → answer ≡ k → aad_by k e input ≡ process_aad_bytes e input
  unfolding process_aad_bytes aad_check
  by-check k is = rw (ne_eqb (length input) 0 some) (ap (λ (x : Result ℕ AeadError). aad_by x e input) (sym is ∙ checked))

  pub aad_refused : (x : AeadError) → answer ≡ Err x → record { answer = answer; engine = e } ≡ process_aad_bytes e input
  aad_refused x q = (λ i. record { answer = q i; engine = e }) ∙ by-check (Err x) q

  pub aad_taken : (n : ℕ) → answer ≡ Ok n → (d : Direction) (next : Point) (steps : ℕ) (engine : SparkleEngine)
      → d ≡ direction_of e.current.phase → next ≡ absorb_header (params_of e.variant) d e.current input
      → steps ≡ header_steps (params_of e.variant) e.current input → engine ≡ at_point e next steps
      → record { answer = answer; engine = engine } ≡ process_aad_bytes e input
  aad_taken n accepted d next steps engine ed ep es en =
      let p = params_of e.variant in
      let phase = e.current.phase in
      let passed = sym checked ∙ accepted in
      let ep' = ep ∙ ap (λ (x : Direction). absorb_header p x e.current input) ed in
      let en' = en ∙ ap₂ (at_point e) ep' es ∙ sym (aad_in_passed phase n e input passed) in
      (λ i. record { answer = (checked ∙ count_zero phase n passed) i; engine = en' i })
      ∙ sym (aad_by_some n e input (omega arith)) ∙ by-check (Ok n) accepted

-- the steps of `count` blocks of n bytes fit: a block has at least 8 bytes and runs at most 12 steps
pub steps_fit : (p : Params) → Sizes p → Small p → (count n : ℕ) → count * p.rate ≤ n → n < 2 ^ 63 + 64
    → count * p.slim < 2 ^ 64
steps_fit p sizes small count n h k =
    let bytes : count * 8 ≤ count * p.rate = mul-le-mul_left count (omega arith) in
    let steps : count * p.slim ≤ count * 12 = mul-le-mul_left count (omega arith) in
    omega arith
