-- A start: when a pair repeats, and the engine after a start, from its parts.
use Rattle.std.proofs.Common.{◌&&◌, ◌≡◌, ℕ, ◌+◌, ◌%◌, ◌^◌, ◌≤◌, Bool, true, false, List, length, take, sym, refl, ap, ◌∙◌, arith, length-take-le, Result, Ok, Err}
use Rattle.schwaemm.specs.Bytes.{same}
use Rattle.schwaemm.specs.Schwaemm.{Params}
use Rattle.schwaemm.proofs.RoundTrip.{equal_of_same}
use Rattle.tc_aead_cipher.proofs.CheckLaws.{cond_same}
use Rattle.std.proofs.lemmas.Bool.Decides.{nat_tests}
use Rattle.tc_aead_cipher.specs.declared.phase.Direction.{Direction}
use Rattle.tc_aead_cipher.specs.declared.aead_init_error.AeadInitError.{AeadInitError}
use Rattle.tc_sparkle_aead.specs.declared.message.Point.{Point}
use Rattle.tc_sparkle_aead.specs.declared.engine.Pair.{Pair}
use Rattle.tc_sparkle_aead.specs.declared.message.Mac.{Mac}
use Rattle.tc_sparkle_aead.specs.declared.engine.Steps.{Steps}
use Rattle.tc_sparkle_aead.specs.declared.engine.SparkleEngine.{SparkleEngine}
use Rattle.tc_aead_cipher.specs.Variant.{params_of}
use Rattle.tc_aead_cipher.specs.Checks.{start_check}
use Rattle.tc_sparkle_aead.specs.Message.{no_mac, start_point, absorb_header, header_steps}
use Rattle.tc_sparkle_aead.specs.Engine.{new_engine, repeats, remember, init_steps, no_steps}
use Rattle.tc_sparkle_aead.specs.Calls.{started, refused, init_by, init}

-- lists of different lengths differ
differ-by : (u v : List ℕ) (t : Bool) → same u v ≡ t → (length u ≡ length v → ⊥) → same u v ≡ false
differ-by u v true e h = absurd (h (ap length (equal_of_same u v e)))
differ-by u v false e h = e

lengths_differ : (u v : List ℕ) → (length u ≡ length v → ⊥) → same u v ≡ false
lengths_differ u v h = differ-by u v (same u v) refl h

-- a pair repeats where there is one and both its parts do
module _ (p : Params) (pair : Pair) (key nonce : List ℕ) where
  pub repeats_key : p.key ≤ length pair.key → (length key ≡ p.key → ⊥) → false ≡ repeats p pair key nonce
  unfolding repeats
  repeats_key h wrong =
      rw (lengths_differ (take p.key pair.key) key (λ e. wrong (omega (arith, length-take-le p.key pair.key h))))
      (sym (cond_same pair.loaded))

  pub repeats_nonce : p.rate ≤ length pair.nonce → (length nonce ≡ p.rate → ⊥) → false ≡ repeats p pair key nonce
  unfolding repeats
  repeats_nonce h wrong =
      rw (
        lengths_differ (take p.rate pair.nonce) nonce
            (λ e. wrong (omega (arith, length-take-le p.rate pair.nonce h))),
        cond_same (same (take p.key pair.key) key),
      ) (sym (cond_same pair.loaded))

  pub repeats_none : pair.loaded ≡ false → false ≡ repeats p pair key nonce
  unfolding repeats
  repeats_none none = rw none refl

  pub repeats_pair : (k n : ℕ) (a b : Bool) → k ≡ p.key → n ≡ p.rate → pair.loaded ≡ true
      → a ≡ same (take k pair.key) key → b ≡ same (take n pair.nonce) nonce → a && b ≡ repeats p pair key nonce
  unfolding repeats
  repeats_pair k n a b ek en loaded ea eb = rw (loaded, ea, eb, ek, en) (grind (arith, nat_tests))

-- the engine after a start that is taken
pub started_is : (e : SparkleEngine) (d : Direction) (key nonce header : List ℕ) (at point : Point) (pair : Pair) (mac : Mac)
    (big steps : ℕ) (counted : Steps)
    → at ≡ start_point (params_of e.variant) d key nonce → point ≡ absorb_header (params_of e.variant) d at header
    → pair ≡ remember e.pair key nonce → mac ≡ no_mac → big ≡ (params_of e.variant).big
    → steps ≡ header_steps (params_of e.variant) at header → counted ≡ init_steps no_steps ((big + steps) % 2 ^ 64)
    → ◌≡◌ {A = SparkleEngine}
    (record { variant = e.variant; current = point; initial = point; pair = pair; mac = mac; steps = counted })
    (started e d key nonce header)
unfolding started init_steps
started_is e d key nonce header at point pair mac big steps counted ea ep er em eb es ec =
    rw (ec, em, er, es, eb, ep, ea) refl

-- of the engine before it only the variant counts
pub started_by_variant : (e : SparkleEngine) (d : Direction) (key nonce header : List ℕ)
    → started (new_engine e.variant) d key nonce header ≡ started e d key nonce header
unfolding started new_engine remember init_steps
started_by_variant e d key nonce header = refl

-- a start by its check: what it answers, and the engine afterwards
module _ (e : SparkleEngine) (d : Direction) (key nonce : List ℕ) (size : ℕ) (header : List ℕ) (again : Bool)
    (check : Result (Unit {0}) AeadInitError) (engine : SparkleEngine) (ea : again ≡ repeats (params_of e.variant) e.pair key nonce)
    (ec : check ≡ start_check e.variant d (length key) (length nonce) size again) where
  init-by : (answer : Result (Unit {0}) AeadInitError) → check ≡ answer → init_by answer e d key nonce header ≡ init e d key nonce size header
  unfolding init
  init-by answer is =
      ap (λ (x : Result (Unit {0}) AeadInitError). init_by x e d key nonce header)
      (sym is ∙ ec ∙ ap (start_check e.variant d (length key) (length nonce) size) ea)

  pub init_taken : check ≡ Ok tt → engine ≡ started e d key nonce header
      → record { answer = check; engine = engine } ≡ init e d key nonce size header
  init_taken accepted en = (λ i. record { answer = accepted i; engine = en i }) ∙ init-by (Ok tt) accepted

  pub init_refused : (x : AeadInitError) → check ≡ Err x → engine ≡ refused e
      → record { answer = check; engine = engine } ≡ init e d key nonce size header
  init_refused x q en = (λ i. record { answer = q i; engine = en i }) ∙ init-by (Err x) q
