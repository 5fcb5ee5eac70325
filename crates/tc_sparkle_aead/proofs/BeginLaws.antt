-- Where the data begins: the code's point and steps, apart from the engine, are those of the engine in which it begins.
-- What an end depends on of that engine is its variant, its pair and its point.
use Rattle.std.proofs.Common.{◌≡◌, ℕ, ◌+◌, ◌%◌, ◌^◌, [], ◌∷◌, sym, refl, ap, ◌∙◌, inl, inr, add-zero, arith}
use native.Mathlib.Nat.{mod-add-mod}
use types.Run.{OneOf}
use denote.Enum.Declared.{tag_of}
use Rattle.schwaemm.specs.Schwaemm.{Params}
use Rattle.tc_aead_cipher.specs.declared.phase.Direction.{Direction}
use Rattle.tc_aead_cipher.specs.declared.phase.Phase.{Phase}
use Rattle.tc_aead_cipher.specs.declared.phase.Phase.TheVariants.{Uninitialized, Init, Aad, Data, Final}
use Rattle.tc_sparkle_aead.specs.declared.message.Point.{Point}
use Rattle.tc_sparkle_aead.specs.declared.message.Mac.{Mac}
use Rattle.tc_sparkle_aead.specs.declared.engine.Steps.{Steps}
use Rattle.tc_aead_cipher.specs.declared.variant.SparkleVariant.{SparkleVariant}
use Rattle.tc_sparkle_aead.specs.declared.engine.Pair.{Pair}
use Rattle.tc_sparkle_aead.specs.declared.engine.SparkleEngine.{SparkleEngine}
use Rattle.tc_aead_cipher.specs.Variant.{params_of}
use Rattle.tc_aead_cipher.specs.Checks.{held_data}
use Rattle.tc_sparkle_aead.specs.Message.{buffered_count, without_header, after_header, begin_point, begin_steps, final_point}
use Rattle.tc_sparkle_aead.specs.Calls.{add_steps, at_point, begin_by, final_engine}
use Rattle.tc_aead_cipher.specs.contracts.phase.Phase.{the_type}

-- ---- The point, by the phase.

module _ (p : Params) (at : Point) (d : Direction) {r : Point} where
  pub begin_init : at.phase ≡ Init d → r ≡ without_header d at → r ≡ begin_point p at.phase at
  begin_init is e = e ∙ sym (ap (λ (x : Phase). begin_point p x at) is)

  pub begin_aad : at.phase ≡ Aad d → r ≡ after_header p d at → r ≡ begin_point p at.phase at
  begin_aad is e = e ∙ sym (ap (λ (x : Phase). begin_point p x at) is)

-- neither Init nor Aad
pub begin_kept : (p : Params) (phase : Phase) → OneOf (0 ∷ (3 ∷ (4 ∷ []))) (tag_of the_type phase) → (at : Point)
    → at ≡ begin_point p phase at
begin_kept p Uninitialized h at = refl
begin_kept p (Init d) (inl h) at = absurd (omega arith)
begin_kept p (Init d) (inr (inl h)) at = absurd (omega arith)
begin_kept p (Init d) (inr (inr h)) at = absurd (omega arith)
begin_kept p (Aad d) (inl h) at = absurd (omega arith)
begin_kept p (Aad d) (inr (inl h)) at = absurd (omega arith)
begin_kept p (Aad d) (inr (inr h)) at = absurd (omega arith)
begin_kept p (Data d) h at = refl
begin_kept p (Final d) h at = refl

-- not Aad
pub begin_without_steps : (p : Params) (phase : Phase) → OneOf (0 ∷ (1 ∷ (3 ∷ (4 ∷ [])))) (tag_of the_type phase)
    → 0 ≡ begin_steps p phase
begin_without_steps p Uninitialized h = refl
begin_without_steps p (Init d) h = refl
begin_without_steps p (Aad d) (inl h) = absurd (omega arith)
begin_without_steps p (Aad d) (inr (inl h)) = absurd (omega arith)
begin_without_steps p (Aad d) (inr (inr (inl h))) = absurd (omega arith)
begin_without_steps p (Aad d) (inr (inr (inr h))) = absurd (omega arith)
begin_without_steps p (Data d) h = refl
begin_without_steps p (Final d) h = refl

-- the held bytes there
pub begin_held : (p : Params) (phase : Phase) (at : Point) → at.phase ≡ phase
    → buffered_count p (begin_point p phase at).phase (begin_point p phase at).held ≡ held_data p phase at.held
unfolding without_header after_header
begin_held p Uninitialized at is = rw is refl
begin_held p (Init d) at is = omega arith
begin_held p (Aad d) at is = omega arith
begin_held p (Data d) at is = rw is refl
begin_held p (Final d) at is = rw is refl

-- ---- The engine.

-- no steps before others
none_first : (s : Steps) (n : ℕ) → add_steps n (add_steps 0 s) ≡ add_steps n s
unfolding add_steps
none_first s n =
    let e = mod-add-mod (s.current + 0) (2 ^ 64) n ∙ ap (λ (k : ℕ). (k + n) % 2 ^ 64) (add-zero s.current) in
    λ i. record { current = e i; initial = s.initial }

module _ (e : SparkleEngine) where
  kept_at : (x at : Point) (n : ℕ) → at_point (at_point e x 0) at n ≡ at_point e at n
  unfolding at_point
  kept_at x at n =
      λ i. record {
        variant = e.variant;
        current = at;
        initial = e.initial;
        pair = e.pair;
        mac = e.mac;
        steps = none_first e.steps n i;
      }

  -- with the steps of the beginning, the engine at another point is that of the engine in which the data begins
  pub begin_at : (phase : Phase) (x at : Point) (n : ℕ)
      → at_point (at_point e x (begin_steps (params_of e.variant) phase)) at n ≡ at_point (begin_by phase e) at n
  unfolding at_point
  begin_at Uninitialized x at n = kept_at x at n
  begin_at (Init d) x at n = refl
  begin_at (Aad d) x at n = refl
  begin_at (Data d) x at n = kept_at x at n
  begin_at (Final d) x at n = kept_at x at n

  -- and the ended one
  pub begin_ended : (phase : Phase) (x : Point) (d : Direction) (mac : Mac) (n : ℕ)
      → final_engine (at_point e x (begin_steps (params_of e.variant) phase)) d mac n ≡ final_engine (begin_by phase e) d mac n
  unfolding final_engine at_point
  begin_ended phase x d mac n =
      ap (λ (y : SparkleEngine). record {
        variant = y.variant;
        current = y.current;
        initial = y.initial;
        pair = y.pair;
        mac = mac;
        steps = y.steps;
      }) (begin_at phase x (final_point d) n)

  -- its point, its variant, and whatever is made of both and its pair
  pub begin_current : (phase : Phase) → (begin_by phase e).current ≡ begin_point (params_of e.variant) phase e.current
  unfolding at_point
  begin_current Uninitialized = refl
  begin_current (Init d) = refl
  begin_current (Aad d) = refl
  begin_current (Data d) = refl
  begin_current (Final d) = refl

  pub begin_variant : (phase : Phase) → (begin_by phase e).variant ≡ e.variant
  unfolding at_point
  begin_variant Uninitialized = refl
  begin_variant (Init d) = refl
  begin_variant (Aad d) = refl
  begin_variant (Data d) = refl
  begin_variant (Final d) = refl

  pub begin_parts : {A : Type 0} (f : SparkleVariant → Pair → Point → A) (phase : Phase)
      → f (begin_by phase e).variant (begin_by phase e).pair (begin_by phase e).current
      ≡ f e.variant e.pair (begin_point (params_of e.variant) phase e.current)
  unfolding at_point
  begin_parts f Uninitialized = refl
  begin_parts f (Init d) = refl
  begin_parts f (Aad d) = refl
  begin_parts f (Data d) = refl
  begin_parts f (Final d) = refl
