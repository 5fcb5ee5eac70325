-- Permutation steps, counted in pieces: slim steps for the blocks that go before the last, and the rest for what stays
-- and comes.
use mathlib.Core.Path.{◌≡◌, refl}
use Prim.Native.Nat.{ℕ, zero, suc, ◌+◌, ◌-◌, ◌*◌, ◌<◌}
use native.Mathlib.Nat.{add-mul, zero-mul}
use native.Mathlib.Omega.{arith}
use borrow.Author.Tests.{lt-ltb}
use Rattle.schwaemm.specs.Schwaemm.{Params, Sizes, leading, steps_of}
use Rattle.schwaemm.proofs.Cut.{rest_above, ready-none, ready_add}

module _ (p : Params) where
  pub steps-none : steps_of p 0 ≡ 0
  unfolding steps_of
  steps-none = refl

  pub steps_some : (n : ℕ) → 0 < n → steps_of p n ≡ leading p n * p.slim + p.big
  unfolding steps_of
  steps_some n h = rw (lt-ltb 0 n h)

  module _ (h : Sizes p) where
    -- the cut law at keep 0
    pub leading-cut : (n m : ℕ) → leading p (n + m) ≡ leading p n + leading p (n - leading p n * p.rate + m)
    unfolding leading
    leading-cut n m = ready_add p.rate 0 h.rate_positive n m

    -- something stays where there is something
    rest_some : (n m : ℕ) → 0 < n + m → 0 < n - leading p n * p.rate + m
    unfolding leading
    rest_some zero m e = omega arith
    rest_some (suc n) m e = omega (arith, rest_above p.rate 0 (suc n) (omega arith))

    steps_cut_some : (n m : ℕ) → 0 < n + m
        → steps_of p (n + m) ≡ leading p n * p.slim + steps_of p (n - leading p n * p.rate + m)
    steps_cut_some n m e =
        let rest = n - leading p n * p.rate + m in
        rw (
          steps_some (n + m) e,
          steps_some rest (rest_some n m e),
          leading-cut n m,
          add-mul (leading p n) (leading p rest) p.slim,
        )
        (omega arith)

    pub steps-cut : (n m : ℕ) → steps_of p (n + m) ≡ leading p n * p.slim + steps_of p (n - leading p n * p.rate + m)
    unfolding steps_of leading
    steps-cut zero zero =
        let none = ready-none p.rate 0 h.rate_positive 0 (omega arith) in
        rw (none, zero-mul p.slim, zero-mul p.rate)
    steps-cut zero (suc m) = steps_cut_some zero (suc m) (omega arith)
    steps-cut (suc n) m = steps_cut_some (suc n) m (omega arith)
