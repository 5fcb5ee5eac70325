-- The lengths of the permutation's parts. The permutation of b branches gives b + b words, whatever it is given.
use Rattle.std.proofs.Common.{◌≡◌, ℕ, zero, suc, ◌+◌, ◌%◌, ◌^◌, ◌≤◌, min, List, [], ◌∷◌, ◌++◌, length, take, replicate, refl, ap, ◌∙◌, arith, length-append, length-drop, length-set, length-take}
use lib.ListN.{length-replicate, length-map}
use Rattle.sparkle.specs.Sparkle.{constants, boxes, xors, xor_each, feistel, linear, step, run, state, sparkle, branches}
use Rattle.sparkle.specs.declared.scalar.StateWords.{StateWords}
use Rattle.sparkle.specs.declared.scalar.StateWords.TheVariants.{Words8, Words12, Words16}

pub length-constants : (s : ℕ) (w : List ℕ) → length (constants s w) ≡ length w
unfolding constants
length-constants s w = simp length-set

pub length-boxes : (i : ℕ) (w : List ℕ) → length (boxes i w) ≡ length w
unfolding boxes
length-boxes i [] = refl
length-boxes i (x ∷ []) = refl
length-boxes i (x ∷ (y ∷ w)) = ap (λ (n : ℕ). suc (suc n)) (length-boxes (suc i) w)

pub length-xors : (u v : List ℕ) → length (xors u v) ≡ min (length u) (length v)
unfolding xors
length-xors [] v = omega arith
length-xors (a ∷ u) [] = omega arith
length-xors (a ∷ u) (b ∷ v) = omega (arith, length-xors u v)

length-xor_each : (a b : ℕ) (w : List ℕ) → length (xor_each a b w) ≡ length w
unfolding xor_each
length-xor_each a b [] = refl
length-xor_each a b (x ∷ []) = refl
length-xor_each a b (x ∷ (y ∷ w)) = ap (λ (n : ℕ). suc (suc n)) (length-xor_each a b w)

length-feistel : (l r : List ℕ) → length (feistel l r) ≡ min (length l) (length r)
unfolding feistel
length-feistel l r = length-xor_each _ _ (xors l r) ∙ length-xors l r

pub length-linear : (b : ℕ) (w : List ℕ) → length w ≡ b + b → length (linear b w) ≡ b + b
unfolding linear
length-linear b w h =
    simp (length-append, length-take, length-drop, length-feistel) (omega arith)

pub length-step : (b s : ℕ) (w : List ℕ) → length w ≡ b + b → length (step b s w) ≡ b + b
unfolding step
length-step b s w h =
    length-linear b (boxes 0 (constants s w)) (length-boxes 0 (constants s w) ∙ length-constants s w ∙ h)

pub length_run : (b s k : ℕ) (w : List ℕ) → length w ≡ b + b → length (run b s k w) ≡ b + b
unfolding run
length_run b s zero w h = h
length_run b s (suc k) w h = length_run b (suc s) k (step b s w) (length-step b s w h)

pub length-state : (b : ℕ) (w : List ℕ) → length (state b w) ≡ b + b
unfolding state
length-state b w =
    length-map (take (b + b) (w ++ replicate (b + b) 0)) (λ x. x % 2 ^ 32)
    ∙ simp (length-take, length-append, length-replicate) (omega arith)

pub length-sparkle : (b s k : ℕ) (w : List ℕ) → length (sparkle b s k w) ≡ b + b
unfolding sparkle
length-sparkle b s k w = length_run b s k (state b w) (length-state b w)

-- an array of 16 words holds a state of each size
pub state_in_16 : (size : StateWords) → branches size + branches size ≤ 16
state_in_16 Words8 = omega arith
state_in_16 Words12 = omega arith
state_in_16 Words16 = omega arith
