-- The state in the engine's array of words, and a list in an array: what is put in is what is found, and the rest of the
-- array stays as it was.
use Rattle.std.proofs.Common.{◌≡◌, ℕ, ◌+◌, ◌-◌, ◌^◌, ◌<◌, ◌≤◌, List, ◌++◌, length, get_or, take, drop, set, replicate, ap, ◌∙◌, append_assoc, append-nil, arith, length-append, length-set, take-append-drop, drop_of_length-le, length-take-le, take_all, take-take, take_at, drop_at}
use lib.Bits.{xor_lt, xor_zero_r}
use lib.ListN.{length-replicate, replicate-append-replicate}
use lib.Seq.{take-append-le, set-get_or}
use Rattle.sparkle.specs.Words.{Words}
use Rattle.sparkle.proofs.Below.{below_at, below_set, below-take}
use Rattle.schwaemm.specs.Schwaemm.{Params, Sizes}
use Rattle.schwaemm.proofs.States.{state_length}
use Rattle.tc_sparkle_aead.specs.Message.{zeros, in_array, state_in, put_state, xor_last}
use Rattle.tc_aead_cipher.proofs.VariantLaws.{Small}

-- the first elements of a list in an array
pub take-in_array : (m n : ℕ) (l : List ℕ) → m ≤ length l → m ≤ n → take m (in_array n l) ≡ take m l
unfolding in_array
take-in_array m n l hl hn = take-take m n (l ++ zeros n) hn ∙ take-append-le m l (zeros n) hl

pub all-in_array : (m n : ℕ) (l : List ℕ) → length l ≡ m → m ≤ n → take m (in_array n l) ≡ l
all-in_array m n l hl hn = take-in_array m n l (omega arith) hn ∙ take_all m l (omega arith)

-- the list and the zeros behind it
pub in_array-zeros : (n k : ℕ) (l : List ℕ) → length l + k ≡ n → in_array n l ≡ l ++ replicate k 0
unfolding zeros in_array
in_array-zeros n k l e =
    let split : n ≡ k + length l = omega arith in
    ap (λ (j : ℕ). take n (l ++ replicate j 0)) split
    ∙ rw (← replicate-append-replicate {A = ℕ} k (length l) 0, ← append_assoc l (replicate k 0) (replicate (length l) 0))
    (take_at (l ++ replicate k 0) (replicate (length l) 0) n
    (simp (length-append, length-replicate) (omega arith)))

module _ (p : Params) where
  pub state-length : (words : List ℕ) → state_length p ≤ length words → length (state_in p words) ≡ state_length p
  unfolding state_in
  state-length words h = length-take-le (state_length p) words h

  pub state_put : (words s : List ℕ) → length s ≡ state_length p → state_in p (put_state p words s) ≡ s
  unfolding state_in put_state
  state_put words s hs = take_at s (drop (state_length p) words) (state_length p) hs

  pub put_put : (words s s' : List ℕ) → length s ≡ state_length p
      → put_state p (put_state p words s) s' ≡ put_state p words s'
  unfolding put_state
  put_put words s s' hs = ap (◌++◌ s') (drop_at s (drop (state_length p) words) (state_length p) hs)

  pub put_state_lem : (words : List ℕ) → put_state p words (state_in p words) ≡ words
  unfolding state_in put_state
  put_state_lem words = take-append-drop (state_length p) words

  -- a state that fills the array
  pub put_all : (words s : List ℕ) → length words ≡ state_length p → put_state p words s ≡ s
  unfolding put_state
  put_all words s h = ap (◌++◌ s) (drop_of_length-le words {i = state_length p} (omega arith)) ∙ append-nil s

  -- a number in the last word
  pub length-xor_last : (x : ℕ) (s : List ℕ) → length (xor_last p x s) ≡ length s
  unfolding xor_last
  length-xor_last x s = length-set s _ _

  pub words-xor_last : (x : ℕ) {s : List ℕ} → x < 2 ^ 32 → Words s → Words (xor_last p x s)
  unfolding xor_last
  words-xor_last x {s} hx ws = below_set (state_length p - 1) (xor_lt 32 _ x (below_at ws (state_length p - 1)) hx) ws

  -- the state that is loaded from an array
  pub length-loaded : (x : ℕ) (words : List ℕ) → state_length p ≤ length words → length (xor_last p x (state_in p words)) ≡ state_length p
  length-loaded x words h = length-xor_last x (state_in p words) ∙ state-length words h

  pub words-loaded : (x : ℕ) {words : List ℕ} → x < 2 ^ 32 → Words words → Words (xor_last p x (state_in p words))
  unfolding state_in
  words-loaded x h w = words-xor_last x h (below-take (state_length p) w)

  pub xor_last-none : (s : List ℕ) → xor_last p 0 s ≡ s
  unfolding xor_last
  xor_last-none s =
      ap (set s (state_length p - 1)) (xor_zero_r (get_or s (state_length p - 1) 0)) ∙ set-get_or s (state_length p - 1) 0

  module _ (h : Sizes p) (f : Small p) where
    pub state-fits : state_length p ≤ 16
    state-fits = omega arith

    pub length-state_in : (words : List ℕ) → length words ≡ 16 → length (state_in p words) ≡ state_length p
    length-state_in words hw = state-length words (omega (arith, state-fits))
