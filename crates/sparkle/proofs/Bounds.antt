-- Every word stays below 2^32, part by part; the permutation's words are below 2^32 whatever it is given.
use Rattle.std.proofs.Common.{◌≡◌, ℕ, zero, suc, ◌+◌, ◌%◌, ◌^◌, ◌<◌, ◌≤◌, List, [], ◌∷◌, ◌++◌, map, length, take, drop, replicate, sym, refl, ap, ◌∙◌, ap₂, append-nil, mod-lt, mod-eq_of_lt, arith, lit<, lit≤, drop_of_length-le, length-take-le, take_all}
use lib.Bits.{bit_xor, xor_lt}
use lib.Seq.{take-append-le}
use Rattle.sparkle.specs.Words.{Words, addw, rotr, ell}
use Rattle.sparkle.specs.Words.Below.{none, more}
use Rattle.sparkle.specs.declared.scalar.Branch.{Branch}
use Rattle.sparkle.specs.Sparkle.{rcon, quarter, arx_box, constants, boxes, xor_xs, xor_ys, xor_each, feistel, linear, step, run, state, sparkle, sparkle_in}
use Rattle.sparkle.proofs.Rotate.{rotr_lt}
use Rattle.sparkle.proofs.Below.{below_at, below-append, below-take, below-drop, below_set, below-xors}

xor_word : {x y : ℕ} → x < 2 ^ 32 → y < 2 ^ 32 → bit_xor x y < 2 ^ 32
xor_word {x} {y} hx hy = xor_lt 32 x y hx hy

ell-word : {x : ℕ} → x < 2 ^ 32 → ell x < 2 ^ 32
unfolding ell
ell-word {x} hx = xor_word (rotr_lt 16 (lit≤ tt) x hx) (omega arith)

rcon-word : (i : ℕ) → rcon i < 2 ^ 32
unfolding rcon
rcon-word i =
    below_at {k = 32}
    (more (lit< tt) (more (lit< tt) (more (lit< tt) (more (lit< tt)
    (more (lit< tt) (more (lit< tt) (more (lit< tt) (more (lit< tt) none)))))))) i

-- both words of a branch are below 2^32
pub record BranchWords (v : Branch) : Type 0 where
  pub x : v.x < 2 ^ 32
  pub y : v.y < 2 ^ 32

quarter-words : (a b : ℕ) {c : ℕ} {v : Branch} → b ≤ 32 → c < 2 ^ 32 → BranchWords v → BranchWords (quarter a b c v)
unfolding quarter addw
quarter-words a b {c} {v} hb hc h =
    let sum = mod-lt (v.x + rotr a v.y) (lit< tt) in
    record { x = xor_word sum hc; y = xor_word h.y (rotr_lt b hb _ sum) }

box-words : {c : ℕ} {v : Branch} → c < 2 ^ 32 → BranchWords v → BranchWords (arx_box c v)
unfolding arx_box
box-words hc h =
    quarter-words 24 16 (lit≤ tt) hc
    (quarter-words 0 31 (lit≤ tt) hc (quarter-words 17 17 (lit≤ tt) hc (quarter-words 31 24 (lit≤ tt) hc h)))

pub words-constants : (s : ℕ) {w : List ℕ} → Words w → Words (constants s w)
unfolding constants
words-constants s h =
    below_set 3 (xor_word (below_at h 3) (mod-lt s (lit< tt)))
    (below_set 1 (xor_word (below_at h 1) (rcon-word (s % 8))) h)

pub words-boxes : (i : ℕ) {w : List ℕ} → Words w → Words (boxes i w)
unfolding boxes
words-boxes i none = none
words-boxes i (more h none) = more h none
words-boxes i (more hx (more hy h)) =
    let box = box-words (rcon-word i) (record { x = hx; y = hy }) in
    more box.x (more box.y (words-boxes (suc i) h))

word-xor_xs : {acc : ℕ} {w : List ℕ} → acc < 2 ^ 32 → Words w → xor_xs acc w < 2 ^ 32
unfolding xor_xs
word-xor_xs ha none = ha
word-xor_xs ha (more hx none) = xor_word ha hx
word-xor_xs {acc = acc} ha (more {x = x} hx (more hy h)) = word-xor_xs {acc = bit_xor acc x} (xor_word ha hx) h

word-xor_ys : {acc : ℕ} {w : List ℕ} → acc < 2 ^ 32 → Words w → xor_ys acc w < 2 ^ 32
unfolding xor_ys
word-xor_ys ha none = ha
word-xor_ys ha (more hx none) = ha
word-xor_ys {acc = acc} ha (more hx (more {x = y} hy h)) = word-xor_ys {acc = bit_xor acc y} (xor_word ha hy) h

words-xor_each : {a b : ℕ} {w : List ℕ} → a < 2 ^ 32 → b < 2 ^ 32 → Words w → Words (xor_each a b w)
unfolding xor_each
words-xor_each ha hb none = none
words-xor_each ha hb (more hx none) = more (xor_word hx ha) none
words-xor_each ha hb (more hx (more hy h)) = more (xor_word hx ha) (more (xor_word hy hb) (words-xor_each ha hb h))

words-feistel : {l r : List ℕ} → Words l → Words r → Words (feistel l r)
unfolding feistel
words-feistel hl hr =
    words-xor_each (ell-word (word-xor_ys (lit< tt) hl)) (ell-word (word-xor_xs (lit< tt) hl)) (below-xors hl hr)

pub words-linear : (b : ℕ) {w : List ℕ} → Words w → Words (linear b w)
unfolding linear
words-linear b h =
    let m = words-feistel (below-take b h) (below-drop b h) in
    below-append (below-append (below-drop 2 m) (below-take 2 m)) (below-take b h)

pub words_step : (b s : ℕ) {w : List ℕ} → Words w → Words (step b s w)
unfolding step
words_step b s h = words-linear b (words-boxes 0 (words-constants s h))

pub words-run : (b s k : ℕ) {w : List ℕ} → Words w → Words (run b s k w)
unfolding run
words-run b s zero h = h
words-run b s (suc k) h = words-run b (suc s) k (words_step b s h)

words_mod : (w : List ℕ) → Words (map (λ x. x % 2 ^ 32) w)
words_mod [] = none
words_mod (x ∷ w) = more (mod-lt x (lit< tt)) (words_mod w)

pub words-state : (b : ℕ) (w : List ℕ) → Words (state b w)
unfolding state
words-state b w = words_mod (take (b + b) (w ++ replicate (b + b) 0))

pub words-sparkle : (b s k : ℕ) (w : List ℕ) → Words (sparkle b s k w)
unfolding sparkle
words-sparkle b s k w = words-run b s k (words-state b w)

mod_words : {w : List ℕ} → Words w → map (λ x. x % 2 ^ 32) w ≡ w
mod_words none = refl
mod_words (more h hs) = ap₂ (λ (x : ℕ) (l : List ℕ). x ∷ l) (mod-eq_of_lt h) (mod_words hs)

-- a list of b + b words is the state that it stands for
pub state_of_words : (b : ℕ) (w : List ℕ) → length w ≡ b + b → Words w → state b w ≡ w
unfolding state
state_of_words b w h hs =
    ap (map (λ x. x % 2 ^ 32)) (take-append-le (b + b) w (replicate (b + b) 0) (omega arith) ∙ take_all (b + b) w (omega arith))
    ∙ mod_words hs

-- the permutation on an array, from a run on its first words
pub sparkle-in : (b s k : ℕ) (w v : List ℕ) → b + b ≤ length w → Words w → v ≡ run b s k (take (b + b) w) → v ++ drop (b + b) w ≡ sparkle_in b s k w
unfolding sparkle sparkle_in
sparkle-in b s k w v h hs e =
    ap (λ (l : List ℕ). l ++ drop (b + b) w)
    (e ∙ ap (run b s k) (sym (state_of_words b (take (b + b) w) (length-take-le (b + b) w h) (below-take (b + b) hs))))

-- the same where the array is the state
pub sparkle-whole : (b s k : ℕ) (w : List ℕ) → length w ≡ b + b → Words w → run b s k w ≡ sparkle_in b s k w
sparkle-whole b s k w h hs =
    let short : length w ≤ b + b = omega arith in
    sym (append-nil (run b s k w))
    ∙ ap (λ (l : List ℕ). run b s k w ++ l) (sym (drop_of_length-le w short))
    ∙ sparkle-in b s k w (run b s k w) (omega arith) hs (ap (run b s k) (sym (take_all (b + b) w short)))
