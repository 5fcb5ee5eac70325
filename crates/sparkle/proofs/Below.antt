-- What keeps the numbers of a list below 2^k.
use Rattle.std.proofs.Common.{ℕ, zero, suc, ◌^◌, ◌<◌, List, [], ◌∷◌, ◌++◌, get_or, take, drop, set, replicate, pow_pos}
use lib.Bits.{xor_lt}
use Rattle.sparkle.specs.Words.{Below}
use Rattle.sparkle.specs.Sparkle.{xors}

pub below_of : {k : ℕ} (l : List ℕ) → ((i : ℕ) → get_or l i 0 < 2 ^ k) → Below k l
below_of [] h = Below.none
below_of (x ∷ l) h = Below.more (h zero) (below_of l (λ i. h (suc i)))

pub below_at : {k : ℕ} {l : List ℕ} → Below k l → (i : ℕ) → get_or l i 0 < 2 ^ k
below_at {k} Below.none i = pow_pos k
below_at (Below.more h hs) zero = h
below_at (Below.more h hs) (suc i) = below_at hs i

pub below-append : {k : ℕ} {l m : List ℕ} → Below k l → Below k m → Below k (l ++ m)
below-append Below.none ms = ms
below-append (Below.more h hs) ms = Below.more h (below-append hs ms)

pub below-take : {k : ℕ} (n : ℕ) {l : List ℕ} → Below k l → Below k (take n l)
below-take zero hs = Below.none
below-take (suc n) Below.none = Below.none
below-take (suc n) (Below.more h hs) = Below.more h (below-take n hs)

pub below-drop : {k : ℕ} (n : ℕ) {l : List ℕ} → Below k l → Below k (drop n l)
below-drop zero hs = hs
below-drop (suc n) Below.none = Below.none
below-drop (suc n) (Below.more h hs) = below-drop n hs

pub below_set : {k : ℕ} (i : ℕ) {x : ℕ} {l : List ℕ} → x < 2 ^ k → Below k l → Below k (set l i x)
below_set i hx Below.none = Below.none
below_set zero hx (Below.more h hs) = Below.more hx hs
below_set (suc i) hx (Below.more h hs) = Below.more h (below_set i hx hs)

pub below-replicate : {k : ℕ} (n : ℕ) {x : ℕ} → x < 2 ^ k → Below k (replicate n x)
below-replicate zero h = Below.none
below-replicate (suc n) h = Below.more h (below-replicate n h)

pub below-xors : {k : ℕ} {l m : List ℕ} → Below k l → Below k m → Below k (xors l m)
unfolding xors
below-xors Below.none ms = Below.none
below-xors (Below.more h hs) Below.none = Below.none
below-xors {k} (Below.more {x = x} h hs) (Below.more {x = y} i is) = Below.more (xor_lt k x y h i) (below-xors hs is)
