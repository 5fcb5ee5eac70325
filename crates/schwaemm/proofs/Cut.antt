-- The cut law: blocks may be taken from data as it comes, whatever the pieces. What stays of the bytes so far, followed
-- by what comes, gives the blocks that were still to come, since the first n blocks depend on the first n * rate bytes
-- alone and n + m blocks are n blocks and then m.
use mathlib.Core.Path.{◌≡◌, refl, sym, ap, ap₂, ◌∙◌}
use mathlib.Core.List.{List, ◌++◌, append_assoc}
use Prim.Native.Nat.{ℕ, zero, suc, ◌+◌, ◌-◌, ◌*◌, ◌/◌, ◌≤◌, ◌<◌}
use native.Mathlib.Nat.{zero-add, suc-add, add_comm, suc-mul, add-mul, zero-mul, div-mul-le_self, lt-div-mul-add, add-mul-div_right, div-eq_of_lt}
use native.Mathlib.Omega.{arith}
use lib.ListN.{length, take, drop, length-append, length-drop, take-append-drop}
use lib.Seq.{length-take-le, take-append-le, drop-append-le, take-take, drop-drop}
use Rattle.std.proofs.lemmas.List.{drop-take}
use Rattle.schwaemm.specs.Blocks.{ready, after, given, held}

-- Numbers of blocks.
module _ (rate keep : ℕ) where
  pub ready_bound : (n : ℕ) → ready rate keep n * rate ≤ n
  unfolding ready
  ready_bound n = omega (arith, div-mul-le_self (n - (keep + 1)) rate)

  -- more than `keep` bytes stay
  pub rest_above : (n : ℕ) → keep < n → keep < n - ready rate keep n * rate
  unfolding ready
  rest_above n h = omega (arith, div-mul-le_self (n - (keep + 1)) rate)

  -- the blocks are those of the bytes before the last `keep`
  pub ready-before : (n : ℕ) → ready rate keep n ≡ ready rate 0 (n - keep)
  unfolding ready
  ready-before n = ap (λ (k : ℕ). k / rate) (omega arith)

  module _ (pos : 0 < rate) where
    -- at most `keep` bytes and a block stay
    pub rest_below : (n : ℕ) → n - ready rate keep n * rate ≤ keep + rate
    unfolding ready
    rest_below n = omega (arith, lt-div-mul-add {a = n - (keep + 1)} pos)

    -- of so few nothing goes
    pub ready-none : (n : ℕ) → n ≤ keep + rate → ready rate keep n ≡ 0
    unfolding ready
    ready-none n h = div-eq_of_lt (omega arith)

    -- the cut law for the number of blocks
    pub ready_add : (n m : ℕ)
        → ready rate keep (n + m) ≡ ready rate keep n + ready rate keep (n - ready rate keep n * rate + m)
    unfolding ready
    ready_add n m =
        let q = (n - (keep + 1)) / rate in
        let bound = div-mul-le_self (n - (keep + 1)) rate in
        let e : n + m - (keep + 1) ≡ n - q * rate + m - (keep + 1) + q * rate = omega arith in
        ap (λ (k : ℕ). k / rate) e
        ∙ add-mul-div_right (n - q * rate + m - (keep + 1)) q pos
        ∙ add_comm _ q

-- (1 + n) * rate bytes are a block and n blocks
pub first_and_rest : (n rate : ℕ) → suc n * rate ≡ rate + n * rate
first_and_rest n rate = suc-mul n rate ∙ add_comm (n * rate) rate

-- The state after blocks.
module _ (rate : ℕ) (step : List ℕ → List ℕ → List ℕ) where
  pub after_add : (n m : ℕ) (s d : List ℕ)
      → after rate step (n + m) s d ≡ after rate step m (after rate step n s d) (drop (n * rate) d)
  unfolding after
  after_add zero m s d =
      ap₂ (λ (i j : ℕ). after rate step i s (drop j d)) (zero-add m) (sym (zero-mul rate))
  after_add (suc n) m s d =
      ap (λ (i : ℕ). after rate step i s d) (suc-add n m)
      ∙ after_add n m (step s (take rate d)) (drop rate d)
      ∙ ap (λ (e : List ℕ). after rate step m (after rate step (suc n) s d) e)
      (drop-drop (n * rate) rate d ∙ ap (λ (j : ℕ). drop j d) (sym (first_and_rest n rate)))

  -- n blocks are blocks of the first n * rate bytes
  after_first : (n : ℕ) (s d : List ℕ) → after rate step n s (take (n * rate) d) ≡ after rate step n s d
  unfolding after
  after_first zero s d = refl
  after_first (suc n) s d =
      rw (first_and_rest n rate, take-take rate (rate + n * rate) d (omega arith), drop-take rate (n * rate) d)
      (after_first n (step s (take rate d)) (drop rate d))

  after_same : (n : ℕ) (s d e : List ℕ) → take (n * rate) d ≡ take (n * rate) e
      → after rate step n s d ≡ after rate step n s e
  after_same n s d e h =
      sym (after_first n s d) ∙ ap (after rate step n s) h ∙ after_first n s e

  pub after-append : (n : ℕ) (s d x : List ℕ) → n * rate ≤ length d
      → after rate step n s (d ++ x) ≡ after rate step n s d
  after-append n s d x h = after_same n s (d ++ x) d (take-append-le (n * rate) d x h)

  pub after-take : (n k : ℕ) (s d : List ℕ) → n * rate ≤ k → after rate step n s (take k d) ≡ after rate step n s d
  after-take n k s d h = after_same n s (take k d) d (take-take (n * rate) k d h)

  -- what a step keeps, blocks keep
  pub after-keeps : (Kept : List ℕ → Type 0) → ((s b : List ℕ) → Kept s → Kept (step s b))
      → (n : ℕ) (s d : List ℕ) → Kept s → Kept (after rate step n s d)
  unfolding after
  after-keeps Kept keeps zero s d h = h
  after-keeps Kept keeps (suc n) s d h =
      after-keeps Kept keeps n (step s (take rate d)) (drop rate d) (keeps s (take rate d) h)

-- What blocks give.
module _ (rate : ℕ) (step out : List ℕ → List ℕ → List ℕ) where
  pub given_add : (n m : ℕ) (s d : List ℕ)
      → given rate step out (n + m) s d
      ≡ given rate step out n s d ++ given rate step out m (after rate step n s d) (drop (n * rate) d)
  unfolding after given
  given_add zero m s d =
      ap₂ (λ (i j : ℕ). given rate step out i s (drop j d)) (zero-add m) (sym (zero-mul rate))
  given_add (suc n) m s d =
      rw (
        suc-add n m,
        first_and_rest n rate,
        append_assoc,
        ← drop-drop (n * rate) rate d,
        given_add n m (step s (take rate d)) (drop rate d),
      )

  given-first : (n : ℕ) (s d : List ℕ) → given rate step out n s (take (n * rate) d) ≡ given rate step out n s d
  unfolding given
  given-first zero s d = refl
  given-first (suc n) s d =
      rw (first_and_rest n rate, take-take rate (rate + n * rate) d (omega arith), drop-take rate (n * rate) d)
      (ap (λ (g : List ℕ). out s (take rate d) ++ g) (given-first n (step s (take rate d)) (drop rate d)))

  given-same : (n : ℕ) (s d e : List ℕ) → take (n * rate) d ≡ take (n * rate) e
      → given rate step out n s d ≡ given rate step out n s e
  given-same n s d e h =
      sym (given-first n s d) ∙ ap (given rate step out n s) h ∙ given-first n s e

  pub given-append : (n : ℕ) (s d x : List ℕ) → n * rate ≤ length d
      → given rate step out n s (d ++ x) ≡ given rate step out n s d
  given-append n s d x h = given-same n s (d ++ x) d (take-append-le (n * rate) d x h)

  pub given-take : (n k : ℕ) (s d : List ℕ) → n * rate ≤ k
      → given rate step out n s (take k d) ≡ given rate step out n s d
  given-take n k s d h = given-same n s (take k d) d (take-take (n * rate) k d h)

  -- where a block gives a block, in states that a step keeps
  pub length-given : (Kept : List ℕ → Type 0) → ((s b : List ℕ) → Kept s → Kept (step s b))
      → ((s b : List ℕ) → Kept s → length b ≡ rate → length (out s b) ≡ rate)
      → (n : ℕ) (s d : List ℕ) → Kept s → n * rate ≤ length d → length (given rate step out n s d) ≡ n * rate
  unfolding given
  length-given Kept keeps whole zero s d k h = sym (zero-mul rate)
  length-given Kept keeps whole (suc n) s d k h =
      let e = first_and_rest n rate in
      let b = take rate d in
      let more : n * rate ≤ length (drop rate d) = simp length-drop (omega arith) in
      let block = whole s b k (length-take-le rate d (omega arith)) in
      let rest = length-given Kept keeps whole n (step s b) (drop rate d) (keeps s b k) more in
      simp length-append (omega arith)

-- What stays, and the cut law.
module _ (rate keep : ℕ) where
  pub length-held : (d : List ℕ) → length (held rate keep d) ≡ length d - ready rate keep (length d) * rate
  unfolding held
  length-held d = length-drop (ready rate keep (length d) * rate) d

  pub split : (d : List ℕ) → take (ready rate keep (length d) * rate) d ++ held rate keep d ≡ d
  unfolding held
  split d = take-append-drop (ready rate keep (length d) * rate) d

  module _ (pos : 0 < rate) (a x : List ℕ) where
    pub ready-cut : ready rate keep (length (a ++ x))
        ≡ ready rate keep (length a) + ready rate keep (length (held rate keep a ++ x))
    ready-cut =
        simp (length-append, length-held) (ready_add rate keep pos (length a) (length x))

    -- what is left of the bytes after the blocks that were ready
    left : drop (ready rate keep (length a) * rate) (a ++ x) ≡ held rate keep a ++ x
    unfolding held
    left = drop-append-le (ready rate keep (length a) * rate) a x (ready_bound rate keep (length a))

    pub held_cut : held rate keep (held rate keep a ++ x) ≡ held rate keep (a ++ x)
    unfolding held
    held_cut =
        let n = ready rate keep (length a) in
        let m = ready rate keep (length (held rate keep a ++ x)) in
        ap (drop (m * rate)) (sym left) ∙ drop-drop (m * rate) (n * rate) (a ++ x)
        ∙ ap (λ (k : ℕ). drop k (a ++ x)) (sym (ap (λ (k : ℕ). k * rate) ready-cut ∙ add-mul n m rate))

    pub after-cut : (step : List ℕ → List ℕ → List ℕ) (s : List ℕ)
        → after rate step (ready rate keep (length (a ++ x))) s (a ++ x)
        ≡ after rate step (ready rate keep (length (held rate keep a ++ x)))
        (after rate step (ready rate keep (length a)) s a) (held rate keep a ++ x)
    after-cut step s =
        rw (
          ready-cut,
          after_add rate step (ready rate keep (length a)) _ s (a ++ x),
          left,
          after-append rate step _ s a x (ready_bound rate keep (length a)),
        )

    pub given-cut : (step out : List ℕ → List ℕ → List ℕ) (s : List ℕ)
        → given rate step out (ready rate keep (length (a ++ x))) s (a ++ x)
        ≡ given rate step out (ready rate keep (length a)) s a
        ++ given rate step out (ready rate keep (length (held rate keep a ++ x)))
        (after rate step (ready rate keep (length a)) s a) (held rate keep a ++ x)
    given-cut step out s =
        rw (
          ready-cut,
          given_add rate step out (ready rate keep (length a)) _ s (a ++ x),
          left,
          after-append rate step _ s a x (ready_bound rate keep (length a)),
          given-append rate step out _ s a x (ready_bound rate keep (length a)),
        )
