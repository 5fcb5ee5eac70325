-- A point of a message as a function of the data so far: the blocks that are ready are in the state, and the rest is held.
-- A call's bytes take such a point to the point of the data with these bytes behind it, by the cut law.
use Rattle.std.proofs.Common.{◌≡◌, ℕ, ◌+◌, ◌-◌, ◌*◌, ◌/◌, ◌≤◌, min, List, [], ◌++◌, length, take, replicate, sym, ap, ◌∙◌, arith, take_all, drop_at}
use native.Mathlib.Nat.{zero-div}
use lib.ListN.{length-replicate}
use lib.Seq.{drop-nil}
use Rattle.schwaemm.specs.Blocks.{ready, after, given, held}
use Rattle.schwaemm.specs.Schwaemm.{Params, Sizes}
use Rattle.schwaemm.proofs.Cut.{rest_below, length-held, held_cut, after-cut, given-cut, after-keeps}
use Rattle.schwaemm.proofs.States.{state_length}
use Rattle.tc_aead_cipher.specs.declared.phase.Direction.{Direction}
use Rattle.tc_aead_cipher.specs.declared.phase.Phase.{Phase}
use Rattle.tc_aead_cipher.specs.declared.phase.Phase.TheVariants.{Aad, Data}
use Rattle.tc_sparkle_aead.specs.declared.message.Point.{Point}
use Rattle.tc_aead_cipher.specs.Checks.{keep}
use Rattle.tc_sparkle_aead.specs.Message.{zeros, in_array, state_in, put_state, buffered, stream, block_count, streamed}
use Rattle.tc_aead_cipher.proofs.VariantLaws.{Small, keep_bound}
use Rattle.tc_sparkle_aead.proofs.StateLaws.{all-in_array, in_array-zeros, state-fits}

-- ---- Arrays

pub in_array_nil : (n : ℕ) → in_array n [] ≡ zeros n
unfolding in_array zeros
in_array_nil n = take_all n (replicate n 0) (simp length-replicate (omega arith))

-- ---- Nothing yet
pub ready_zero : (rate keep : ℕ) → ready rate keep 0 ≡ 0
unfolding ready
ready_zero rate keep = ap (λ (k : ℕ). k / rate) (omega arith) ∙ zero-div rate

pub held_nil : (rate keep : ℕ) → held rate keep [] ≡ []
unfolding held
held_nil rate keep = drop-nil (ready rate keep 0 * rate)

pub after_nil : (rate keep : ℕ) (step : List ℕ → List ℕ → List ℕ) (s : List ℕ) → after rate step (ready rate keep 0) s [] ≡ s
unfolding after
after_nil rate keep step s = ap (λ (n : ℕ). after rate step n s []) (ready_zero rate keep)

-- ---- The point of a message, in a phase, after the data d from the state s
unfoldable pub block_point : Params → ℕ → (List ℕ → List ℕ → List ℕ) → Phase → List ℕ → List ℕ → Point
block_point p keep step phase s d =
    record {
      phase = phase;
      words = in_array 16 (after p.rate step (ready p.rate keep (length d)) s d);
      buffer = in_array 64 (held p.rate keep d);
      held = length (held p.rate keep d);
    }

-- nothing is held and the state is the first
pub block_point_nil : (p : Params) (keep : ℕ) (step : List ℕ → List ℕ → List ℕ) (phase : Phase) (s : List ℕ)
    → block_point p keep step phase s [] ≡ record { phase = phase; words = in_array 16 s; buffer = zeros 64; held = 0 }
unfolding block_point
block_point_nil p keep step phase s =
    λ i. record {
      phase = phase;
      words = in_array 16 (after_nil p.rate keep step s i);
      buffer = (ap (in_array 64) (held_nil p.rate keep) ∙ in_array_nil 64) i;
      held = length (held_nil p.rate keep i);
    }

module _ (p : Params) (h : Sizes p) (m : Small p) where
  pub state_in-array : (s : List ℕ) → length s ≡ state_length p → state_in p (in_array 16 s) ≡ s
  unfolding state_in
  state_in-array s hs = all-in_array (state_length p) 16 s hs (state-fits p h m)

  pub put_state-array : (s t : List ℕ) → length s ≡ state_length p → length t ≡ state_length p
      → put_state p (in_array 16 s) t ≡ in_array 16 t
  unfolding put_state
  put_state-array s t hs ht =
      let n = state_length p in
      let fits = state-fits p h m in
      rw (
        in_array-zeros 16 (16 - n) s (omega arith),
        drop_at s (replicate (16 - n) 0) n hs,
        in_array-zeros 16 (16 - n) t (omega arith),
      )

  -- what a point holds
  module _ (keep : ℕ) (keeps : keep ≤ p.key) where
    held_fits : (d : List ℕ) → length (held p.rate keep d) ≤ keep + p.rate
    held_fits d =
        omega (arith, length-held p.rate keep d, rest_below p.rate keep h.rate_positive (length d))

    pub held_back : (d : List ℕ) (k : ℕ) → k ≡ length (held p.rate keep d)
        → take k (in_array 64 (held p.rate keep d)) ≡ held p.rate keep d
    held_back d k e = all-in_array k 64 (held p.rate keep d) (sym e) (omega (arith, held_fits d))

  pub buffered_aad : (step : List ℕ → List ℕ → List ℕ) (d : Direction) (s a : List ℕ)
      → buffered p (block_point p 0 step (Aad d) s a) ≡ held p.rate 0 a
  unfolding buffered block_point
  buffered_aad step d s a =
      let b : 0 ≤ p.key = omega arith in
      held_back 0 b a (min (length (held p.rate 0 a)) p.rate) (omega (arith, held_fits 0 b a))

  pub buffered-data : (step : List ℕ → List ℕ → List ℕ) (d : Direction) (s a : List ℕ)
      → buffered p (block_point p (keep p (Data d)) step (Data d) s a) ≡ held p.rate (keep p (Data d)) a
  unfolding buffered block_point
  buffered-data step d s a =
      let b = keep_bound p (Data d) in
      held_back (keep p (Data d)) b a (min (length (held p.rate (keep p (Data d)) a)) (keep p (Data d) + p.rate))
      (omega (arith, held_fits (keep p (Data d)) b a))

  -- more bytes, at a point that holds what stays of the bytes so far
  module _ (keep : ℕ) (step : List ℕ → List ℕ → List ℕ)
      (whole : (s b : List ℕ) → length s ≡ state_length p → length (step s b) ≡ state_length p) (old : Phase)
      (s a : List ℕ) (hs : length s ≡ state_length p)
      (holds : buffered p (block_point p keep step old s a) ≡ held p.rate keep a) (x : List ℕ) where
    length-after : (n : ℕ) (t d : List ℕ) → length t ≡ state_length p → length (after p.rate step n t d) ≡ state_length p
    length-after = after-keeps p.rate step (λ t. length t ≡ state_length p) whole

    pub stream-point : stream p (block_point p keep step old s a) x ≡ held p.rate keep a ++ x
    unfolding stream
    stream-point = ap (λ (l : List ℕ). l ++ x) holds

    pub state-point : state_in p (block_point p keep step old s a).words
        ≡ after p.rate step (ready p.rate keep (length a)) s a
    unfolding block_point
    state-point = state_in-array _ (length-after (ready p.rate keep (length a)) s a hs)

    pub block_count-point : block_count p keep (block_point p keep step old s a) x
        ≡ ready p.rate keep (length (held p.rate keep a ++ x))
    unfolding block_count
    block_count-point = ap (λ (l : List ℕ). ready p.rate keep (length l)) stream-point

    pub put_point : (t : List ℕ) → length t ≡ state_length p
        → put_state p (block_point p keep step old s a).words t ≡ in_array 16 t
    unfolding block_point
    put_point t = put_state-array _ t (length-after (ready p.rate keep (length a)) s a hs)

    words-point : put_state p (block_point p keep step old s a).words
        (after p.rate step (block_count p keep (block_point p keep step old s a) x)
        (state_in p (block_point p keep step old s a).words) (stream p (block_point p keep step old s a) x))
        ≡ in_array 16 (after p.rate step (ready p.rate keep (length (a ++ x))) s (a ++ x))
    words-point =
        rw (state-point, block_count-point, stream-point, ← after-cut p.rate keep h.rate_positive a x step s)
        (put_point _ (length-after (ready p.rate keep (length (a ++ x))) s (a ++ x) hs))

    pub streamed-point : (new : Phase)
        → streamed p keep step new (block_point p keep step old s a) x ≡ block_point p keep step new s (a ++ x)
    unfolding streamed block_point
    streamed-point new =
        λ i. record {
          phase = new;
          words = words-point i;
          buffer = in_array 64 ((ap (held p.rate keep) stream-point ∙ held_cut p.rate keep h.rate_positive a x) i);
          held = length ((ap (held p.rate keep) stream-point ∙ held_cut p.rate keep h.rate_positive a x) i);
        }

    pub given-point : (out : List ℕ → List ℕ → List ℕ)
        → given p.rate step out (ready p.rate keep (length a)) s a
        ++ given p.rate step out (block_count p keep (block_point p keep step old s a) x)
        (state_in p (block_point p keep step old s a).words) (stream p (block_point p keep step old s a) x)
        ≡ given p.rate step out (ready p.rate keep (length (a ++ x))) s (a ++ x)
    given-point out =
        rw (state-point, block_count-point, stream-point) (sym (given-cut p.rate keep h.rate_positive a x step out s))
