-- The laws of the checks of a packet that is opened whole: under which hypothesis `packet_check` gives which answer.
use mathlib.Core.Path.{◌≡◌, refl}
use mathlib.Core.List.{[], ◌∷◌}
use Prim.Native.Nat.{ℕ, ◌-◌, ◌≤◌, ◌<◌}
use native.Mathlib.Decide.{ℕ_discrete}
use mathlib.Core.Bool.{Bool, true, false}
use lib.Dec.{ltb}
use borrow.Author.Tests.{lt-ltb, le-ltb, eq-eqb, ne_eqb, ltb-true, ltb-false}
use Rattle.schwaemm.specs.Schwaemm.{Params}
use Rattle.tc_aead_cipher.specs.Outcome.{Outcome}
use Rattle.tc_aead_cipher.specs.PacketCheck.{packet_check}

module _ (p : Params) (key nonce packet room : ℕ) where
  pub packet_check-key : (key ≡ p.key → ⊥) → packet_check p key nonce packet room ≡ Outcome.no (1 ∷ (key ∷ []))
  unfolding packet_check
  packet_check-key wrong = rw (ne_eqb _ _ wrong) refl

  module _ (k : key ≡ p.key) where
    pub packet_check-nonce : (nonce ≡ p.rate → ⊥) → packet_check p key nonce packet room ≡ Outcome.no (2 ∷ (nonce ∷ []))
    unfolding packet_check
    packet_check-nonce wrong = rw (eq-eqb _ _ k, ne_eqb _ _ wrong) refl

    module _ (n : nonce ≡ p.rate) where
      pub packet_check_short : packet < p.key → packet_check p key nonce packet room ≡ Outcome.no (5 ∷ (p.key ∷ (packet ∷ [])))
      unfolding packet_check
      packet_check_short short = rw (eq-eqb _ _ k, eq-eqb _ _ n, lt-ltb _ _ short) refl

      module _ (enough : p.key ≤ packet) where
        pub packet_check-room : room < packet - p.key
            → packet_check p key nonce packet room ≡ Outcome.no (4 ∷ ((packet - p.key) ∷ (room ∷ [])))
        unfolding packet_check
        packet_check-room less = rw (eq-eqb _ _ k, eq-eqb _ _ n, le-ltb packet p.key enough, lt-ltb _ _ less) refl

        pub packet_check_passes : packet - p.key ≤ room → packet_check p key nonce packet room ≡ Outcome.ok (packet - p.key)
        unfolding packet_check
        packet_check_passes fits =
            rw (eq-eqb _ _ k, eq-eqb _ _ n, le-ltb packet p.key enough, le-ltb room (packet - p.key) fits) refl

-- The answers, each with what it was given for.
pub data PacketCase (p : Params) (key nonce packet room : ℕ) : Type 0 where
  key-length : (key ≡ p.key → ⊥) → packet_check p key nonce packet room ≡ Outcome.no (1 ∷ (key ∷ []))
      → PacketCase p key nonce packet room
  nonce-length : key ≡ p.key → (nonce ≡ p.rate → ⊥) → packet_check p key nonce packet room ≡ Outcome.no (2 ∷ (nonce ∷ []))
      → PacketCase p key nonce packet room
  too_short : key ≡ p.key → nonce ≡ p.rate → packet < p.key
      → packet_check p key nonce packet room ≡ Outcome.no (5 ∷ (p.key ∷ (packet ∷ []))) → PacketCase p key nonce packet room
  no_room : key ≡ p.key → nonce ≡ p.rate → p.key ≤ packet → room < packet - p.key
      → packet_check p key nonce packet room ≡ Outcome.no (4 ∷ ((packet - p.key) ∷ (room ∷ []))) → PacketCase p key nonce packet room
  passes : key ≡ p.key → nonce ≡ p.rate → p.key ≤ packet → packet - p.key ≤ room
      → packet_check p key nonce packet room ≡ Outcome.ok (packet - p.key) → PacketCase p key nonce packet room

module _ (p : Params) (key nonce packet room : ℕ) where
  pub packet_case : PacketCase p key nonce packet room
  packet_case = by_key (ℕ_discrete key p.key)
    where
      by-room : key ≡ p.key → nonce ≡ p.rate → p.key ≤ packet → (t : Bool) → ltb room (packet - p.key) ≡ t
          → PacketCase p key nonce packet room
      by-room k n e true t =
          no_room k n e (ltb-true _ _ t) (packet_check-room p key nonce packet room k n e (ltb-true _ _ t))
      by-room k n e false t =
          passes k n e (ltb-false _ _ t) (packet_check_passes p key nonce packet room k n e (ltb-false _ _ t))

      by-packet : key ≡ p.key → nonce ≡ p.rate → (t : Bool) → ltb packet p.key ≡ t → PacketCase p key nonce packet room
      by-packet k n true t = too_short k n (ltb-true _ _ t) (packet_check_short p key nonce packet room k n (ltb-true _ _ t))
      by-packet k n false t = by-room k n (ltb-false _ _ t) _ refl

      by-nonce : key ≡ p.key → Dec (nonce ≡ p.rate) → PacketCase p key nonce packet room
      by-nonce k (no wrong) = nonce-length k wrong (packet_check-nonce p key nonce packet room k wrong)
      by-nonce k (yes n) = by-packet k n _ refl

      by_key : Dec (key ≡ p.key) → PacketCase p key nonce packet room
      by_key (no wrong) = key-length wrong (packet_check-key p key nonce packet room wrong)
      by_key (yes k) = by-nonce k (ℕ_discrete nonce p.rate)
