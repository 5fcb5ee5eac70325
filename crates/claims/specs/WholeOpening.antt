-- What the claims of document 02's request 2026-03, "Open whole or not", say: where a whole packet is refused, with which
-- number, and where it is opened.
use Rattle.std.specs.Prelude.{◌≡◌, true, false, List, [], ◌∷◌, ℕ, ◌-◌, ◌≤◌, ◌<◌, length}
use Rattle.schwaemm.specs.Schwaemm.{verified}
use Rattle.tc_aead_cipher.specs.declared.variant.SparkleVariant.{SparkleVariant}
use Rattle.tc_aead_cipher.specs.Variant.{params_of}

-- When a packet is refused, with which number and values: the request's checks 1, 2, 5, 4, 6 in this sequence, each with
-- the checks before it passed. A key has the variant's key bytes and so has a tag; a nonce has the rate's.
pub data NotOpened (v : SparkleVariant) (key nonce header packet : List ℕ) (room : ℕ) : List ℕ → Type 0 where
  key-length : (length key ≡ (params_of v).key → ⊥) → NotOpened v key nonce header packet room (1 ∷ (length key ∷ []))
  nonce-length : length key ≡ (params_of v).key → (length nonce ≡ (params_of v).rate → ⊥)
      → NotOpened v key nonce header packet room (2 ∷ (length nonce ∷ []))
  too_short : length key ≡ (params_of v).key → length nonce ≡ (params_of v).rate → length packet < (params_of v).key
      → NotOpened v key nonce header packet room (5 ∷ ((params_of v).key ∷ (length packet ∷ [])))
  no_room : length key ≡ (params_of v).key → length nonce ≡ (params_of v).rate → (params_of v).key ≤ length packet
      → room < length packet - (params_of v).key
      → NotOpened v key nonce header packet room (4 ∷ ((length packet - (params_of v).key) ∷ (room ∷ [])))
  tag_differs : length key ≡ (params_of v).key → length nonce ≡ (params_of v).rate → (params_of v).key ≤ length packet
      → length packet - (params_of v).key ≤ room → verified (params_of v) key nonce header packet ≡ false
      → NotOpened v key nonce header packet room (6 ∷ [])

-- When it is opened, and with which count: all checks passed.
pub record Opened (v : SparkleVariant) (key nonce header packet : List ℕ) (room n : ℕ) : Type 0 where
  pub key-is : length key ≡ (params_of v).key
  pub nonce-is : length nonce ≡ (params_of v).rate
  pub has-tag : (params_of v).key ≤ length packet
  pub count-is : n ≡ length packet - (params_of v).key
  pub has_room : n ≤ room
  pub verifies : verified (params_of v) key nonce header packet ≡ true
