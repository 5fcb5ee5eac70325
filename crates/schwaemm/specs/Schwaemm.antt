-- Schwaemm, the authenticated encryption of the Sparkle family, in the order and words of "Schwaemm and Esch" (the
-- Sparkle submission, finalist edition) and of document 01, "Down to the block". Keys, nonces, headers, messages and
-- tags are lists of bytes, a state is a list of words: the rate's words, S_L, and then the capacity's, S_R.
use Rattle.std.specs.Prelude.{◌≡◌, ℕ, ◌+◌, ◌-◌, ◌*◌, ◌/◌, ◌%◌, ◌^◌, ◌≤◌, ◌<◌, Bool, cond, List, ◌∷◌, ◌++◌, length, take, drop, get_or, set, replicate, ltb}
use Rattle.std.specs.Int.Bits.{bit_xor}
use Rattle.sparkle.specs.Sparkle.{sparkle, xors}
use Rattle.schwaemm.specs.Bytes.{to_words, to_bytes, if_empty, same}
use Rattle.schwaemm.specs.Blocks.{ready, after, given}

-- What the variants differ in: the bytes of the rate, which are also the nonce's; the bytes of the key, which are also
-- the tag's and the capacity's; the steps of the slim and of the big permutation.
pub record Params : Type 0 where
  pub rate : ℕ
  pub key : ℕ
  pub slim : ℕ
  pub big : ℕ

-- What the sizes must meet: whole branches in rate and capacity, capacity words that reach the rate's when they are
-- repeated once, and a domain constant that is a word.
pub record Sizes (p : Params) : Type 0 where
  pub rate_positive : 0 < p.rate
  pub key_positive : 0 < p.key
  pub rate-branches : p.rate % 8 ≡ 0
  pub key-branches : p.key % 8 ≡ 0
  pub rate_reached : p.rate ≤ p.key + p.key
  pub key_small : p.key < 64

-- Document 01's variants 1 to 4.
abbrev pub schwaemm128_128 : Params
schwaemm128_128 = record { rate = 16; key = 16; slim = 7; big = 10 }

abbrev pub schwaemm256_128 : Params
schwaemm256_128 = record { rate = 32; key = 16; slim = 7; big = 11 }

abbrev pub schwaemm192_192 : Params
schwaemm192_192 = record { rate = 24; key = 24; slim = 7; big = 11 }

abbrev pub schwaemm256_256 : Params
schwaemm256_256 = record { rate = 32; key = 32; slim = 8; big = 12 }

-- The parts of a state.
unfoldable pub outer : Params → List ℕ → List ℕ
outer p s = take (p.rate / 4) s

unfoldable pub inner : Params → List ℕ → List ℕ
inner p s = drop (p.rate / 4) s

-- The permutation on a state, of (rate + key) / 8 branches, from step 0.
unfoldable pub permute : Params → ℕ → List ℕ → List ℕ
permute p steps s = sparkle ((p.rate + p.key) / 8) 0 steps s

-- The feedback, on words of the rate: FeistelSwap gives the right half, then the right half xored with the left one.
unfoldable pub feistel_swap : Params → List ℕ → List ℕ
feistel_swap p s = drop (p.rate / 8) s ++ xors (drop (p.rate / 8) s) (take (p.rate / 8) s)

unfoldable pub rho1 : Params → List ℕ → List ℕ → List ℕ
rho1 p s d = xors (feistel_swap p s) d

-- The whitening: as many capacity words as the rate has. They are repeated only where the rate is longer.
unfoldable pub whitening : Params → List ℕ → List ℕ
whitening p c = take (p.rate / 4) (c ++ c)

-- A block of `rate` bytes is taken up by the state.
unfoldable pub mix : Params → ℕ → List ℕ → List ℕ → List ℕ
mix p steps s block =
    permute p steps (xors (rho1 p (outer p s) (to_words block)) (whitening p (inner p s)) ++ inner p s)

-- What a block becomes, sealed or opened: rho2 on bytes, as long as the block.
unfoldable pub crypt : Params → List ℕ → List ℕ → List ℕ
crypt p s block = xors (to_bytes (outer p s)) block

-- A short block gets byte 80 (hexadecimal) and zeros.
unfoldable pub padded : Params → List ℕ → List ℕ
padded p block = take p.rate (block ++ (0x80 ∷ replicate p.rate 0))

-- The domain constant: (v xor 2^(key bytes / 8)) × 2^24.
unfoldable pub domain : Params → ℕ → ℕ
domain p v = bit_xor v (2 ^ (p.key / 8)) * 2 ^ 24

-- It is xored into the last state word.
unfoldable pub with_domain : Params → ℕ → List ℕ → List ℕ
with_domain p v s =
    set s ((p.rate + p.key) / 4 - 1) (bit_xor (get_or s ((p.rate + p.key) / 4 - 1) 0) (domain p v))

-- The v of a last block: `short` for a short one, one more for a full one. Short is 0 for the header, 2 for the message.
unfoldable pub last_v : Params → ℕ → List ℕ → ℕ
last_v p short block = cond (ltb (length block) p.rate) short (short + 1)

-- The last block is taken up, padded, with its domain constant and big steps.
unfoldable pub mix_last : Params → ℕ → List ℕ → List ℕ → List ℕ
mix_last p short s block = mix p p.big (with_domain p (last_v p short block) s) (padded p block)

-- Start: nonce words, then key words, then big steps.
unfoldable pub initialise : Params → List ℕ → List ℕ → List ℕ
initialise p key nonce = permute p p.big (to_words nonce ++ to_words key)

-- How many blocks of n bytes come before the last.
unfoldable pub leading : Params → ℕ → ℕ
leading p n = ready p.rate 0 n

-- A header block that is not the last.
unfoldable pub absorb_block : Params → List ℕ → List ℕ → List ℕ
absorb_block p s block = mix p p.slim s block

-- The header: nothing for an empty one.
unfoldable pub absorb : Params → List ℕ → List ℕ → List ℕ
absorb p s a =
    if_empty a s
    (mix_last p 0 (after p.rate (absorb_block p) (leading p (length a)) s a) (drop (leading p (length a) * p.rate) a))

-- The state that a message begins with.
unfoldable pub prepared : Params → List ℕ → List ℕ → List ℕ → List ℕ
prepared p key nonce header = absorb p (initialise p key nonce) header

-- The message block that the state takes up: sealing, the block itself; opening, what the block becomes.
unfoldable pub sealing : Params → List ℕ → List ℕ → List ℕ
sealing p s block = block

unfoldable pub opening : Params → List ℕ → List ℕ → List ℕ
opening p s block = crypt p s block

-- A message block that is not the last; `plain` is `sealing p` or `opening p`.
unfoldable pub message_block : Params → (List ℕ → List ℕ → List ℕ) → List ℕ → List ℕ → List ℕ
message_block p plain s block = mix p p.slim s (plain s block)

-- The state before the last block of d, and the last block.
unfoldable pub before_last : Params → (List ℕ → List ℕ → List ℕ) → List ℕ → List ℕ → List ℕ
before_last p plain s d = after p.rate (message_block p plain) (leading p (length d)) s d

unfoldable pub last_block : Params → List ℕ → List ℕ
last_block p d = drop (leading p (length d) * p.rate) d

-- The state after the data d: as it was, where there is none.
unfoldable pub message : Params → (List ℕ → List ℕ → List ℕ) → List ℕ → List ℕ → List ℕ
message p plain s d =
    if_empty d s (mix_last p 2 (before_last p plain s d) (plain (before_last p plain s d) (last_block p d)))

-- What the data d becomes.
unfoldable pub crypted : Params → (List ℕ → List ℕ → List ℕ) → List ℕ → List ℕ → List ℕ
crypted p plain s d =
    given p.rate (message_block p plain) (crypt p) (leading p (length d)) s d
    ++ crypt p (before_last p plain s d) (last_block p d)

-- The end xors the key into the capacity, which is the tag.
unfoldable pub tag_of : Params → List ℕ → List ℕ → List ℕ
tag_of p key s = to_bytes (xors (inner p s) (to_words key))

-- The specification's ciphertext, without its tag.
unfoldable pub encrypt : Params → List ℕ → List ℕ → List ℕ → List ℕ → List ℕ
encrypt p key nonce header m = crypted p (sealing p) (prepared p key nonce header) m

-- The message that a ciphertext, without its tag, decrypts to.
unfoldable pub decrypt : Params → List ℕ → List ℕ → List ℕ → List ℕ → List ℕ
decrypt p key nonce header c = crypted p (opening p) (prepared p key nonce header) c

-- The specification's tag of a message.
unfoldable pub tag : Params → List ℕ → List ℕ → List ℕ → List ℕ → List ℕ
tag p key nonce header m = tag_of p key (message p (sealing p) (prepared p key nonce header) m)

-- The ciphertext and its tag.
unfoldable pub seal : Params → List ℕ → List ℕ → List ℕ → List ℕ → List ℕ
seal p key nonce header m = encrypt p key nonce header m ++ tag p key nonce header m

-- A packet without its last tag bytes, and these.
unfoldable pub body : Params → List ℕ → List ℕ
body p packet = take (length packet - p.key) packet

unfoldable pub received : Params → List ℕ → List ℕ
received p packet = drop (length packet - p.key) packet

-- Whether a packet's last tag bytes are the specification's tag for the message that the bytes before them decrypt to.
unfoldable pub verified : Params → List ℕ → List ℕ → List ℕ → List ℕ → Bool
verified p key nonce header packet =
    same (received p packet) (tag p key nonce header (decrypt p key nonce header (body p packet)))

-- Permutation steps of a header or a message of n bytes: (blocks - 1) × slim + big, where it is not empty.
unfoldable pub steps_of : Params → ℕ → ℕ
steps_of p n = cond (ltb 0 n) (leading p n * p.slim + p.big) 0

-- Permutation steps of a message with its header.
unfoldable pub steps : Params → ℕ → ℕ → ℕ
steps p header message = p.big + steps_of p header + steps_of p message
