-- A message and its points: what a start, a header, the data, an end and a reset make of one (document 01, "Down to the
-- block"). Nothing here knows the engine.
use Rattle.std.specs.Prelude.{◌≡◌, ℕ, ◌+◌, ◌-◌, ◌*◌, ◌/◌, ◌%◌, ◌≤◌, ◌<◌, min, Bool, true, false, cond, List, [], ◌∷◌, ◌++◌, length, take, drop, replicate, bit_and, bit_xor, nat_lt, slice_index, slice_set}
use Rattle.sparkle.specs.Sparkle.{xors}
use Rattle.schwaemm.specs.Schwaemm.{Params, schwaemm256_128, schwaemm192_192, Sizes, outer, inner, rho1, whitening, mix, crypt, mix_last, initialise, absorb_block, sealing as sealingBlock, opening as openingBlock, message_block, tag_of}
use Rattle.schwaemm.specs.Bytes.{if_empty, same}
use Rattle.schwaemm.specs.Blocks.{ready, after, given, held}
use Rattle.tc_aead_cipher.specs.declared.phase.Phase.TheVariants.{Uninitialized, Init, Aad, Data, Final}
use Rattle.tc_aead_cipher.specs.declared.phase.Direction.{Direction}
use Rattle.tc_aead_cipher.specs.declared.phase.Direction.TheVariants.{Encrypt, Decrypt}
use Rattle.tc_aead_cipher.specs.declared.phase.Phase.{Phase}
use Rattle.tc_aead_cipher.specs.Checks.{opening, keep, held_data}
use Rattle.tc_sparkle_aead.specs.declared.message.Point.{Point}
use Rattle.tc_sparkle_aead.specs.declared.message.Mac.{Mac}
use Rattle.tc_sparkle_aead.specs.declared.message.Progress.{Progress}
use Rattle.tc_sparkle_aead.specs.declared.message.End.{End}

-- ---- Arrays

-- n zeros, and a list in an array of n: zeros behind it, and cut where it is longer.
unfoldable pub zeros : ℕ → List ℕ
zeros n = replicate n 0

unfoldable pub in_array : ℕ → List ℕ → List ℕ
in_array n l = take n (l ++ zeros n)

-- ---- A point of a message

-- A point where no bytes are held.
abbrev pub empty_point : Phase → List ℕ → Point
empty_point phase words = record { phase = phase; words = words; buffer = zeros 64; held = 0 }

-- No message: Uninitialized, everything wiped.
unfoldable pub no_message : Point
no_message = empty_point Uninitialized (zeros 16)

-- No readable tag, and one.
unfoldable pub no_mac : Mac
no_mac = record { readable = false; bytes = zeros 32 }

unfoldable pub readable : List ℕ → Mac
readable tag = record { readable = true; bytes = in_array 32 tag }

-- The state in a point's array of words, and the array with another state.
unfoldable pub state_in : Params → List ℕ → List ℕ
state_in p words = take ((p.rate + p.key) / 4) words

unfoldable pub put_state : Params → List ℕ → List ℕ → List ℕ
put_state p words s = s ++ drop ((p.rate + p.key) / 4) words

-- How many bytes a phase holds: of the header at most a block, of the data as document 01's h says.
abbrev pub buffered_count : Params → Phase → ℕ → ℕ
buffered_count p Uninitialized held = 0
buffered_count p (Init d) held = 0
buffered_count p (Aad d) held = min held p.rate
buffered_count p (Data d) held = held_data p (Data d) held
buffered_count p (Final d) held = 0

-- The bytes that a point holds.
unfoldable pub buffered : Params → Point → List ℕ
buffered p at = take (buffered_count p at.phase at.held) at.buffer

-- The bytes that a point holds and those that come: what blocks are taken of.
unfoldable pub stream : Params → Point → List ℕ → List ℕ
stream p at input = buffered p at ++ input

-- How many blocks go while `keep` bytes and one more stay.
unfoldable pub block_count : Params → ℕ → Point → List ℕ → ℕ
block_count p keep at input = ready p.rate keep (length (stream p at input))

-- The point, in a phase, after the blocks that go: `next` is what a block makes of the state.
unfoldable pub streamed : Params → ℕ → (List ℕ → List ℕ → List ℕ) → Phase → Point → List ℕ → Point
streamed p keep next phase at input =
    record {
      phase = phase;
      words =
          put_state p at.words
          (after p.rate next (block_count p keep at input) (state_in p at.words) (stream p at input));
      buffer = in_array 64 (held p.rate keep (stream p at input));
      held = length (held p.rate keep (stream p at input));
    }

-- ---- The start and the header

-- The point after the start, before the initial header.
unfoldable pub start_point : Params → Direction → List ℕ → List ℕ → Point
start_point p d key nonce = empty_point (Init d) (in_array 16 (initialise p key nonce))

-- A header that is not empty is absorbed and leads to Aad.
unfoldable pub absorb_header : Params → Direction → Point → List ℕ → Point
absorb_header p d at [] = at
absorb_header p d at (x ∷ header) = streamed p 0 (absorb_block p) (Aad d) at (x ∷ header)

-- The steps that this runs.
unfoldable pub header_steps : Params → Point → List ℕ → ℕ
header_steps p at header = block_count p 0 at header * p.slim

-- ---- The data

-- Where the data begins: without a header; and after one, whose last block is taken up.
unfoldable pub without_header : Direction → Point → Point
without_header d at = empty_point (Data d) at.words

unfoldable pub after_header : Params → Direction → Point → Point
after_header p d at =
    empty_point (Data d) (put_state p at.words (mix_last p 0 (state_in p at.words) (take (min at.held p.rate) at.buffer)))

-- The point where the data begins, and the steps that this runs. A point where it has begun stays.
abbrev pub begin_point : Params → Phase → Point → Point
begin_point p Uninitialized at = at
begin_point p (Init d) at = without_header d at
begin_point p (Aad d) at = after_header p d at
begin_point p (Data d) at = at
begin_point p (Final d) at = at

abbrev pub begin_steps : Params → Phase → ℕ
begin_steps p Uninitialized = 0
begin_steps p (Init d) = 0
begin_steps p (Aad d) = p.big
begin_steps p (Data d) = 0
begin_steps p (Final d) = 0

-- What the state takes up of a message block: opening, what the block becomes; sealing, the block itself.
unfoldable pub plain_by : Params → Bool → List ℕ → List ℕ → List ℕ
plain_by p opens = cond opens (openingBlock p) (sealingBlock p)

unfoldable pub plain_of : Params → Phase → List ℕ → List ℕ → List ℕ
plain_of p phase = plain_by p (opening phase)

-- ---- Blocks

-- The mask of a block: all ones where the state takes up what the block becomes.
unfoldable pub mask_of : Bool → ℕ
mask_of opens = cond opens 0xffffffff 0

-- The words of a block, each xored with the word of the state that the mask leaves.
unfoldable pub masked : ℕ → List ℕ → List ℕ → List ℕ
masked mask [] block = []
masked mask (x ∷ s) [] = []
masked mask (x ∷ s) (b ∷ block) = bit_xor b (bit_and x mask) ∷ masked mask s block

-- The words that are permuted when a block is taken up under a mask.
unfoldable pub xor_block : Params → ℕ → List ℕ → List ℕ → List ℕ
xor_block p mask s block =
    xors (rho1 p (outer p s) (take (p.rate / 4) (masked mask s block))) (whitening p (inner p s)) ++ inner p s

-- A state with a number xored into its last word.
unfoldable pub xor_last : Params → ℕ → List ℕ → List ℕ
xor_last p x s = slice_set s ((p.rate + p.key) / 4 - 1) (bit_xor (slice_index s ((p.rate + p.key) / 4 - 1)) x)

-- The parameters of a state of so many words, `rate` of them the rate's.
abbrev pub sized : (words rate slim big : ℕ) → Params
sized words rate slim big = record { rate = rate * 4; key = (words - rate) * 4; slim = slim; big = big }

-- What the engine's arrays and the permutation ask of the sizes besides: a block has at most eight words, a state 8, 12
-- or 16.
pub record Fits (p : Params) : Type 0 where
  pub sizes : Sizes p
  pub block : p.rate ≤ 32
  pub least : 32 ≤ p.rate + p.key
  pub most : p.rate + p.key ≤ 64
  pub halves : (p.rate + p.key) % 16 ≡ 0

-- The two variants with a state of 12 words.
unfoldable pub wide_params : Bool → Params
wide_params wide = cond wide schwaemm256_128 schwaemm192_192

-- What a block makes of the state, with slim or big steps behind it.
unfoldable pub block_step : Params → (big opens : Bool) → List ℕ → List ℕ → List ℕ
block_step p big opens s block = mix p (cond big p.big p.slim) s (plain_by p opens s block)

-- An output that what `count` blocks of the input become is written to, or is not.
unfoldable pub blocks_out : Params → (big opens write : Bool) → ℕ → (s input out : List ℕ) → List ℕ
blocks_out p big opens write count s input out =
    cond write (given p.rate (block_step p big opens) (crypt p) count s input ++ drop (count * p.rate) out) out

-- Of `count` blocks, how many have held bytes in them.
unfoldable pub held_blocks : Params → (held count : ℕ) → ℕ
held_blocks p held count = min count ((held + p.rate - 1) / p.rate)

-- They are few enough for the array, and behind them no byte is held.
pub record Held (p : Params) (held count first : ℕ) : Type 0 where
  pub some : first ≤ count
  pub small : first * p.rate ≤ 64
  pub all : first < count → held ≤ first * p.rate

-- The state that makes nonce and key of the nonce when it takes it up: the right half of the rate is the whitening's left
-- half, and the left one both of its halves xored.
unfoldable pub start_words : Params → List ℕ → List ℕ
start_words p key =
    let half = take (p.rate / 8) (whitening p key) in
    xors half (drop (p.rate / 8) (whitening p key)) ++ half ++ key

-- Data in phase Data: where it leads, and what is written.
abbrev pub data_from : Params → Point → List ℕ → Progress
data_from p at input =
    let phase = at.phase in
    record {
      point = streamed p (keep p phase) (message_block p (plain_of p phase)) phase at input;
      steps = block_count p (keep p phase) at input * p.slim;
    }

unfoldable pub stream_out : Params → Point → List ℕ → List ℕ
stream_out p at input =
    given p.rate (message_block p (plain_of p at.phase)) (crypt p) (block_count p (keep p at.phase) at input)
    (state_in p at.words) (stream p at input)

-- An output buffer that is written from its start.
unfoldable pub written : List ℕ → List ℕ → List ℕ
written bytes out = bytes ++ drop (length bytes) out

-- ---- The end

-- The state after the last block, of which `plain` is taken up; as it was, where there is no block.
unfoldable pub last_state : Params → List ℕ → List ℕ → List ℕ → List ℕ
last_state p s block plain = if_empty block s (mix_last p 2 s plain)

-- The steps of a last block.
unfoldable pub last_steps : Params → List ℕ → ℕ
last_steps p block = cond (nat_lt 0 (length block)) p.big 0

-- The end of a sealing under a key: what the held bytes become, the tag, both as they are written; the tag and the steps.
unfoldable pub seal_last : Params → Point → List ℕ
seal_last p at = crypt p (state_in p at.words) (buffered p at)

unfoldable pub seal_tag : Params → (key : List ℕ) → Point → List ℕ
seal_tag p key at = tag_of p key (last_state p (state_in p at.words) (buffered p at) (buffered p at))

abbrev pub seal_out : Params → (key : List ℕ) → Point → List ℕ
seal_out p key at = seal_last p at ++ seal_tag p key at

abbrev pub seal_end : Params → (key : List ℕ) → Point → End
seal_end p key at = record { mac = readable (seal_tag p key at); steps = last_steps p (buffered p at) }

-- Of an opening: the held ciphertext and the received tag, what the ciphertext becomes, the tag of that, and whether it
-- is the received one.
unfoldable pub open_block : Params → Point → List ℕ
open_block p at = take (length (buffered p at) - p.key) (buffered p at)

unfoldable pub received_tag : Params → Point → List ℕ
received_tag p at = drop (length (buffered p at) - p.key) (buffered p at)

unfoldable pub open_last : Params → Point → List ℕ
open_last p at = crypt p (state_in p at.words) (open_block p at)

unfoldable pub open_tag : Params → (key : List ℕ) → Point → List ℕ
open_tag p key at = tag_of p key (last_state p (state_in p at.words) (open_block p at) (open_last p at))

abbrev pub tag_matches : Params → (key : List ℕ) → Point → Bool
tag_matches p key at = same (received_tag p at) (open_tag p key at)

-- The end of an opening: the tag and the steps, and what is written. What a failed tag leaves of the bytes that would have
-- been written: zeros.
abbrev pub open_end_by : Bool → Params → (key : List ℕ) → Point → End
open_end_by true p key at = record { mac = readable (open_tag p key at); steps = last_steps p (open_block p at) }
open_end_by false p key at = record { mac = no_mac; steps = last_steps p (open_block p at) }

abbrev pub open_end : Params → (key : List ℕ) → Point → End
open_end p key at = open_end_by (tag_matches p key at) p key at

abbrev pub open_out_by : Bool → Params → Point → List ℕ
open_out_by true p at = open_last p at
open_out_by false p at = zeros (length (open_block p at))

abbrev pub open_out : Params → (key : List ℕ) → Point → List ℕ
open_out p key at = open_out_by (tag_matches p key at) p at

-- ---- After the end, and after a reset

-- The message has ended: words and buffer are wiped, the point after init stays.
unfoldable pub final_point : Direction → Point
final_point d = empty_point (Final d) (zeros 16)

-- Sealing in Data or Final ends in Final; sealing in Init or Aad, and every opening phase, returns to the point after init.
abbrev pub reset_point : Phase → Point → Point
reset_point Uninitialized initial = no_message
reset_point (Init d) initial = initial
reset_point (Aad d) initial = initial
reset_point (Data Encrypt) initial = final_point Encrypt
reset_point (Data Decrypt) initial = initial
reset_point (Final Encrypt) initial = final_point Encrypt
reset_point (Final Decrypt) initial = initial
