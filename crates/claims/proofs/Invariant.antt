-- The invariant between the engine and the reader after a list of calls: what the engine is but for its steps, from what
-- the reader keeps, and what holds in each phase; with the laws of the parts of a call on such an engine: its points, its
-- loads and its checks. StepInvariant has the steps.
use mathlib.Core.Path.{◌≡◌, refl, sym, ap, ap₂, ◌∙◌}
use mathlib.Core.Bool.{Bool, true, false, cond}
use mathlib.Core.List.{List, [], ◌∷◌, ◌++◌}
use Prim.Native.Nat.{ℕ, zero, suc, ◌-◌, ◌*◌, ◌≤◌, ◌<◌}
use native.Mathlib.Omega.{arith}
use lib.Dec.{ltb}
use borrow.Author.Tests.{ltb-false}
use lib.ListN.{length, take, length-take}
use Rattle.std.specs.Prelude.{Result, Ok, Err}
use Rattle.schwaemm.specs.Bytes.{if_empty}
use Rattle.schwaemm.specs.Blocks.{ready, after, given, held}
use Rattle.schwaemm.specs.Schwaemm.{Params, Sizes, mix_last, initialise, absorb_block, absorb, prepared, message_block, decrypt, tag, body as body_of, verified, leading}
use Rattle.schwaemm.proofs.Cut.{length-held}
use Rattle.schwaemm.proofs.States.{state_length, length-absorb_block, length-message_block, length-initialise, length-prepared, length-mix_last}
use Rattle.tc_aead_cipher.specs.declared.variant.SparkleVariant.{SparkleVariant}
use Rattle.tc_aead_cipher.specs.declared.phase.Direction.{Direction}
use Rattle.tc_aead_cipher.specs.declared.phase.Direction.TheVariants.{Encrypt, Decrypt}
use Rattle.tc_aead_cipher.specs.declared.phase.Phase.{Phase}
use Rattle.tc_aead_cipher.specs.declared.phase.Phase.TheVariants.{Uninitialized, Init, Aad, Data, Final}
use Rattle.tc_aead_cipher.specs.declared.aead_error.AeadError.TheVariants.{CiphertextTooShort}
use Rattle.tc_aead_cipher.specs.declared.aead_error.AeadError.{AeadError}
use Rattle.tc_sparkle_aead.specs.declared.message.Point.{Point}
use Rattle.tc_sparkle_aead.specs.declared.engine.Pair.{Pair}
use Rattle.tc_sparkle_aead.specs.declared.message.Mac.{Mac}
use Rattle.tc_sparkle_aead.specs.declared.engine.Steps.{Steps}
use Rattle.tc_sparkle_aead.specs.declared.engine.SparkleEngine.{SparkleEngine}
use Rattle.tc_aead_cipher.specs.Variant.{params_of}
use Rattle.tc_aead_cipher.specs.Checks.{opening, keep, held_data, data_check, end_check, update_len, total_len, phase_check, then, room, whole}
use Rattle.tc_sparkle_aead.specs.Message.{zeros, in_array, no_message, no_mac, state_in, put_state, buffered, stream, block_count, streamed, start_point, absorb_header, header_steps, plain_of, final_point, readable}
use Rattle.tc_sparkle_aead.specs.Engine.{no_pair, repeats, remember, current_key, no_steps, new_engine}
use Rattle.tc_aead_cipher.proofs.VariantLaws.{Small}
use Rattle.claims.specs.Reader.{Load, Reader, new_reader, loads_kept, after_load, last_key, last_nonce, is_among, loaded_key}
use Rattle.claims.specs.Reader.{loaded_nonce, header_phase}
use Rattle.tc_sparkle_aead.proofs.StateLaws.{all-in_array}
use Rattle.tc_sparkle_aead.proofs.Points.{held_nil, block_point, block_point_nil, buffered_aad}
use Rattle.tc_sparkle_aead.proofs.Points.{buffered-data, state-point, block_count-point, put_point, streamed-point, given-point}

-- ---- What the engine is, from what the reader keeps

-- A message with a header, before its data, and in its data.
unfoldable pub head_point : Params → Phase → (key nonce header : List ℕ) → Point
head_point p phase key nonce header = block_point p 0 (absorb_block p) phase (initialise p key nonce) header

unfoldable pub data_point : Params → Direction → (key nonce header body : List ℕ) → Point
data_point p d key nonce header body =
    block_point p (keep p (Data d)) (message_block p (plain_of p (Data d))) (Data d) (prepared p key nonce header) body

abbrev pub point_in : Params → Phase → (key nonce header body : List ℕ) → Point
point_in p Uninitialized key nonce header body = no_message
point_in p (Init d) key nonce header body = head_point p (Init d) key nonce header
point_in p (Aad d) key nonce header body = head_point p (Aad d) key nonce header
point_in p (Data d) key nonce header body = data_point p d key nonce header body
point_in p (Final d) key nonce header body = final_point d

abbrev pub initial_in : Params → Phase → (key nonce initial : List ℕ) → Point
initial_in p Uninitialized key nonce initial = no_message
initial_in p (Init d) key nonce initial = head_point p (header_phase d initial) key nonce initial
initial_in p (Aad d) key nonce initial = head_point p (header_phase d initial) key nonce initial
initial_in p (Data d) key nonce initial = head_point p (header_phase d initial) key nonce initial
initial_in p (Final d) key nonce initial = head_point p (header_phase d initial) key nonce initial

-- What the engine remembers of the loads, listed from the last one back.
abbrev pub pair_in : List Load → Pair
pair_in [] = no_pair
pair_in (l ∷ loads) = remember (pair_in loads) l.key l.nonce

-- The engine with a tag and steps, of which nothing is said here.
abbrev pub engine_of : SparkleVariant → Reader → Mac → Steps → SparkleEngine
engine_of v r mac s =
    record {
      variant = v;
      current = point_in (params_of v) r.phase (loaded_key r) (loaded_nonce r) r.header r.body;
      initial = initial_in (params_of v) r.phase (loaded_key r) (loaded_nonce r) r.initial;
      pair = pair_in r.loads;
      mac = mac;
      steps = s;
    }

-- ---- What holds in a phase

-- A sealing in Final was reset or has ended.
pub data SealingFinal (p : Params) (key nonce header body : List ℕ) (mac : Mac) : Type 0 where
  was-reset : mac ≡ no_mac → SealingFinal p key nonce header body mac
  has_ended : mac ≡ readable (tag p key nonce header body) → SealingFinal p key nonce header body mac

-- The tag that can be read after an opening's end.
unfoldable pub opened_mac : Params → (key nonce header packet : List ℕ) → Mac
opened_mac p key nonce header packet =
    cond (verified p key nonce header packet)
    (readable (tag p key nonce header (decrypt p key nonce header (body_of p packet)))) no_mac

-- There is a load.
abbrev pub is_loaded : List Load → Bool
is_loaded [] = false
is_loaded (l ∷ loads) = true

abbrev pub PhaseInvariant : Params → Phase → List Load → (header body : List ℕ) → Mac → Type 0
PhaseInvariant p Uninitialized loads header body mac = mac ≡ no_mac
PhaseInvariant p (Init d) loads header body mac =
    (is_loaded loads ≡ true) × (mac ≡ no_mac) × (header ≡ []) × (body ≡ [])
PhaseInvariant p (Aad d) loads header body mac =
    (is_loaded loads ≡ true) × (mac ≡ no_mac) × (0 < length header) × (body ≡ [])
PhaseInvariant p (Data d) loads header body mac = (is_loaded loads ≡ true) × (mac ≡ no_mac)
PhaseInvariant p (Final Encrypt) loads header body mac =
    (is_loaded loads ≡ true) × SealingFinal p (last_key loads) (last_nonce loads) header body mac
PhaseInvariant p (Final Decrypt) loads header body mac =
    (is_loaded loads ≡ true) × (mac ≡ opened_mac p (last_key loads) (last_nonce loads) header body) × (p.key ≤ length body)

-- the sizes of a loaded pair
pub record Fits (p : Params) (key nonce : List ℕ) : Type 0 where
  pub key_fits : length key ≡ p.key
  pub nonce-fits : length nonce ≡ p.rate

-- the loads: no more than are kept, each with these sizes
abbrev pub AllFit : Params → List Load → Type 0
AllFit p [] = Unit {0}
AllFit p (l ∷ loads) = Fits p l.key l.nonce × AllFit p loads

pub record LoadsFit (p : Params) (loads : List Load) : Type 0 where
  pub at_most : length loads ≤ loads_kept
  pub all_fit : AllFit p loads

pub record Invariant (v : SparkleVariant) (e : SparkleEngine) (r : Reader) : Type 0 where
  pub mac : Mac
  pub steps : Steps
  pub same-engine : e ≡ engine_of v r mac steps
  pub loads_fit : LoadsFit (params_of v) r.loads
  pub phase_invariant : PhaseInvariant (params_of v) r.phase r.loads r.header r.body mac

pub invariant_new : (v : SparkleVariant) → Invariant v (new_engine v) new_reader
unfolding new_engine
invariant_new v =
    record {
      mac = no_mac;
      steps = no_steps;
      same-engine = refl;
      loads_fit = record { at_most = omega arith; all_fit = tt };
      phase_invariant = refl;
    }

-- ---- The parts of a call

module _ (p : Params) (h : Sizes p) (m : Small p) where
  -- the header
  module _ (key nonce : List ℕ) where
    start-length : length (initialise p key nonce) ≡ state_length p
    start-length = length-initialise p h key nonce

    absorbed : (s b : List ℕ) → length s ≡ state_length p → length (absorb_block p s b) ≡ state_length p
    absorbed s b hs = length-absorb_block p h s b

    start-head : (d : Direction) → start_point p d key nonce ≡ head_point p (Init d) key nonce []
    unfolding start_point head_point
    start-head d = sym (block_point_nil p 0 (absorb_block p) (Init d) (initialise p key nonce))

    pub holds-init : (d : Direction) → buffered p (head_point p (Init d) key nonce []) ≡ held p.rate 0 []
    unfolding buffered head_point block_point
    holds-init d = sym (held_nil p.rate 0)

    pub holds_aad : (d : Direction) (header : List ℕ) → buffered p (head_point p (Aad d) key nonce header)
        ≡ held p.rate 0 header
    unfolding head_point
    holds_aad d header = buffered_aad p h m (absorb_block p) d (initialise p key nonce) header

    -- more header, where it is not empty
    module _ (phase : Phase) (header : List ℕ)
        (holds : buffered p (head_point p phase key nonce header) ≡ held p.rate 0 header)
        (d : Direction) (x : ℕ) (input : List ℕ) where
      pub head-point : absorb_header p d (head_point p phase key nonce header) (x ∷ input)
          ≡ head_point p (Aad d) key nonce (header ++ (x ∷ input))
      unfolding absorb_header head_point
      head-point =
          streamed-point p h m 0 (absorb_block p) absorbed phase (initialise p key nonce) header start-length holds (x ∷ input)
          (Aad d)

      -- the blocks that go
      pub head-runs : header_steps p (head_point p phase key nonce header) (x ∷ input)
          ≡ ready p.rate 0 (length (held p.rate 0 header ++ (x ∷ input))) * p.slim
      unfolding header_steps head_point
      head-runs =
          ap (λ (n : ℕ). n * p.slim)
          (block_count-point p h m 0 (absorb_block p) absorbed phase (initialise p key nonce) header start-length holds (x ∷ input))

    -- the header of a start
    pub started-point : (d : Direction) (header : List ℕ)
        → absorb_header p d (start_point p d key nonce) header ≡ head_point p (header_phase d header) key nonce header
    unfolding absorb_header
    started-point d [] = start-head d
    started-point d (x ∷ header) =
        ap (λ (at : Point). absorb_header p d at (x ∷ header)) (start-head d) ∙ head-point (Init d) [] (holds-init d) d x header

    -- the header ends
    pub begin_point_init : (d : Direction)
        → ◌≡◌ {A = Point}
        (record { phase = Data d; words = (head_point p (Init d) key nonce []).words; buffer = zeros 64; held = 0 })
        (data_point p d key nonce [] [])
    unfolding head_point data_point prepared absorb if_empty
    begin_point_init d =
        ap (λ (at : Point). record { phase = Data d; words = at.words; buffer = zeros 64; held = 0 })
        (block_point_nil p 0 (absorb_block p) (Init d) (initialise p key nonce))
        ∙ sym (block_point_nil p (keep p (Data d)) (message_block p (plain_of p (Data d))) (Data d) (initialise p key nonce))

    begin_words : (d : Direction) (header : List ℕ) → 0 < length header
        → put_state p (head_point p (Aad d) key nonce header).words
        (mix_last p 0 (state_in p (head_point p (Aad d) key nonce header).words)
        (buffered p (head_point p (Aad d) key nonce header)))
        ≡ in_array 16 (prepared p key nonce header)
    unfolding head_point prepared absorb if_empty leading held
    begin_words d [] some = absurd (omega arith)
    begin_words d (x ∷ header) some =
        let a : List ℕ = x ∷ header in
        ap₂ (λ (s b : List ℕ). put_state p (head_point p (Aad d) key nonce a).words (mix_last p 0 s b))
        (state-point p h m 0 (absorb_block p) absorbed (Aad d) (initialise p key nonce) a start-length (holds_aad d a) [])
        (holds_aad d a)
        ∙ put_point p h m 0 (absorb_block p) absorbed (Aad d) (initialise p key nonce) a start-length (holds_aad d a) []
        _ (length-mix_last p h 0 _ _)

    pub begin_point_aad : (d : Direction) (header : List ℕ) → 0 < length header
        → ◌≡◌ {A = Point}
        (record {
          phase = Data d;
          words =
              put_state p (head_point p (Aad d) key nonce header).words
              (mix_last p 0 (state_in p (head_point p (Aad d) key nonce header).words)
              (buffered p (head_point p (Aad d) key nonce header)));
          buffer = zeros 64;
          held = 0;
        })
        (data_point p d key nonce header [])
    unfolding data_point
    begin_point_aad d header some =
        ap (λ (w : List ℕ). record { phase = Data d; words = w; buffer = zeros 64; held = 0 }) (begin_words d header some)
        ∙ sym (block_point_nil p (keep p (Data d)) (message_block p (plain_of p (Data d))) (Data d)
        (prepared p key nonce header))

  -- the data
  module _ (d : Direction) (key nonce header : List ℕ) where
    prepared-state : length (prepared p key nonce header) ≡ state_length p
    prepared-state = length-prepared p h key nonce header

    taken : (s b : List ℕ) → length s ≡ state_length p → length (message_block p (plain_of p (Data d)) s b) ≡ state_length p
    taken s b hs = length-message_block p h (plain_of p (Data d)) s b

    module _ (body : List ℕ) where
      pub holds-data : buffered p (data_point p d key nonce header body) ≡ held p.rate (keep p (Data d)) body
      unfolding data_point
      holds-data = buffered-data p h m (message_block p (plain_of p (Data d))) d (prepared p key nonce header) body

      pub state-data : state_in p (data_point p d key nonce header body).words
          ≡ after p.rate (message_block p (plain_of p (Data d))) (ready p.rate (keep p (Data d)) (length body))
          (prepared p key nonce header) body
      unfolding data_point
      state-data =
          state-point p h m (keep p (Data d)) (message_block p (plain_of p (Data d))) taken (Data d)
          (prepared p key nonce header) body
          prepared-state holds-data []

      module _ (input : List ℕ) where
        pub data-point : streamed p (keep p (Data d)) (message_block p (plain_of p (Data d))) (Data d)
            (data_point p d key nonce header body) input
            ≡ data_point p d key nonce header (body ++ input)
        unfolding data_point
        data-point =
            streamed-point p h m (keep p (Data d)) (message_block p (plain_of p (Data d))) taken (Data d)
            (prepared p key nonce header) body
            prepared-state holds-data input (Data d)

        -- what is given for the data so far, and for these bytes
        pub data-given : (out : List ℕ → List ℕ → List ℕ)
            → given p.rate (message_block p (plain_of p (Data d))) out (ready p.rate (keep p (Data d)) (length body))
            (prepared p key nonce header) body
            ++ given p.rate (message_block p (plain_of p (Data d))) out
            (block_count p (keep p (Data d)) (data_point p d key nonce header body) input)
            (state_in p (data_point p d key nonce header body).words) (stream p (data_point p d key nonce header body) input)
            ≡ given p.rate (message_block p (plain_of p (Data d))) out
            (ready p.rate (keep p (Data d)) (length (body ++ input)))
            (prepared p key nonce header) (body ++ input)
        unfolding data_point
        data-given =
            given-point p h m (keep p (Data d)) (message_block p (plain_of p (Data d))) taken (Data d)
            (prepared p key nonce header) body
            prepared-state holds-data input

        -- the blocks that go
        pub data_blocks : block_count p (keep p (Data d)) (data_point p d key nonce header body) input
            ≡ ready p.rate (keep p (Data d)) (length (held p.rate (keep p (Data d)) body ++ input))
        unfolding data_point
        data_blocks =
            block_count-point p h m (keep p (Data d)) (message_block p (plain_of p (Data d))) taken (Data d)
            (prepared p key nonce header) body
            prepared-state holds-data input

-- ---- The loads

-- the loads after one more, and the last of them
take-fits : (p : Params) (n : ℕ) (loads : List Load) → AllFit p loads → AllFit p (take n loads)
take-fits p zero loads f = tt
take-fits p (suc n) [] f = tt
take-fits p (suc n) (l ∷ loads) f = (f.0, take-fits p n loads f.1)

pub load_fits : (p : Params) (loads : List Load) (key nonce : List ℕ) → LoadsFit p loads → Fits p key nonce
    → LoadsFit p (after_load loads key nonce)
load_fits p loads key nonce f g =
    let l : Load = record { key = key; nonce = nonce } in
    record {
      at_most = omega (arith, length-take loads_kept (l ∷ loads));
      all_fit = take-fits p loads_kept (l ∷ loads) (g, f.all_fit);
    }

pub last_fits : (p : Params) (loads : List Load) → LoadsFit p loads → is_loaded loads ≡ true
    → Fits p (last_key loads) (last_nonce loads)
last_fits p [] f l = absurd (let z : ◌≡◌ {A = ℕ} 0 1 = cc in omega arith)
last_fits p (x ∷ loads) f l = f.all_fit.0

-- what the engine remembers: one load more, the loaded key, and what is repeated
pub pair-load : (loads : List Load) (key nonce : List ℕ) → remember (pair_in loads) key nonce ≡ pair_in (after_load loads key nonce)
unfolding remember
pair-load loads key nonce = refl

pub key_back : (p : Params) → Small p → (loads : List Load) → LoadsFit p loads → is_loaded loads ≡ true
    → current_key p (pair_in loads) ≡ last_key loads
unfolding current_key remember
key_back p m [] f l = absurd (let z : ◌≡◌ {A = ℕ} 0 1 = cc in omega arith)
key_back p m (x ∷ loads) f l = all-in_array p.key 32 x.key f.all_fit.0.key_fits m.key

pub repeats_agree : (p : Params) → Small p → (loads : List Load) → LoadsFit p loads → (key nonce : List ℕ)
    → repeats p (pair_in loads) key nonce ≡ is_among loads key nonce
unfolding repeats no_pair remember
repeats_agree p m [] f key nonce = refl
repeats_agree p m (x ∷ []) f key nonce =
    let g = f.all_fit.0 in
    rw (
      all-in_array p.key 32 x.key g.key_fits m.key,
      all-in_array p.rate 32 x.nonce g.nonce-fits m.rate,
    )
    (grind arith)
repeats_agree p m (x ∷ (y ∷ loads)) f key nonce = absurd (omega (arith, f.at_most))

-- ---- The checks agree

-- what the reader holds
abbrev pub point_held : Params → (body : List ℕ) → Phase → ℕ
point_held p body phase = length body - ready p.rate (keep p phase) (length body) * p.rate

module _ (p : Params) (key nonce header body : List ℕ) where
  -- the engine holds as much, where it counts
  pub held_agrees : (d : Direction) → (data_point p d key nonce header body).held ≡ point_held p body (Data d)
  unfolding data_point block_point
  held_agrees d = length-held p.rate (keep p (Data d)) body

  pub data_agrees : (phase : Phase) (n a : ℕ)
      → data_check p phase (point_in p phase key nonce header body).held n a ≡ data_check p phase (point_held p body phase) n a
  unfolding data_check update_len
  data_agrees Uninitialized n a = refl
  data_agrees (Init d) n a = refl
  data_agrees (Aad d) n a = refl
  data_agrees (Data d) n a = ap (λ (k : ℕ). data_check p (Data d) k n a) (held_agrees d)
  data_agrees (Final d) n a = refl

  pub update_agrees : (phase : Phase) (n : ℕ)
      → update_len p phase (point_in p phase key nonce header body).held n ≡ update_len p phase (point_held p body phase) n
  unfolding update_len
  update_agrees Uninitialized n = refl
  update_agrees (Init d) n = refl
  update_agrees (Aad d) n = refl
  update_agrees (Data d) n = ap (λ (k : ℕ). update_len p (Data d) k n) (held_agrees d)
  update_agrees (Final d) n = refl

  pub total_agrees : (phase : Phase) (n : ℕ)
      → total_len p phase (point_in p phase key nonce header body).held n ≡ total_len p phase (point_held p body phase) n
  unfolding total_len
  total_agrees Uninitialized n = refl
  total_agrees (Init d) n = refl
  total_agrees (Aad d) n = refl
  total_agrees (Data d) n = ap (λ (k : ℕ). total_len p (Data d) k n) (held_agrees d)
  total_agrees (Final d) n = refl

  pub end_agrees : (phase : Phase) (a : ℕ)
      → end_check p phase (point_in p phase key nonce header body).held a ≡ end_check p phase (point_held p body phase) a
  unfolding end_check total_len
  end_agrees Uninitialized a = refl
  end_agrees (Init d) a = refl
  end_agrees (Aad d) a = refl
  end_agrees (Data d) a = ap (λ (k : ℕ). end_check p (Data d) k a) (held_agrees d)
  end_agrees (Final d) a = refl

  pub phase_agrees : (phase : Phase) → (point_in p phase key nonce header body).phase ≡ phase
  unfolding head_point data_point block_point no_message final_point
  phase_agrees Uninitialized = refl
  phase_agrees (Init d) = refl
  phase_agrees (Aad d) = refl
  phase_agrees (Data d) = refl
  phase_agrees (Final d) = refl

-- ---- What a passed check says

pub then_good : (x : Result ℕ AeadError) (g : ℕ → Result ℕ AeadError) (k : ℕ) → then x g ≡ Ok k → (j : ℕ) × (x ≡ Ok j) × (g j ≡ Ok k)
then_good (Ok j) g k e = (j, refl, e)
then_good (Err x) g k e = absurd (let z : ◌≡◌ {A = ℕ} 0 1 = cc in omega arith)

whole_good : (p : Params) (held n k : ℕ) (b : Bool) → ltb held p.key ≡ b
    → ◌≡◌ {A = Result ℕ AeadError} (cond b (Err (CiphertextTooShort p.key held)) (Ok n)) (Ok k) → p.key ≤ held
whole_good p held n k true t e = absurd (let z : ◌≡◌ {A = ℕ} 0 1 = cc in omega arith)
whole_good p held n k false t e = ltb-false held p.key t

-- an opening that passes an end's checks holds a tag's bytes
pub end_enough : (p : Params) (phase : Phase) (held a k : ℕ) → opening phase ≡ true → end_check p phase held a ≡ Ok k
    → p.key ≤ held_data p phase held
unfolding end_check
end_enough p phase held a k o e =
    let s1 = then_good (phase_check phase) (λ _. then (then (total_len p phase held 0) (room a)) (whole p phase held)) k e in
    let s2 = then_good (then (total_len p phase held 0) (room a)) (whole p phase held) k s1.2 in
    let h = held_data p phase held in
    let n = s2.0 in
    whole_good p h n k (ltb h p.key) refl
    (ap (λ (b : Bool). cond b (cond (ltb h p.key) (Err (CiphertextTooShort p.key h)) (Ok n)) (Ok n)) (sym o) ∙ s2.2)
