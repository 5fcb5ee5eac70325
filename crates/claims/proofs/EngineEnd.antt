-- What an end makes of an engine in Data: a message's definitions at the engine's variant, pair and point.
use mathlib.Core.Bool.{Bool}
use mathlib.Core.List.{List}
use Prim.Native.Nat.{ℕ}
use Rattle.tc_aead_cipher.specs.Variant.{params_of}
use Rattle.tc_sparkle_aead.specs.declared.engine.SparkleEngine.{SparkleEngine}
use Rattle.tc_sparkle_aead.specs.Message.{seal_out, open_block, open_last, tag_matches}
use Rattle.tc_sparkle_aead.specs.Engine.{current_key}

-- What a sealing writes; the held ciphertext of an opening and what it becomes; whether the received tag is right.
abbrev pub seal_bytes : SparkleEngine → List ℕ
seal_bytes e = seal_out (params_of e.variant) (current_key (params_of e.variant) e.pair) e.current

abbrev pub ciphertext : SparkleEngine → List ℕ
ciphertext e = open_block (params_of e.variant) e.current

abbrev pub open_bytes : SparkleEngine → List ℕ
open_bytes e = open_last (params_of e.variant) e.current

abbrev pub tag_right : SparkleEngine → Bool
tag_right e = tag_matches (params_of e.variant) (current_key (params_of e.variant) e.pair) e.current
