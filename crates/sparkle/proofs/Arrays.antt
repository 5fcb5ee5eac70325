-- What owning an array of words tells: each of its elements is below 2^32.
use Rattle.std.proofs.Common.{ℕ, List, w32}
use mir.Val.{Val}
use denote.Array.{each}
use denote.Plain.{UInt}
use denote.Shadow.{shadow}
use borrow.Author.Rules.{elem_Fits}
use Rattle.sparkle.specs.Words.{Words}
use Rattle.sparkle.proofs.Below.{below_of}

pub array-words : (w : List ℕ) (us : List Val) → shadow (each ℕ (UInt w32).own_val w us) → Words w
array-words w us p = below_of w (λ i. (elem_Fits w32 w32 w us i p tt).fits)
