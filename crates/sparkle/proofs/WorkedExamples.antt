-- The lines marked P of document 01, "Worked by hand", that speak of words.
use Rattle.std.proofs.Common.{◌≡◌, refl}
use Rattle.sparkle.specs.Words.{rotr, ell}

pub ell_of_one : ell 1 ≡ 65537
unfolding ell rotr
ell_of_one = refl

pub ell_of_two_halves : ell 0x00010002 ≡ 0x00020003
unfolding ell rotr
ell_of_two_halves = refl
