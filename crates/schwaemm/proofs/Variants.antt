-- The four variants meet the conditions under which the laws hold.
use native.Mathlib.Omega.{arith}
use Rattle.schwaemm.specs.Schwaemm.{Sizes, schwaemm128_128, schwaemm256_128, schwaemm192_192, schwaemm256_256}

pub sizes128_128 : Sizes schwaemm128_128
sizes128_128 = omega arith

pub sizes256_128 : Sizes schwaemm256_128
sizes256_128 = omega arith

pub sizes192_192 : Sizes schwaemm192_192
sizes192_192 = omega arith

pub sizes256_256 : Sizes schwaemm256_256
sizes256_256 = omega arith
