-- The characters of a signed number are those of its magnitude, behind its sign.
use mathlib.Core.Path.{◌≡◌, refl}
use mathlib.Core.Bool.{true, false}
use mathlib.Core.List.{◌++◌}
use native.Mathlib.Omega.{arith}
use lib.IntN.{ℤ, pos, negsuc, nat_abs}
use lib.Signed.{lt_z}
use mir.Syntax.{w32, w64}
use mir.Val.{SFits, of_z, to_z}
use mir.ValLaws.{to_z-of_z}
use borrow.Author.Tests.{ltb-true}
use Rattle.decimal.specs.Decimal.{text, decimal, signed}

pub shown : (z : ℤ) → lt_z z (pos 0) ≡ false → decimal (nat_abs z) ≡ signed z
unfolding signed
shown (pos n) h = refl
shown (negsuc n) h = cc

pub shown_below : (z : ℤ) → lt_z z (pos 0) ≡ true → text "-" ++ decimal (nat_abs z) ≡ signed z
unfolding signed
shown_below (pos n) h = absurd (omega (arith, ltb-true n 0 h))
shown_below (negsuc n) h = refl

-- ---- a number of 32 bits is one of 64
pub wide : (z : ℤ) → SFits w32 z → SFits w64 z
wide z f = record { sfits = omega (arith, f.sfits) }

-- as the code reads it
pub wider : (z : ℤ) → SFits w32 z → SFits w64 (to_z w32 (of_z w32 z))
wider z f = rw (to_z-of_z w32 z f) (wide z f)
