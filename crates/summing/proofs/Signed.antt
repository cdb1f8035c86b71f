-- Bounds of signed sums: the size of a sum is at most that of its terms, and a word's number has a size of at most 2 ^ 31.
use Prim.Native.Nat.{ℕ, suc, ◌+◌, ◌-◌, ◌^◌, ◌≤◌}
use mathlib.Core.Path.{◌≡◌, refl}
use mathlib.Core.Bool.{Bool, true, false, cond}
use native.Mathlib.Omega.{arith}
use lib.Dec.{ltb}
use lib.IntN.{ℤ, pos, negsuc, nat_abs, sub_ℕ, ◌+ℤ◌}
use borrow.Author.Tests.{ltb-true, ltb-false}
use mir.Syntax.{w32, w64}
use mir.Val.{SFits, of_z, to_z, sel}
use mir.ValLaws.{to_z-of_z}

sub_size : (a b : ℕ) → nat_abs (sub_ℕ a b) ≤ a + b
sub_size a b = go (ltb a b) refl
  where
    go : (x : Bool) → ltb a b ≡ x → nat_abs (cond x (negsuc (b - suc a)) (pos (a - b))) ≤ a + b
    go true q = omega (arith, ltb-true a b q)
    go false q = omega arith

-- the size of a sum is at most that of its terms
pub sum_size : (x y : ℤ) → nat_abs (x +ℤ y) ≤ nat_abs x + nat_abs y
sum_size (pos a) (pos b) = omega arith
sum_size (pos a) (negsuc b) = sub_size a (suc b)
sum_size (negsuc a) (pos b) = omega (arith, sub_size b (suc a))
sum_size (negsuc a) (negsuc b) = omega arith

-- the signed number of a word has a size of at most 2 ^ 31
pub word_size : (w : ℕ) → nat_abs (to_z w32 w) ≤ 2147483648
word_size w = go (ltb w 2147483648) refl
  where
    go : (x : Bool) → ltb w 2147483648 ≡ x → nat_abs (sel x (pos w) (negsuc (4294967296 - suc w))) ≤ 2147483648
    go true q = omega (arith, ltb-true w 2147483648 q)
    go false q = omega (arith, ltb-false w 2147483648 q)

-- a number of a size up to 2 ^ 62 and 2 ^ 32 more is one of 64 bits
pub size_fits : (z : ℤ) → nat_abs z ≤ 2 ^ 62 + 2 ^ 32 → SFits w64 z
size_fits (pos n) h = record { sfits = omega arith }
size_fits (negsuc n) h = record { sfits = omega arith }

fits_size : (z : ℤ) → SFits w32 z → nat_abs z ≤ 2147483648
fits_size (pos n) f = omega (arith, f.sfits)
fits_size (negsuc n) f = omega (arith, f.sfits)

-- ---- what `total + w as i64` asks and computes to
module _ (total w : ℤ) (f : SFits w64 total) (g : SFits w32 w) (h : nat_abs total ≤ 2 ^ 62) where
  wide : SFits w64 w
  wide = size_fits w (omega (arith, fits_size w g))

  sum_fits : SFits w64 (total +ℤ w)
  sum_fits = size_fits (total +ℤ w) (omega (arith, sum_size total w, fits_size w g))

  -- the number of 32 bits is one of 64
  pub cast_fits : SFits w64 (to_z w32 (of_z w32 w))
  cast_fits = rw (to_z-of_z w32 w g) wide

  -- the sum does not overflow
  pub plus_fits : SFits w64 (to_z w64 (of_z w64 total) +ℤ to_z w64 (of_z w64 (to_z w32 (of_z w32 w))))
  plus_fits = rw (to_z-of_z w64 total f, to_z-of_z w32 w g, to_z-of_z w64 w wide) sum_fits

  -- and is that of the whole numbers
  pub plus_is : to_z w64 (of_z w64 (to_z w64 (of_z w64 total) +ℤ to_z w64 (of_z w64 (to_z w32 (of_z w32 w))))) ≡ total +ℤ w
  plus_is = rw (to_z-of_z w64 total f, to_z-of_z w32 w g, to_z-of_z w64 w wide) (to_z-of_z w64 (total +ℤ w) sum_fits)
