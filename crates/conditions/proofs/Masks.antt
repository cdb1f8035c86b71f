-- A mask of columns.
use Prim.Native.Nat.{ℕ, ◌/◌, ◌^◌, ◌≤◌, ◌<◌}
use mathlib.Core.Path.{◌≡◌, refl}
use mathlib.Core.Bool.{Bool, true, false, not, ◌||◌}
use native.Mathlib.Omega.{arith}
use native.Mathlib.Nat.{div-eq_of_lt, div-eq-sub-div}
use lib.Dec.{eqb, leb}
use lib.Pow.{pow_pos}
use borrow.Author.Tests.{leb-true, leb-false, ne_eqb}

-- shifted right by the column count, what is left of it are the bits at or above
pub high_bits : (mask columns : ℕ) → (mask ≡ 0 → ⊥) → not (eqb (mask / 2 ^ columns) 0) ≡ (eqb mask 0 || leb (2 ^ columns) mask)
high_bits mask columns n = rw (ne_eqb mask 0 n) (go (leb (2 ^ columns) mask) refl)
  where
    some : 0 < 2 ^ columns
    some = pow_pos columns

    go : (b : Bool) → leb (2 ^ columns) mask ≡ b → not (eqb (mask / 2 ^ columns) 0) ≡ b
    go true e =
        let h : 2 ^ columns ≤ mask = leb-true (2 ^ columns) mask e in
        rw (ne_eqb (mask / 2 ^ columns) 0 (λ q. omega (arith, div-eq-sub-div {m = 2 ^ columns} {n = mask} some h)))
    go false e = rw (div-eq_of_lt (leb-false (2 ^ columns) mask e))
