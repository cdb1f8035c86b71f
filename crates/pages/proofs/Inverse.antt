-- A chunk divided by the columns: multiplied by an inverse and shifted. There are few columns and chunks, so it is computed for each.
use Prim.Native.Nat.{ℕ, zero, suc, ◌*◌, ◌/◌, ◌≤◌, ◌<◌}
use mathlib.Core.Path.{◌≡◌, refl}
use mathlib.Core.Bool.{Bool, true}
use native.Mathlib.Omega.{arith}
use lib.Dec.{eqb}
use borrow.Author.Tests.{eqb-true}
use Rattle.terms.specs.Measures.{most_columns, most_chunks}
use Rattle.facts.specs.Facts.{each}
use Rattle.pages.specs.Inverse.{inverse_scale, inverse_of}
use Rattle.facts.proofs.Each.{each_tells}

abbrev is_exact : ℕ → ℕ → Bool
is_exact c p = eqb (p * inverse_of (suc c) / inverse_scale) (p / suc c)

all_exact : each most_columns (λ c. each most_chunks (is_exact c)) ≡ true
unfolding each
all_exact = refl

pub exact : (c p : ℕ) → 1 ≤ c → c ≤ most_columns → p < most_chunks → p * inverse_of c / inverse_scale ≡ p / c
exact zero p h k l = absurd (omega arith)
exact (suc c) p h k l = eqb-true _ _ (each_tells (is_exact c) most_chunks (each_tells (λ c. each most_chunks (is_exact c)) most_columns all_exact c (omega arith)) p l)
