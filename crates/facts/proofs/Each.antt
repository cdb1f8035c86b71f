-- What `each` says: what a raised flag tells of each index.
use Prim.Native.Nat.{ℕ, zero, suc, ◌+◌, ◌≤◌, ◌<◌}
use mathlib.Core.Path.{◌≡◌, refl, sym, ◌∙◌}
use mathlib.Core.Bool.{Bool, true, false, ◌&&◌}
use mathlib.Core.List.{List, [], ◌∷◌}
use mathlib.Core.Logic.{⊎_elim}
use native.Mathlib.Omega.{arith}
use native.Mathlib.Nat.{eq-or-lt_of_le, le_of_suc-le-suc}
use lib.Dec.{eqb}
use lib.ListN.{length, get_or}
use borrow.Author.Tests.{ne_eqb, le-leb}
use Rattle.terms.specs.Measures.{between}
use Rattle.loops.specs.Search.{region, all_between}
use Rattle.loops.proofs.Search.{and_true, and_false, all_tells}
use Rattle.loops.proofs.Region.{region_at, region_length}
use Rattle.facts.specs.Facts.{each}

-- ---- what a raised flag tells
module _ (f : ℕ → Bool) where
  pub each_tells : (n : ℕ) → each n f ≡ true → (i : ℕ) → i < n → f i ≡ true
  unfolding each
  each_tells zero e i h = absurd (omega arith)
  each_tells (suc n) e i h =
      ⊎_elim
      (λ p. rw p (and_true (each n f) (f n) e).1)
      (λ l. each_tells n (and_true (each n f) (f n) e).0 i l)
      (eq-or-lt_of_le (le_of_suc-le-suc h))

  pub each_true : (n : ℕ) → ((i : ℕ) → i < n → f i ≡ true) → each n f ≡ true
  unfolding each
  each_true zero h = refl
  each_true (suc n) h = rw (each_true n (λ i l. h i (omega arith)), h n (omega arith))

  pub each_nothing : (n : ℕ) → ((i : ℕ) → i < n → f i ≡ false) → each n f ≡ eqb n 0
  unfolding each
  each_nothing zero h = refl
  each_nothing (suc n) h = rw (h n (omega arith)) (and_false (each n f) ∙ sym (ne_eqb (suc n) 0 (λ e. omega arith)))

and_swap : (a b c d : Bool) → ((a && b) && (c && d)) ≡ ((a && c) && (b && d))
and_swap true true c d = refl
and_swap true false c d = sym (and_false c)
and_swap false b c d = refl

-- two facts of each number
pub each_both : (f h : ℕ → Bool) (n : ℕ) → each n (λ i. f i && h i) ≡ (each n f && each n h)
unfolding each
each_both f h zero = refl
each_both f h (suc n) = rw (each_both f h n) (and_swap (each n f) (each n h) (f n) (h n))

-- ---- a fact of each number below n that two bounds of a word tell

pub same : (a b : Bool) → (a ≡ true → b ≡ true) → (b ≡ true → a ≡ true) → a ≡ b
same true b h k = sym (h refl)
same false true h k = k refl
same false false h k = refl

all_true : (low high : ℕ) (l : List ℕ) → ((i : ℕ) → i < length l → between low high (get_or l i 0) ≡ true) → all_between low high l ≡ true
all_true low high [] h = refl
all_true low high (x ∷ l) h = rw (h 0 (omega arith), all_true low high l (λ i k. h (suc i) (omega arith)))

pub each_between : (l : List ℕ) (at n low high : ℕ) (f : ℕ → Bool) → at + n ≤ length l → ((i : ℕ) → i < n → f i ≡ between low high (get_or l (at + i) 0))
    → each n f ≡ all_between low high (region l at n)
each_between l at n low high f h k =
    let long = region_length l at n h in
    same (each n f) (all_between low high (region l at n))
    (λ e. all_true low high (region l at n) (λ i q. let j : i < n = omega arith in rw (region_at l at n i j) (sym (k i j) ∙ each_tells f n e i j)))
    (λ e.
    each_true f n
    (λ i j.
    let t = rw (region_at l at n i j) at (all_tells low high (region l at n) e i (omega arith)) in
    k i j ∙ rw (le-leb _ _ t.0, le-leb _ _ t.1)))
