-- What is left of a table's entries at turn i of a loop over them.
use Prim.Native.Nat.{ℕ, ◌+◌, ◌≤◌, ◌<◌}
use mathlib.Core.Path.{◌≡◌, ap, ◌∙◌}
use mathlib.Core.Bool.{false, not, ◌||◌}
use mathlib.Core.List.{List, ◌∷◌}
use native.Mathlib.Omega.{arith}
use native.Mathlib.Numerals.{add-one}
use lib.Dec.{eqb}
use lib.ListN.{length, get_or, take, drop}
use lib.Seq.{drop-cons, length-take-le, get_or-take}
use borrow.Author.Tests.{eq-eqb, ne_eqb}
use Rattle.scans.specs.Entries.{among}

pub left_next : (l : List ℕ) (i : ℕ) → i < length l → drop i l ≡ get_or l i 0 ∷ drop (i + 1) l
left_next l i h = rw (add-one, drop-cons l i 0)

-- the same for the first n entries
pub first_next : (n : ℕ) (l : List ℕ) (i : ℕ) → i < n → n ≤ length l → drop i (take n l) ≡ get_or l i 0 ∷ drop (i + 1) (take n l)
first_next n l i h k =
    left_next (take n l) i (omega (arith, length-take-le n l k)) ∙ ap (λ (x : ℕ). x ∷ drop (i + 1) (take n l)) (get_or-take n l i 0 h)

-- entry j is a later one that is equal to entry i, and all after i have the answer of those from j on
pub apart_not : (n : ℕ) (l : List ℕ) (i j : ℕ) → n ≤ length l → i < n → (get_or l i 0 ≡ 0 → ⊥)
    → among (get_or l i 0) (drop (i + 1) (take n l)) ≡ among (get_or l i 0) (drop j (take n l)) → j < n → get_or l j 0 ≡ get_or l i 0
    → false ≡ (eqb (get_or (take n l) i 0) 0 || not (among (get_or (take n l) i 0) (drop (i + 1) (take n l))))
apart_not n l i j h b z e k q = rw (get_or-take n l i 0 b, ne_eqb (get_or l i 0) 0 z, e, first_next n l j k h, eq-eqb (get_or l j 0) (get_or l i 0) q)
