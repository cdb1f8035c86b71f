-- The values lent with a call: those that were lent, then zeros.
use Prim.Native.Nat.{ℕ, ◌+◌, ◌-◌, ◌<◌, ◌≤◌, min}
use mathlib.Core.Path.{◌≡◌, refl, ap, sym, ◌∙◌}
use mathlib.Core.Bool.{Bool, true, false}
use mathlib.Core.List.{List, ◌++◌, append-nil}
use native.Mathlib.Omega.{arith}
use lib.Dec.{ltb}
use lib.IntN.{ℤ, pos}
use lib.ListN.{length, get_or, replicate, take, drop, get_or-append, get_or-replicate, length-append}
use lib.Seq.{get_or-take, get_or-append-add, length-take-le}
use borrow.Author.Tests.{ltb-true, ltb-false}
use Rattle.std.proofs.lemmas.List.{take-append-le, take-replicate, drop-replicate, take_all}
use Rattle.std.proofs.Math.Seq.{take-append-add}
use Rattle.terms.specs.Measures.{most_columns}
use Rattle.calls.specs.Values.{padded}

abbrev zeros : List ℤ
zeros = replicate most_columns (pos 0)

-- a place that a value was lent for holds it
pub value_in : (vs : List ℤ) (i : ℕ) → i < most_columns → i < length vs → get_or (padded vs) i (pos 0) ≡ get_or vs i (pos 0)
unfolding padded
value_in vs i h k = get_or-take most_columns (vs ++ zeros) i (pos 0) h ∙ get_or-append vs zeros (pos 0) i k

-- one past them holds 0
pub value_past : (vs : List ℤ) (i : ℕ) → i < most_columns → length vs ≤ i → get_or (padded vs) i (pos 0) ≡ pos 0
unfolding padded
value_past vs i h k =
    let e : length vs + (i - length vs) ≡ i = omega arith in
    let l : i - length vs < most_columns = omega arith in
    get_or-take most_columns (vs ++ zeros) i (pos 0) h
    ∙ ap (λ (j : ℕ). get_or (vs ++ zeros) j (pos 0)) (sym e)
    ∙ get_or-append-add vs zeros (i - length vs) (pos 0)
    ∙ get_or-replicate most_columns (i - length vs) (pos 0) (pos 0) l

-- there are as many places as a store may have columns
pub padded_length : (vs : List ℤ) → length (padded vs) ≡ most_columns
unfolding padded
padded_length vs =
    let e : length (vs ++ zeros) ≡ length vs + most_columns = length-append vs zeros in
    length-take-le most_columns (vs ++ zeros) (omega (arith, e))

-- n values taken, and as many zeros as are left
pub padded_is : (vs : List ℤ) (n : ℕ) → n ≡ min (length vs) most_columns → take n vs ++ drop n zeros ≡ padded vs
unfolding padded
padded_is vs n e = go (ltb most_columns (length vs)) refl
  where
    go : (b : Bool) → ltb most_columns (length vs) ≡ b → take n vs ++ drop n zeros ≡ take most_columns (vs ++ zeros)
    go true q =
        let h = ltb-true most_columns (length vs) q in
        let k : n ≡ most_columns = omega arith in
        rw (k, append-nil (take most_columns vs), take-append-le most_columns vs zeros (omega arith))
    go false q =
        let h = ltb-false most_columns (length vs) q in
        let k : n ≡ length vs = omega arith in
        let w : most_columns ≡ length vs + (most_columns - length vs) = omega arith in
        rw (k, take_all (length vs) vs (omega arith), drop-replicate (length vs) most_columns (pos 0))
        (sym (ap (λ j. take j (vs ++ zeros)) w ∙ take-append-add vs zeros (most_columns - length vs) ∙ ap (λ l. vs ++ l) (take-replicate (most_columns - length vs) most_columns (pos 0) (omega arith))))
