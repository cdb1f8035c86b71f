-- A run of stores behind another is one run.
use Prim.Native.Nat.{ℕ, suc, ◌+◌}
use mathlib.Core.Path.{◌≡◌, ap, ◌∙◌}
use mathlib.Core.List.{List, [], ◌∷◌, ◌++◌}
use native.Mathlib.Omega.{arith}
use lib.ListN.{length, set}
use lib.Seq.{sets}

pub sets_append : (s t l : List ℕ) (i : ℕ) → sets (sets l i s) (i + length s) t ≡ sets l i (s ++ t)
sets_append [] t l i = ap (λ (k : ℕ). sets l k t) (omega arith)
sets_append (a ∷ s) t l i =
    ap (λ (k : ℕ). sets (sets (set l i a) (suc i) s) k t) (omega arith) ∙ sets_append s t (set l i a) (suc i)
