-- An array that a loop fills from a list, element by element: after i turns its first i elements are the list's.
use Rattle.std.proofs.Common.{◌≡◌, ℕ, suc, ◌+◌, ◌<◌, List, length, get_or, take, set, sym, ◌∙◌, arith, take_all, take-suc, take-suc-set}

module _ {A : Type 0} where
  pub take_next : (d : A) (l vs : List A) (i : ℕ) (x : A) → x ≡ get_or vs i d → take i l ≡ take i vs → i < length l → i < length vs
      → take (i + 1) (set l i x) ≡ take (i + 1) vs
  take_next d l vs i x e q h k =
      let one : i + 1 ≡ suc i = omega arith in
      rw (one, take-suc-set l i x h, take-suc vs i d k, q, e)

  pub take_whole : (l vs : List A) (n : ℕ) → length l ≡ n → length vs ≡ n → take n l ≡ take n vs → l ≡ vs
  take_whole l vs n h k e = sym (take_all n l (omega arith)) ∙ e ∙ take_all n vs (omega arith)
