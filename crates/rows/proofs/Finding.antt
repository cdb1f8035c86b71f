-- A search over the numbers below n finds the first that passes.
use Rattle.std.proofs.Common.{◌≡◌, ℕ, zero, suc, ◌+◌, ◌<◌, Bool, true, false, cond, ltb, refl, ◌∙◌, arith, lt-ltb, le-ltb, ltb-true}
use Rattle.std.specs.Prelude.{Option, Some, None}
use Rattle.std.specs.List.{range_with_len, find}
use Rattle.std.specs.Option.{option_map, unwrap_or}
use Rattle.loops.specs.Search.{found_at}
use Rattle.model.specs.Stored.{first_from}
use Rattle.rows.specs.Finders.{Inside}

from_here : (f : ℕ → Bool) (n i m : ℕ) → i + n ≡ m → find f (range_with_len i n) ≡ found_at m (first_from f n i)
from_here f zero i m e = rw (le-ltb i m (omega arith))
from_here f (suc n) i m e =
    let one : i + 1 ≡ suc i = omega arith in
    rw one (go (f i) (from_here f n (suc i) m (omega arith)))
  where
    go : (b : Bool) → find f (range_with_len (suc i) n) ≡ found_at m (first_from f n (suc i))
        → cond b (Some i) (find f (range_with_len (suc i) n)) ≡ found_at m (cond b i (first_from f n (suc i)))
    go true q = rw (lt-ltb i m (omega arith))
    go false q = q

pub found_first : (f : ℕ → Bool) (n : ℕ) (r : Option ℕ) → option_map (λ x. x) r ≡ find f (range_with_len 0 n) → r ≡ found_at n (first_from f n 0)
found_first f n (Some i) e = e ∙ from_here f n 0 n (omega arith)
found_first f n None e = e ∙ from_here f n 0 n (omega arith)

-- what was found is below n
pub found_below : (n i : ℕ) (r : Option ℕ) → r ≡ found_at n i → Inside r n
found_below n i r e = rw e (go (ltb i n) refl)
  where
    go : (b : Bool) → ltb i n ≡ b → Inside (cond b (Some i) None) n
    go true q = ltb-true i n q
    go false q = tt

pub inside_or : (r : Option ℕ) (x n : ℕ) → Inside r n → x < n → unwrap_or r x < n
inside_or (Some i) x n h l = h
inside_or None x n h l = l
