-- The digits of a number: the first argument of `digits` does not matter from the number on, and a digit more is one division by ten. `in_decimal`
-- finds them from the last to the first; `turn` is one turn of its loop.
use Prim.Native.Nat.{ℕ, zero, suc, ◌-◌, ◌/◌, ◌%◌, ◌^◌, ◌≤◌, ◌<◌}
use mathlib.Core.Path.{◌≡◌, refl, ap, sym, ◌∙◌}
use mathlib.Core.List.{List, [], ◌∷◌, ◌++◌, append_assoc}
use native.Mathlib.Omega.{arith}
use native.Mathlib.Nat.{pow-succ'}
use lib.ListN.{length, drop, set, length-set, length-append}
use lib.Seq.{drop-cons, get_or-set_same, drop-set-lt}
use Rattle.decimal.specs.Decimal.{digit, digits, decimal}

enough : (f g n : ℕ) → n ≤ f → n ≤ g → digits f n ≡ digits g n
unfolding digits
enough zero zero n h k = refl
enough zero (suc g) zero h k = refl
enough zero (suc g) (suc n) h k = absurd (omega arith)
enough (suc f) zero zero h k = refl
enough (suc f) zero (suc n) h k = absurd (omega arith)
enough (suc f) (suc g) zero h k = refl
enough (suc f) (suc g) (suc n) h k = ap (λ (l : List ℕ). l ++ digit (suc n % 10) ∷ []) (enough f g (suc n / 10) (omega arith) (omega arith))

-- the digits of n, none for 0, and all but the last digit taken off
abbrev pub front : ℕ → List ℕ
front n = digits n n

front_last : (n : ℕ) → 0 < n → front n ≡ front (n / 10) ++ digit (n % 10) ∷ []
unfolding digits
front_last zero h = absurd (omega arith)
front_last (suc n) h = ap (λ (l : List ℕ). l ++ digit (suc n % 10) ∷ []) (enough n (suc n / 10) (suc n / 10) (omega arith) (omega arith))

pub decimal_last : (n : ℕ) → front (n / 10) ++ digit (n % 10) ∷ [] ≡ decimal n
unfolding decimal
decimal_last n = ap (λ (l : List ℕ). l ++ digit (n % 10) ∷ []) (enough (n / 10) n (n / 10) (omega arith) (omega arith))

-- a number below 10 ^ k has at most k digits, and 0 has one
front_short : (k n : ℕ) → n < 10 ^ k → length (front n) ≤ k
unfolding digits
front_short zero zero h = omega arith
front_short zero (suc n) h = absurd (omega arith)
front_short (suc k) zero h = omega arith
front_short (suc k) (suc n) h =
    let shorter : length (front (suc n / 10)) ≤ k = front_short k (suc n / 10) (omega (arith, pow-succ' 10 k)) in
    rw (front_last (suc n) (omega arith), length-append) (omega arith)

pub decimal_short : (k n : ℕ) → 0 < k → n < 10 ^ k → length (decimal n) ≤ k
decimal_short zero n p h = absurd (omega arith)
decimal_short (suc k) n p h =
    let shorter : length (front (n / 10)) ≤ k = front_short k (n / 10) (omega (arith, pow-succ' 10 k)) in
    rw (← decimal_last n, length-append) (omega arith)

-- a character stored before a stretch
stored : (ds : List ℕ) (i g : ℕ) → i < length ds → drop i (set ds i g) ≡ g ∷ drop (suc i) ds
stored ds i g h =
    let l : i < length (set ds i g) = simp length-set h in
    rw (drop-cons (set ds i g) i 0, get_or-set_same ds i g 0, drop-set-lt (suc i) ds i g (omega arith))

-- the next digit, stored before those that are there
next : (n rest i g : ℕ) (ds : List ℕ) → front rest ++ drop (suc i) ds ≡ decimal n → g ≡ digit (rest % 10) → 0 < rest → i < length ds
    → front (rest / 10) ++ drop i (set ds i g) ≡ decimal n
next n rest i g ds e p h l =
    rw (stored ds i g l, p) (sym (append_assoc (front (rest / 10)) (digit (rest % 10) ∷ []) (drop (suc i) ds))
    ∙ ap (λ (f : List ℕ). f ++ drop (suc i) ds) (sym (front_last rest h)) ∙ e)

-- `from` places are left, enough for a number below 10 ^ from
pub turn : (n rest from g : ℕ) (ds : List ℕ) → front rest ++ drop from ds ≡ decimal n → g ≡ digit (rest % 10) → rest < 10 ^ from → 0 < rest → from ≤ length ds
    → (0 < from) × (rest / 10 < 10 ^ (from - 1)) × (front (rest / 10) ++ drop (from - 1) (set ds (from - 1) g) ≡ decimal n)
turn n rest zero g ds e p b h l = absurd (omega arith)
turn n rest (suc i) g ds e p b h l =
    let less : suc i - 1 ≡ i = omega arith in
    (omega arith, rw less (omega (arith, pow-succ' 10 i)), rw less (next n rest i g ds e p h (omega arith)))
