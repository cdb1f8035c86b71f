-- The bits of masks: of a union, of the columns that are new, and that a number without bits is 0.
use mathlib.Core.Path.{◌≡◌, refl, ◌∙◌, ap}
use mathlib.Core.Bool.{Bool, true, false, not, cond, ◌&&◌, ◌||◌}
use Prim.Native.Nat.{ℕ, zero, suc, ◌<◌, ◌/◌, ◌%◌, ◌^◌, max}
use native.Mathlib.Omega.{arith}
use native.Mathlib.Nat.{pow-suc}
use lib.Dec.{eqb}
use lib.Pow.{shr-shr}
use lib.Bits.{bit_or, bit_xor, differ, or_shr, xor_shr, or_step, xor_step}
use Rattle.history.specs.History.{bit}
use Rattle.history.proofs.Lists.{clash}
use Rattle.model.specs.Writing.{new_bits}

-- two numbers that are 0 or 1
two_bits : (P : ℕ → ℕ → Type 0) → P 0 0 → P 0 1 → P 1 0 → P 1 1 → (p q : ℕ) → p < 2 → q < 2 → P p q
two_bits P a b c d zero zero u w = a
two_bits P a b c d zero (suc zero) u w = b
two_bits P a b c d zero (suc (suc q)) u w = absurd (omega arith)
two_bits P a b c d (suc zero) zero u w = c
two_bits P a b c d (suc zero) (suc zero) u w = d
two_bits P a b c d (suc zero) (suc (suc q)) u w = absurd (omega arith)
two_bits P a b c d (suc (suc p)) q u w = absurd (omega arith)

low_or : (p q : ℕ) → p < 2 → q < 2 → eqb (max p q) 1 ≡ (eqb p 1 || eqb q 1)
low_or = two_bits (λ p q. eqb (max p q) 1 ≡ (eqb p 1 || eqb q 1)) refl refl refl refl

pub bit_or_lem : (a b c : ℕ) → bit (bit_or a b) c ≡ (bit a c || bit b c)
unfolding bit
bit_or_lem a b c =
    rw (or_shr a b c, step (a / 2 ^ c) (b / 2 ^ c)) (low_or (a / 2 ^ c % 2) (b / 2 ^ c % 2) (omega arith) (omega arith))
  where
    step : (x y : ℕ) → bit_or x y % 2 ≡ max (x % 2) (y % 2)
    step x y = omega (arith, or_step x y)

low_xor : (p q : ℕ) → p < 2 → q < 2 → (differ p q < 2) × (eqb (differ p q) 1 ≡ cond (eqb q 1) (not (eqb p 1)) (eqb p 1))
low_xor = two_bits (λ p q. (differ p q < 2) × (eqb (differ p q) 1 ≡ cond (eqb q 1) (not (eqb p 1)) (eqb p 1)))
    (omega arith, refl) (omega arith, refl) (omega arith, refl) (omega arith, refl)

bit_xor_lem : (a b c : ℕ) → bit (bit_xor a b) c ≡ cond (bit b c) (not (bit a c)) (bit a c)
unfolding bit
bit_xor_lem a b c =
    rw (xor_shr a b c, step (a / 2 ^ c) (b / 2 ^ c)) (low_xor (a / 2 ^ c % 2) (b / 2 ^ c % 2) (omega arith) (omega arith)).1
  where
    step : (x y : ℕ) → bit_xor x y % 2 ≡ differ (x % 2) (y % 2)
    step x y = omega (arith, xor_step x y, (low_xor (x % 2) (y % 2) (omega arith) (omega arith)).0)

-- the bits of a that b lacks
pub bit_new : (a b c : ℕ) → bit (new_bits a b) c ≡ (bit a c && not (bit b c))
bit_new a b c = bit_xor_lem (bit_or a b) b c ∙ rw (bit_or_lem a b c) (go (bit a c) (bit b c))
  where
    go : (x y : Bool) → cond y (not (x || y)) (x || y) ≡ (x && not y)
    go true true = refl
    go true false = refl
    go false true = refl
    go false false = refl

-- ---- a number without bits is 0
bit_half : (n c : ℕ) → bit (n / 2) c ≡ bit n (suc c)
unfolding bit
bit_half n c = ap (λ (k : ℕ). eqb (k % 2) 1) (shr-shr n 1 c ∙ ap (λ (k : ℕ). n / 2 ^ k) (omega arith))

bit_odd : (n : ℕ) → bit n 0 ≡ false → n % 2 ≡ 0
unfolding bit
bit_odd n e =
    let z : n % 2 ≡ n / 2 ^ 0 % 2 = omega arith in
    go (n % 2) (omega arith) (ap (λ (k : ℕ). eqb k 1) z ∙ e)
  where
    go : (k : ℕ) → k < 2 → eqb k 1 ≡ false → k ≡ 0
    go zero b e = refl
    go (suc zero) b e = clash (cc)
    go (suc (suc k)) b e = absurd (omega arith)

pub below_bits : (k n : ℕ) → n < 2 ^ k → ((c : ℕ) → c < k → bit n c ≡ false) → n ≡ 0
below_bits zero n b f = omega arith
below_bits (suc k) n b f =
    let h : n / 2 ≡ 0 = below_bits k (n / 2) (omega (arith, pow-suc 2 k)) (λ c u. bit_half n c ∙ f (suc c) (omega arith)) in
    omega (arith, bit_odd n (f 0 (omega arith)))

pub below_power : (n : ℕ) → n < 2 ^ n
below_power zero = omega arith
below_power (suc n) = omega (arith, pow-suc 2 n, below_power n)

pub no_bits : (n : ℕ) → ((c : ℕ) → bit n c ≡ false) → n ≡ 0
no_bits n f = below_bits n n (below_power n) (λ c b. f c)
