-- Numbers in bytes: a turn of each loop, of `number` and `values`, and the most bytes of the operands.
use Prim.Native.Nat.{ℕ, zero, suc, ◌+◌, ◌-◌, ◌*◌, ◌^◌, ◌≤◌, ◌<◌}
use mathlib.Core.Path.{◌≡◌, refl, ap, ◌∙◌}
use mathlib.Core.List.{List, [], ◌∷◌, ◌++◌, map-append}
use native.Mathlib.Omega.{arith}
use native.Mathlib.Nat.{zero-add, pow-succ', pow-le-pow_right}
use native.Mathlib.Numerals.{add-one}
use lib.ListN.{length, get_or, set, take, replicate}
use lib.Seq.{slice, slice-cons, slice_empty, take-suc, take-suc-set, get_or-set_other}
use lib.IntN.{ℤ, pos}
use mir.Syntax.{w32}
use mir.Val.{to_z}
use Rattle.words.specs.Words.{words}
use Rattle.words.proofs.Words.{length_words}
use Rattle.commands.specs.Commands.{operand_bytes, Narrow, total, little_endian, operand, operands, values}
use Rattle.commands.specs.Decoded.{ZerosPast}

-- ---- a number
pub none_yet : (bytes : List ℕ) (at n : ℕ) → 0 ≡ little_endian (slice (at + n) (at + n) bytes)
unfolding little_endian
none_yet bytes at n = rw (slice_empty (at + n) bytes)

-- one byte more, below those that are there
step : (bytes : List ℕ) (at to total b : ℕ) → total ≡ little_endian (slice (suc at) to bytes) → b ≡ get_or bytes at 0 → at < to → to ≤ length bytes
    → total * 256 + b ≡ little_endian (slice at to bytes)
unfolding little_endian
step bytes at to total b e p h l = rw (slice-cons at to bytes 0, ← p, ← e) (omega arith)

pub turn : (bytes : List ℕ) (at n i total b : ℕ) → total ≡ little_endian (slice (at + i) (at + n) bytes) → b ≡ get_or bytes (at + (i - 1)) 0
    → total < 256 ^ (n - i) → b < 256 → 0 < i → i ≤ n → at + n ≤ length bytes
    → (total * 256 + b ≡ little_endian (slice (at + (i - 1)) (at + n) bytes)) × (total * 256 + b < 256 ^ (n - (i - 1)))
turn bytes at n zero total b e p s t h k l = absurd (omega arith)
turn bytes at n (suc i) total b e p s t h k l =
    let less : suc i - 1 ≡ i = omega arith in
    let next : at + suc i ≡ suc (at + i) = omega arith in
    let more : n - i ≡ suc (n - suc i) = omega arith in
    rw less (step bytes (at + i) (at + n) total b (rw next at e) (rw less at p) (omega arith) l, rw more (omega (arith, pow-succ' 256 (n - suc i))))

-- a number of at most three bytes leaves room for one more
pub room : (k total : ℕ) → total < 256 ^ k → k ≤ 3 → total < 16777216
room k total h l = omega (arith, pow-le-pow_right {n = 256} (omega arith) l)

-- ---- narrow operands
pub narrow_at : (ws : List ℕ) (i : ℕ) → Narrow ws → get_or ws i 0 ≤ operand_bytes
narrow_at [] i h = omega arith
narrow_at (w ∷ ws) zero h = h.0
narrow_at (w ∷ ws) (suc i) h = narrow_at ws i h.1

pub total_next : (ws : List ℕ) (i : ℕ) → i < length ws → total (take (suc i) ws) ≡ total (take i ws) + get_or ws i 0
total_next [] i h = absurd (omega arith)
total_next (w ∷ ws) zero h = omega arith
total_next (w ∷ ws) (suc i) h = omega (arith, total_next ws i (omega arith))

pub total_part : (ws : List ℕ) (i : ℕ) → total (take i ws) + get_or ws i 0 ≤ total ws
total_part [] zero = omega arith
total_part [] (suc i) = omega arith
total_part (w ∷ ws) zero = omega arith
total_part (w ∷ ws) (suc i) = omega (arith, total_part ws i)

-- ---- operands
one_more : (at : ℕ) (ws bs : List ℕ) (i : ℕ) → i < length ws
    → operands at (take (suc i) ws) bs ≡ operands at (take i ws) bs ++ operand (at + total (take i ws)) (get_or ws i 0) bs ∷ []
unfolding operands
one_more at [] bs i h = absurd (omega arith)
one_more at (w ∷ ws) bs zero h = ap (λ (k : ℕ). operand k w bs ∷ []) (omega arith)
one_more at (w ∷ ws) bs (suc i) h =
    ap (λ (l : List ℕ). operand at w bs ∷ l)
    (one_more (at + w) ws bs i (omega arith) ∙ ap (λ (k : ℕ). operands (at + w) (take i ws) bs ++ operand k (get_or ws i 0) bs ∷ []) (omega arith))

pub operand_next : (bs out ws : List ℕ) (i at v : ℕ) → take i out ≡ operands 0 (take i ws) bs → at ≡ total (take i ws) → v ≡ operand at (get_or ws i 0) bs
    → i < length ws → i < length out → take (i + 1) (set out i v) ≡ operands 0 (take (i + 1) ws) bs
operand_next bs out ws i at v e p q h l = rw (add-one i, take-suc-set out i v, one_more 0 ws bs i h, e, q, p, zero-add) refl

-- ---- values
pub value_next : (bytes : List ℕ) (out : List ℤ) (i w : ℕ) (v : ℤ) → take i out ≡ values i bytes → w ≡ get_or (words bytes) i 0 → v ≡ to_z w32 w
    → i * 4 + 4 ≤ length bytes → i < length out → take (i + 1) (set out i v) ≡ values (i + 1) bytes
unfolding values
value_next bytes out i w v e p q h l =
    let k : i < length (words bytes) = omega (arith, length_words bytes) in
    rw (add-one i, take-suc-set out i v, take-suc (words bytes) i 0, map-append, q, p) (ap (λ (t : List ℤ). t ++ to_z w32 (get_or (words bytes) i 0) ∷ []) e)

-- an array of zeros holds 0 at every index, and one that holds 0 from i on does so from the next after a store at i
pub zeros_at : (n k : ℕ) → get_or (replicate n (pos 0)) k (pos 0) ≡ pos 0
zeros_at zero k = refl
zeros_at (suc n) zero = refl
zeros_at (suc n) (suc k) = zeros_at n k

pub zeros_next : (out : List ℤ) (i : ℕ) (v : ℤ) → ZerosPast i out → ZerosPast (i + 1) (set out i v)
zeros_next out i v z k h = get_or-set_other out i k v (pos 0) (λ e. omega arith) ∙ z k (omega arith)
