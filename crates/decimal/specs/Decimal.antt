-- Numbers in decimal, as bytes. Every definition here is executable.
use Rattle.std.specs.Prelude.{cond, List, [], ◌∷◌, ◌++◌, ℕ, zero, suc, ◌+◌, ◌/◌, ◌%◌, ltb, ℤ, pos, negsuc}
use Prim.Native.Char.{code}
use Prim.Native.String.{String, [] as none, ◌∷◌ as ◌before◌}

-- the bytes of an ASCII text
abbrev pub text : String → List ℕ
text none = []
text (c before s) = code c ∷ text s

-- "0" to "9", then "A" to "F"
abbrev pub digit : ℕ → ℕ
digit d = cond (ltb d 10) (48 + d) (55 + d)

-- The digits of n in decimal, none for 0. Each digit but the last is one of n / 10, so that any first argument from n on gives them all
-- (proofs/Digits.antt).
unfoldable pub digits : ℕ → ℕ → List ℕ
digits zero n = []
digits (suc f) zero = []
digits (suc f) (suc n) = digits f (suc n / 10) ++ digit (suc n % 10) ∷ []

-- a natural number in decimal
unfoldable pub decimal : ℕ → List ℕ
decimal n = digits n (n / 10) ++ digit (n % 10) ∷ []

-- a whole number in decimal, with its sign if it is below 0
unfoldable pub signed : ℤ → List ℕ
signed (pos n) = decimal n
signed (negsuc n) = text "-" ++ decimal (suc n)

-- one more field
abbrev pub field : List ℕ → List ℕ
field s = text " " ++ s
