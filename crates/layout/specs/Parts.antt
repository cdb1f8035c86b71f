-- Parts of a memory, by their words: what the footprint of a call is made of, and which bytes they are.
use Rattle.std.specs.Prelude.{ℕ, zero, suc, ◌+◌, ◌/◌, ◌<◌, ◌≡◌, ◌⊎◌, Bool, false, cond, ◌&&◌, ◌||◌, List, [], ◌∷◌, T, leb, ltb, eqb, length, get_or}
use Rattle.layout.specs.declared.Sizes.{Sizes}
use Rattle.layout.specs.declared.Region.{Region}
use Rattle.layout.specs.Regions.{index, len, base}
use Rattle.layout.specs.View.{View}

-- so many words of a region, from an index on
pub record Part : Type 0 where
  pub region : Region
  pub from : ℕ
  pub count : ℕ

abbrev pub stretch : Region → ℕ → ℕ → Part
stretch k i n = record { region = k; from = i; count = n }

-- one word of a region
abbrev pub word : Region → ℕ → Part
word k i = stretch k i 1

-- Of n words of a region from index i on, one by one those whose number among them passes.
abbrev pub words_where : (ℕ → Bool) → Region → ℕ → ℕ → List Part
words_where f k i zero = []
words_where f k i (suc n) = cond (f n) (word k (i + n) ∷ words_where f k i n) (words_where f k i n)

-- word j of region k is one of the part
abbrev pub has : Region → ℕ → Part → Bool
has k j x = eqb (index x.region) (index k) && (leb x.from j && ltb j (x.from + x.count))

-- and one of the parts of a list
abbrev pub among : Region → ℕ → List Part → Bool
among k j [] = false
among k j (x ∷ xs) = has k j x || among k j xs

-- byte i of a memory is one of the four bytes of word j of region k
abbrev pub ByteOf : Sizes → Region → ℕ → ℕ → Type 0
ByteOf s k j i = (j < len s k) × (i / 4 ≡ base s k + j)

-- and that word is one of the parts
abbrev pub OneOf : Sizes → List Part → ℕ → Type 0
OneOf s xs i = (k : Region) × (j : ℕ) × ByteOf s k j i × T (among k j xs)

-- The view v' is the view v but for words of the parts.
pub record ChangedWithin (xs : List Part) (v v' : View) : Type 0 where
  pub long : (k : Region) → length (v' k) ≡ length (v k)
  pub only : (k : Region) (j : ℕ) → (get_or (v' k) j 0 ≡ get_or (v k) j 0) ⊎ T (among k j xs)
