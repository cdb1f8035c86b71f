-- A list cut into pieces of given lengths, one after the other, and put together again. No region has a name here.
use Rattle.std.specs.Prelude.{ℕ, zero, suc, ◌+◌, List, [], ◌∷◌, ◌++◌}

-- where piece i starts, the first at b
abbrev pub start_from : ℕ → List ℕ → ℕ → ℕ
start_from b [] i = b
start_from b (n ∷ ns) zero = b
start_from b (n ∷ ns) (suc i) = start_from (b + n) ns i

-- where the last piece ends
abbrev pub end_from : ℕ → List ℕ → ℕ
end_from b [] = b
end_from b (n ∷ ns) = end_from (b + n) ns

-- the pieces one after the other
abbrev pub join : List (List ℕ) → List ℕ
join [] = []
join (x ∷ xs) = x ++ join xs
