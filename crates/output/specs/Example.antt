-- The worked example (rule 12.9 of docs/SPECIFICATION.md), and inputs that end in other ways, by computation.
use Rattle.std.specs.Prelude.{List, [], ◌∷◌, ◌++◌, ℕ}
use Rattle.decimal.specs.Decimal.{text}

-- the example's shape
unfoldable pub shape : List ℕ
shape = 2 ∷ 1 ∷ 4 ∷ 0 ∷ 1 ∷ 0 ∷ []

-- the example's eleven commands
unfoldable pub example : List ℕ
example =
    shape
    ++ 1 ∷ []
    ++ 2 ∷ 1 ∷ 0 ∷ 176 ∷ 4 ∷ 0 ∷ 0 ∷ 226 ∷ 255 ∷ 255 ∷ 255 ∷ []
    ++ 5 ∷ 1 ∷ 0 ∷ 10 ∷ 0 ∷ 0 ∷ 0 ∷ []
    ++ 1 ∷ []
    ++ 3 ∷ 2 ∷ 0 ∷ 0 ∷ 0 ∷ 1 ∷ 0 ∷ 226 ∷ 4 ∷ 0 ∷ 0 ∷ 0 ∷ 0 ∷ 0 ∷ 0 ∷ []
    ++ 7 ∷ 0 ∷ 0 ∷ 0 ∷ []
    ++ 5 ∷ 2 ∷ 0 ∷ 20 ∷ 0 ∷ 0 ∷ 0 ∷ []
    ++ 14 ∷ 0 ∷ 0 ∷ 2 ∷ 0 ∷ []
    ++ 8 ∷ 10 ∷ 0 ∷ 0 ∷ 0 ∷ 0 ∷ 0 ∷ 0 ∷ []
    ++ 16 ∷ 0 ∷ 0 ∷ 0 ∷ []
    ++ 14 ∷ 0 ∷ 0 ∷ 2 ∷ 0 ∷ []

unfoldable pub lines : List ℕ
lines =
    text "shape ok\n"
    ++ text "01 ok 1\n"
    ++ text "02 ok 0\n"
    ++ text "05 ok\n"
    ++ text "01 ok 2\n"
    ++ text "03 ok 2\n"
    ++ text "07 ok 1200 10\n"
    ++ text "05 ok\n"
    ++ text "0E ok\n"
    ++ text "08 ok 1200 10\n"
    ++ text "10 ok 1250\n"
    ++ text "0E no 16\n"
