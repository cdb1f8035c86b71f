-- The values that a call takes of those lent.
use Rattle.std.specs.Prelude.{List, ◌++◌, ℤ, pos, take, replicate}
use Rattle.terms.specs.Measures.{most_columns}

-- as many as a store may have columns: 0 where fewer are lent
unfoldable pub padded : List ℤ → List ℤ
padded vs = take most_columns (vs ++ replicate most_columns (pos 0))
