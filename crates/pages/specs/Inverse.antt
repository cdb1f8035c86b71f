-- What a chunk is multiplied by in the place of a division by the columns, which would be made for every page: the product, divided by `inverse_scale`, is the chunk's range.
use Rattle.std.specs.Prelude.{ℕ, ◌+◌, ◌/◌}

-- a power of 2, so that the code shifts
abbrev pub inverse_scale : ℕ
inverse_scale = 65536

abbrev pub inverse_of : ℕ → ℕ
inverse_of c = inverse_scale / c + 1

-- that of one column
abbrev pub most_inverse : ℕ
most_inverse = inverse_scale + 1
