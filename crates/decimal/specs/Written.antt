-- The buffer of a line, the most bytes of a number in it, and what the functions that write into it promise.
use Rattle.std.specs.Prelude.{◌≡◌, List, ℕ, ◌+◌, ◌*◌, length}
use Rattle.std.proofs.lemmas.List.Edits.{sets}
use Rattle.terms.specs.Measures.{lent_stamps}
use Rattle.decimal.specs.Decimal.{text}

-- the digits of the greatest number of 32 bits, and of 64
abbrev pub natural_digits : ℕ
natural_digits = 10

abbrev pub most_digits : ℕ
most_digits = 20

-- a sign and digits
abbrev pub signed_bytes : ℕ
signed_bytes = 1 + most_digits

-- a field, with the space before it: a natural number of 32 bits, and one of 64 with a sign
abbrev pub natural_field : ℕ
natural_field = 1 + natural_digits

abbrev pub integer_field : ℕ
integer_field = 1 + signed_bytes

-- the buffer of a line. None is longer than that of crossings, with as many stamps as are lent: the byte and the word, the count, the stamps, the line's end
abbrev pub line_bytes : ℕ
line_bytes = length (text "12 ok") + (1 + lent_stamps) * natural_field + length (text "\n")

-- The bytes s were written from `at` over `old`, and `end` is the index behind them.
pub record Written (old new : List ℕ) (at : ℕ) (s : List ℕ) (end : ℕ) : Type 0 where
  pub bytes : new ≡ sets old at s
  pub ends : end ≡ at + length s
