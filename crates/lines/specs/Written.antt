-- The most bytes of what a line says of an answer, and what the functions that write a line promise.
use Rattle.std.specs.Prelude.{◌≡◌, List, ℕ, ◌+◌, ◌*◌, ◌≤◌, max, length}
use Rattle.std.proofs.lemmas.List.Edits.{sets}
use Rattle.decimal.specs.Decimal.{text}
use Rattle.decimal.specs.Written.{line_bytes, natural_field, integer_field}

-- the most bytes of an answer's fields, where so many stamps are lent: none has more than a count, and either a sum or the stamps
abbrev pub fields_bytes : ℕ → ℕ
fields_bytes lent = natural_field + max integer_field (lent * natural_field)

-- and of what a line says of an answer
abbrev pub outcome_bytes : ℕ → ℕ
outcome_bytes lent = length (text " ok") + fields_bytes lent

-- The buffer of a line starts with s, n bytes, and is as it was behind them.
pub record Rendered (old new : List ℕ) (s : List ℕ) (n : ℕ) : Type 0 where
  pub bytes : new ≡ sets old 0 s
  pub count : n ≡ length s
  pub fits : n ≤ line_bytes
