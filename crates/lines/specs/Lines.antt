-- The lines that `gatebook` prints, as bytes: rule 12.5 of docs/SPECIFICATION.md. Every definition here is executable.
use Rattle.std.specs.Prelude.{List, [], ◌∷◌, ◌++◌, ℕ, ◌/◌, ◌%◌, take}
use Rattle.terms.specs.Refusals.{refusal_number}
use Rattle.std.specs.Prelude.{Ok, Err}
use Rattle.terms.specs.Answers.{Answer}
use Rattle.terms.specs.declared.Fields.{Fields}
use Rattle.decimal.specs.Decimal.{text, digit, decimal, signed, field}

-- the command byte as two hexadecimal digits, with capitals
unfoldable pub capitals : ℕ → List ℕ
capitals b = digit (b / 16) ∷ digit (b % 16) ∷ []

-- stamps, a field for each
unfoldable pub fields : List ℕ → List ℕ
fields [] = []
fields (s ∷ l) = field (decimal s) ++ fields l

-- what stands after "ok": the answer's fields, of which a list's stamps are those that the call left in the slice that it was lent
unfoldable pub after_ok : Fields → List ℕ → List ℕ
after_ok Fields.Done l = []
after_ok (Fields.Number n) l = field (decimal n)
-- 2.4: of a version the value, then the stamp
after_ok (Fields.Version v s) l = field (signed v) ++ field (decimal s)
after_ok (Fields.Value v) l = field (signed v)
after_ok Fields.None l = text " none"
-- 2.4: of a sum the count, then the sum
after_ok (Fields.Sum n s) l = field (decimal n) ++ field (signed s)
-- 2.4: of a lineage the number merged through, then the records used
after_ok (Fields.Lineage n used) l = field (decimal n) ++ field (decimal used)
-- 2.4: of a list of crossings the count, then the stamps
after_ok (Fields.Listed n) l = field (decimal n) ++ fields (take n l)

-- what a line says of an answer
unfoldable pub outcome : Answer → List ℕ → List ℕ
outcome (Ok f) l = text " ok" ++ after_ok f l
outcome (Err r) l = text " no" ++ field (decimal (refusal_number r))

-- the line of a command, and the first line, which has no stamps
unfoldable pub line : ℕ → Answer → List ℕ → List ℕ
line b a l = capitals b ++ outcome a l ++ text "\n"

unfoldable pub shape_line : Answer → List ℕ
shape_line a = text "shape" ++ outcome a [] ++ text "\n"
