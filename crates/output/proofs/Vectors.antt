-- The worked example (rule 12.9), and inputs that end in other ways, by computation.
use mathlib.Core.Path.{◌≡◌, refl}
use mathlib.Core.List.{[], ◌∷◌, ◌++◌}
use Rattle.history.specs.Unfolding.{execution}
use Rattle.words.specs.Words.{words}
use Rattle.decimal.specs.Decimal.{text, digits, decimal, signed}
use Rattle.lines.specs.Lines.{capitals, fields, after_ok, outcome, line, shape_line}
use Rattle.commands.specs.Commands.{commands, chosen, little_endian, operand, operands, values, read_of, write_of, call_of, call_from, item_at, behind, items, shape_from, parse}
use Rattle.output.specs.Output.{lent, shape_answer, goes_on, calls, lines_of, output_of, output}
use Rattle.output.specs.Example.{shape, example, lines}

-- all that an output computes by
unfoldable computing : Unit {0}
unfolding execution words digits decimal signed capitals fields after_ok outcome line shape_line commands chosen little_endian operand operands values read_of write_of call_of call_from item_at behind items shape_from parse lent shape_answer goes_on calls lines_of output_of output
computing = tt

pub worked_example : output example ≡ lines
unfolding computing example lines shape
worked_example = refl

pub endings :
    -- the shape: empty, cut, above what is lent, outside the limits
    (output [] ≡ text "shape no 20\n")
    × (output (9 ∷ 1 ∷ 1 ∷ []) ≡ text "shape no 20\n")
    × (output (5 ∷ 1 ∷ 1 ∷ 0 ∷ 0 ∷ 0 ∷ 1 ∷ []) ≡ text "shape no 1\n")
    × (output (0 ∷ 1 ∷ 1 ∷ 0 ∷ 0 ∷ 0 ∷ 1 ∷ []) ≡ text "shape no 1\n")
    -- a cut command does nothing, and an unknown byte ends the program: bytes behind it are not read
    × (output (shape ++ 6 ∷ 99 ∷ []) ≡ text "shape ok\n06 no 20\n")
    × (output (shape ++ 1 ∷ 171 ∷ 1 ∷ 1 ∷ []) ≡ text "shape ok\n01 ok 1\nAB no 19\n")
    -- a refusal of the store does not end it; number 0 is never open
    × (output (shape ++ 6 ∷ 0 ∷ 0 ∷ 13 ∷ 0 ∷ 0 ∷ 15 ∷ []) ≡ text "shape ok\n06 no 3\n0D no 4\n0F ok 0\n")
unfolding computing shape
endings = (refl, refl, refl, refl, refl, refl, refl)
