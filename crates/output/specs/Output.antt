-- What `gatebook` must write for an input: section 12 of docs/SPECIFICATION.md. The input is parsed, the plain history answers its calls, and each outcome is a line.
-- Every definition here is executable.
use Rattle.std.specs.Prelude.{Bool, true, cond, not, ◌&&◌, ◌||◌, List, [], ◌∷◌, ◌++◌, ℕ}
use Rattle.terms.specs.Measures.{between}
use Rattle.terms.specs.declared.Shape.{Shape}
use Rattle.terms.specs.Refusals.{refusal_number}
use Rattle.terms.specs.declared.Refusal.{Refusal}
use Rattle.std.specs.Prelude.{Ok, Err}
use Rattle.terms.specs.Answers.{Answer}
use Rattle.terms.specs.declared.Fields.{Fields}
use Rattle.history.specs.History.{Call, Outcome, start, outcomes}
use Rattle.lines.specs.Lines.{line, shape_line}
use Rattle.commands.specs.Commands.{Item, command, refused, Script, cut_shape, script, parse}

-- 12.4: the shapes that gatebook has memory for. Each of these is within the limits of a shape, so
-- that a shape outside the limits is answered 1 as well (proofs/Steps.antt, `lent_within`).
abbrev pub lent_columns : ℕ
lent_columns = 4

abbrev pub lent_ranges : ℕ
lent_ranges = 4

abbrev pub lent_records : ℕ
lent_records = 64

abbrev pub lent_spares : ℕ
lent_spares = 16

unfoldable pub lent : Shape → Bool
lent s =
    between 1 lent_columns s.columns && between 1 lent_ranges s.ranges && between 1 lent_records s.capacity && between 0 lent_spares s.spares

-- what the shape is answered
unfoldable pub shape_answer : Shape → Answer
shape_answer s = cond (lent s) (Ok Fields.Done) (Err Refusal.Shape)

-- 12.7: whether gatebook goes on after an answer, as it does after all but 1, 19 and 20
unfoldable pub goes_on : Answer → Bool
goes_on (Ok f) = true
goes_on (Err r) = not (between 1 1 (refusal_number r) || between 19 20 (refusal_number r))

-- the calls among the items
unfoldable pub calls : List Item → List Call
calls [] = []
calls (command byte c ∷ is) = c ∷ calls is
calls (refused byte r ∷ is) = calls is

-- A line for each item: the calls have the given outcomes, in order. A cut command still has its byte printed (12.6).
unfoldable pub lines_of : List Item → List (Outcome Answer) → List ℕ
lines_of [] given = []
lines_of (command byte c ∷ is) [] = []
lines_of (command byte c ∷ is) (o ∷ given) = line byte o.answer o.stamps ++ lines_of is given
lines_of (refused byte r ∷ is) given = line byte (Err r) [] ++ lines_of is given

unfoldable pub output_of : Script → List ℕ
output_of cut_shape = shape_line (Err Refusal.Cut)
output_of (script s is) =
    shape_line (shape_answer s) ++ cond (lent s) (lines_of is (outcomes s start (calls is))) []

-- 12.6, 12.7: a cut shape; an end between two commands adds no line
unfoldable pub output : List ℕ → List ℕ
output bs = output_of (parse bs)
