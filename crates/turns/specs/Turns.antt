-- What a turn of `gatebook` gives and leaves, for any memory, scan list and bytes. A turn is a step as the output's definitions have it, with the calls
-- answered by a store in lent memory.
use Rattle.std.specs.Prelude.{ℕ, ◌≡◌, min, cond, List, leb, length}
use Rattle.terms.specs.Measures.{most_columns}
use Rattle.terms.specs.declared.Shape.{Shape}
use Rattle.std.specs.Prelude.{Ok, Err}
use Rattle.terms.specs.Answers.{Answer}
use Rattle.terms.specs.declared.Refusal.{Refusal}
use Rattle.terms.specs.declared.Form.{Form}
use Rattle.words.specs.Words.{words}
use Rattle.requests.specs.Packed.{entries_of}
use Rattle.making.specs.Made.{made}
use Rattle.lines.specs.Lines.{shape_line}
use Rattle.lines.specs.Written.{Rendered}
use Rattle.commands.specs.Commands.{Chosen, width, shape_bytes, shape_from}
use Rattle.output.specs.Output.{lent, goes_on}
use Rattle.output.specs.Steps.{Step, outcome_to, state_after}
use Rattle.history.specs.History as H
use Rattle.terms.specs.Refusals.{is_accepted}
use Rattle.scans.specs.Entries.{freed_if}
use Rattle.promise.specs.Promise.{Lent, lent_machine}
use Rattle.turns.specs.declared.Outcome.{Outcome}

-- the lent memory and scan list, with the list as bytes
abbrev pub store_in : List ℕ → List ℕ → Lent
store_in m l = record { memory = m; list = entries_of (words l) }

-- ---- the shape's turn, over the bytes bs
-- a store of shape S is made, in the newest form, where memory is lent for it
unfoldable pub making_answer : Lent → Shape → Answer
making_answer x S = cond (lent S) (made Form.Newest S (length x.list) x.memory).0 (Err Refusal.Shape)

unfoldable pub made_store : Lent → Shape → Lent
made_store x S =
    cond (lent S)
    record { memory = (made Form.Newest S (length x.list) x.memory).1; list = freed_if (is_accepted (made Form.Newest S (length x.list) x.memory).0) x.list }
    x

unfoldable pub first_answer : Lent → List ℕ → Answer
first_answer x bs = cond (leb shape_bytes (length bs)) (making_answer x (shape_from bs)) (Err Refusal.Cut)

unfoldable pub first_store : Lent → List ℕ → Lent
first_store x bs = cond (leb shape_bytes (length bs)) (made_store x (shape_from bs)) x

abbrev pub first_step : Lent → List ℕ → Step Lent
first_step x bs = record { line = shape_line (first_answer x bs); on = goes_on (first_answer x bs); state = first_store x bs }

-- the number of columns by which the commands are read, 0 for a cut shape
unfoldable pub columns_from : List ℕ → ℕ
columns_from bs = cond (leb shape_bytes (length bs)) (shape_from bs).columns 0

-- ---- a command's turn
-- No shape has more columns than the most; a greater number counts as the most, so that a turn has a meaning for every number.
unfoldable pub capped : ℕ → ℕ
capped columns = min columns most_columns

-- how many bytes of operands are read
unfoldable pub operand_width : ℕ → Chosen → ℕ
operand_width columns (Ok f) = width columns f
operand_width columns (Err r) = 0

-- ---- what the code promises
-- an outcome, and the store after it
unfoldable pub Does : Lent → ℕ → Chosen → List ℕ → H.Outcome Answer → Lent → Type 0
Does x columns k os o x' = (o ≡ outcome_to lent_machine columns x k os) × (x' ≡ state_after lent_machine columns x k os)

-- The buffer of a line that was `old` starts with the line of a step, the turn tells the line's length and whether the program goes on, and the store is as
-- the step leaves it.
pub record Turned (s : Step Lent) (old new : List ℕ) (t : Outcome) (x : Lent) : Type 0 where
  pub rendered : Rendered old new s.line t.length
  pub goes : t.on ≡ s.on
  pub left : x ≡ s.state
