-- What is still to be written, for every state of the program and every input to come.
use Rattle.std.specs.Prelude.{ℕ, ◌+◌, ◌-◌, ◌*◌, ◌≤◌, ◌<◌, min, ◌≡◌, Bool, true, false, cond, List, [], ◌++◌, length, get_or, take, drop}
use Rattle.decimal.specs.Written.{line_bytes}
use Rattle.commands.specs.Commands.{command_bytes, chosen, shape_bytes}
use Rattle.output.specs.Steps.{Step, step, steps}
use Rattle.promise.specs.Promise.{Lent, lent_machine}
use Rattle.turns.specs.Turns.{capped, operand_width}
use Rattle.turns.specs.Gatebook.{gatebook}
use Rattle.turns.specs.declared.Outcome.{Outcome}
use Rattle.rounds.specs.declared.Progress.{Progress}

-- room for the lines of n bytes: a line for each, and one where the input ends before the shape
abbrev pub room_for : ℕ → ℕ
room_for n = line_bytes * n + line_bytes

-- ---- what is due
-- How the program stands: whether it goes on, whether the shape is answered, and its columns.
pub record Flow : Type 0 where
  pub on : Bool
  pub started : Bool
  pub columns : ℕ

abbrev pub flow : Progress → Flow
flow p = record { on = p.on; started = p.started; columns = p.columns }

-- All that is still to be written for the input bs.
unfoldable pub due : Flow → Lent → List ℕ → List ℕ
due f x bs = cond f.on (cond f.started (steps (length bs) lent_machine (capped f.columns) x bs) (gatebook x bs)) []

-- The program came from f and x, with the bytes bs at hand and `before` written, to f' and x', with the bytes bs' left and `after` written: whatever comes
-- behind the bytes, what is written and what is due are together the same. Behind the last bytes nothing comes.
pub record Moved (last : Bool) (f : Flow) (x : Lent) (bs before : List ℕ) (f' : Flow) (x' : Lent) (bs' after : List ℕ) : Type 0 where
  pub same : (rest : List ℕ) → (last ≡ true → rest ≡ []) → before ++ due f x (bs ++ rest) ≡ after ++ due f' x' (bs' ++ rest)

-- how many bytes the next line wants
unfoldable pub wanted : Flow → List ℕ → ℕ
wanted f bs = cond f.started (1 + operand_width (capped f.columns) (chosen (get_or bs 0 0))) shape_bytes

-- A round over the bytes bs: bs' are left and `lines` is written. All that can be answered is answered: with the last bytes the program ends, and else those that
-- are left are fewer than the next line wants, and than the longest command has.
pub record Round (last : Bool) (f : Flow) (x : Lent) (bs : List ℕ) (f' : Flow) (x' : Lent) (bs' lines : List ℕ) : Type 0 where
  pub moved : Moved last f x bs [] f' x' bs' lines
  pub ends : last ≡ true → f'.on ≡ false
  pub waits : f'.on ≡ true → length bs' < wanted f' bs'
  pub few : f'.on ≡ true → length bs' < command_bytes

-- ---- the shape
-- The shape stands in the first `end` bytes: it is whole, or the input ends in it.
pub record ShapeIn (last : Bool) (bs : List ℕ) (end : ℕ) : Type 0 where
  pub ends : end ≡ min shape_bytes (length bs)
  pub whole : last ≡ false → shape_bytes ≤ length bs

-- ---- one command
-- where the command at an index ends, if it is whole
abbrev pub end_at : ℕ → List ℕ → ℕ → ℕ
end_at columns bs at = at + (1 + operand_width (capped columns) (chosen (get_or bs at 0)))

-- the step of the bytes from `at` to `end`: a command byte and its operands
unfoldable pub step_at : ℕ → Lent → List ℕ → ℕ → ℕ → Step Lent
step_at columns x bs at end = step lent_machine (capped columns) x (get_or bs at 0) (take (end - (at + 1)) (drop (at + 1) bs))

-- A command stands from `at` to `end`: it is whole, or it is the last and cut.
pub record CommandIn (last : Bool) (columns : ℕ) (bs : List ℕ) (at end : ℕ) : Type 0 where
  pub some : at < length bs
  pub ends : end ≡ min (end_at columns bs at) (length bs)
  pub whole : last ≡ false → end_at columns bs at ≤ length bs

-- No command to answer stands at `at`.
pub record NoCommand (last : Bool) (columns : ℕ) (bs : List ℕ) (at : ℕ) : Type 0 where
  pub short : length bs < end_at columns bs at
  pub few : length bs < at + command_bytes
  pub none : last ≡ true → at ≡ length bs

-- what the search for a command's end answers
pub record Found (last : Bool) (columns : ℕ) (bs : List ℕ) (at r : ℕ) : Type 0 where
  pub command : at < r → CommandIn last columns bs at r
  pub nothing : r ≡ at → NoCommand last columns bs at
  pub order : at ≤ r
  pub inside : r ≤ length bs

-- how the program stands behind a line: the turn told its length and whether the program goes on
abbrev pub progress_of : Outcome → ℕ → ℕ → ℕ → Progress
progress_of t columns end written = record { on = t.on; started = true; columns = columns; taken = end; written = written + t.length }

-- The line of a step stands behind the lines, the store is as the step leaves it, and the bytes up to `end` are taken.
pub record Answered (s : Step Lent) (columns end : ℕ) (x : Lent) (old new : List ℕ) (p q : Progress) : Type 0 where
  pub kept : take q.written new ≡ take p.written old ++ s.line
  pub grown : q.written ≤ p.written + line_bytes
  pub goes : q.on ≡ s.on
  pub left : x ≡ s.state
  pub started : q.started ≡ true
  pub counted : q.columns ≡ columns
  pub taken : q.taken ≡ end

-- The commands from one index on are answered: `Round` from p to q, in the buffers.
pub record Walked (last : Bool) (p q : Progress) (x y : Lent) (bs old new : List ℕ) : Type 0 where
  pub moved : Moved last (flow p) x (drop p.taken bs) (take p.written old) (flow q) y (drop q.taken bs) (take q.written new)
  pub ends : last ≡ true → q.on ≡ false
  pub waits : q.on ≡ true → length (drop q.taken bs) < wanted (flow q) (drop q.taken bs)
  pub few : q.on ≡ true → length (drop q.taken bs) < command_bytes
  pub inside : q.taken ≤ length bs
  pub fits : q.written ≤ length new

-- The shape is answered, or it was, or it is not yet whole.
pub record Begun (last : Bool) (f : Flow) (q : Progress) (x y : Lent) (bs new : List ℕ) : Type 0 where
  pub moved : Moved last f x bs [] (flow q) y (drop q.taken bs) (take q.written new)
  pub inside : q.taken ≤ length bs
  pub room : q.written + line_bytes * length bs ≤ length new + line_bytes * q.taken
  pub ends : q.started ≡ false → last ≡ true → q.on ≡ false
  pub few : q.started ≡ false → q.on ≡ true → length (drop q.taken bs) < shape_bytes

-- What `answer` promises. Where the buffer has room for the lines of the bytes at hand, there is a round over them, and else nothing is taken or written and all is as it
-- was. What the buffer holds behind the lines is left free.
pub record Took (last : Bool) (f : Flow) (q : Progress) (x y : Lent) (bs new : List ℕ) : Type 0 where
  pub round : room_for (length bs) ≤ length new → Round last f x bs (flow q) y (drop q.taken bs) (take q.written new)
  pub full : length new < room_for (length bs) → (flow q ≡ f) × (y ≡ x) × (q.taken ≡ 0) × (q.written ≡ 0)
  pub inside : q.taken ≤ length bs
  pub fits : q.written ≤ length new
