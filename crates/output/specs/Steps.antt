-- The same output as a program gives it that reads as it goes: the bytes of the shape, then a command byte and its operands, an outcome and its line,
-- until an answer after which it ends or the end of the input. What answers the calls is a parameter here: the plain history, or a store.
-- proofs/Steps.antt has the theorem that with the plain history this is `output`.
use Rattle.std.specs.Prelude.{Bool, cond, List, [], ◌∷◌, ◌++◌, ℕ, zero, suc, leb, length, take, drop}
use Rattle.terms.specs.declared.Refusal.{Refusal}
use Rattle.std.specs.Prelude.{Ok, Err}
use Rattle.terms.specs.Answers.{Answer}
use Rattle.history.specs.History.{Outcome, alone, start}
use Rattle.lines.specs.Lines.{line, shape_line}
use Rattle.commands.specs.Commands.{Chosen, chosen, width, call_from, behind, shape_bytes, shape_from}
use Rattle.output.specs.Output.{shape_answer, goes_on}
use Rattle.model.specs.Machine.{Machine, history_of}

-- the bytes that are read behind a command byte: its operands, or as many as there are
unfoldable pub operands_of : ℕ → Chosen → List ℕ → List ℕ
operands_of columns (Ok f) bs = take (width columns f) bs
operands_of columns (Err r) bs = []

-- The outcome of a command byte with the operands os, and the state after it. A cut command does nothing.
unfoldable pub outcome_to : {State : Type 0} → Machine State → ℕ → State → Chosen → List ℕ → Outcome Answer
outcome_to m columns x (Ok f) os =
    cond (leb (width columns f) (length os)) (m.outcome x (call_from columns f os)) (alone (Err Refusal.Cut))
outcome_to m columns x (Err r) os = alone (Err r)

unfoldable pub state_after : {State : Type 0} → Machine State → ℕ → State → Chosen → List ℕ → State
state_after m columns x (Ok f) os = cond (leb (width columns f) (length os)) (m.next x (call_from columns f os)) x
state_after m columns x (Err r) os = x

-- One step: the line, whether the program goes on, and in what state.
pub record Step (State : Type 0) : Type 0 where
  pub line : List ℕ
  pub on : Bool
  pub state : State

-- the line of an outcome
abbrev pub line_of : ℕ → Outcome Answer → List ℕ
line_of byte o = line byte o.answer o.stamps

abbrev pub step : {State : Type 0} → Machine State → ℕ → State → ℕ → List ℕ → Step State
step m columns x byte os = record {
  line = line_of byte (outcome_to m columns x (chosen byte) os);
  on = goes_on (outcome_to m columns x (chosen byte) os).answer;
  state = state_after m columns x (chosen byte) os;
}

-- The steps over bs. The first argument bounds their number, and that of the bytes is enough.
unfoldable pub steps : {State : Type 0} → ℕ → Machine State → ℕ → State → List ℕ → List ℕ
steps zero m columns x bs = []
steps (suc most) m columns x [] = []
steps (suc most) m columns x (byte ∷ bs) =
    let s = step m columns x byte (operands_of columns (chosen byte) bs) in
    s.line ++ cond s.on (steps most m columns s.state (behind columns (chosen byte) bs)) []

-- all that is written for the input bs: the shape was answered `a` and left the state x
unfoldable pub lines_from : {State : Type 0} → Answer → Machine State → ℕ → State → List ℕ → List ℕ
lines_from a m columns x bs = shape_line a ++ cond (goes_on a) (steps (length bs) m columns x (drop shape_bytes bs)) []

-- with the plain history
unfoldable pub written : List ℕ → List ℕ
written bs =
    lines_from
    (cond (leb shape_bytes (length bs)) (shape_answer (shape_from bs)) (Err Refusal.Cut))
    (history_of (shape_from bs))
    (shape_from bs).columns
    start
    bs
