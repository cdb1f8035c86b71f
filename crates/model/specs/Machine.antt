-- What answers calls: the plain history, a store in lent memory, or whatever else has an outcome and a next state for each call.
use Rattle.std.specs.Prelude.{List, [], ◌∷◌}
use Rattle.terms.specs.declared.Shape.{Shape}
use Rattle.terms.specs.Answers.{Answer}
use Rattle.history.specs.History.{Call, History, Outcome, outcome, next}

-- In each state the outcome of a call, and the state after it.
pub record Machine (State : Type 0) : Type 0 where
  pub outcome : State → Call → Outcome Answer
  pub next : State → Call → State

abbrev pub history_of : Shape → Machine History
history_of s = record { outcome = outcome s; next = next s }

-- the outcomes of a list of calls
unfoldable pub outcomes_from : {State : Type 0} → Machine State → State → List Call → List (Outcome Answer)
outcomes_from m x [] = []
outcomes_from m x (c ∷ cs) = m.outcome x c ∷ outcomes_from m (m.next x c) cs
