-- The plain history as a machine that answers calls.
use mathlib.Core.Path.{◌≡◌, refl, ap}
use mathlib.Core.List.{List, [], ◌∷◌}
use Rattle.terms.specs.declared.Shape.{Shape}
use Rattle.terms.specs.Answers.{Answer}
use Rattle.history.specs.History.{Call, History, Outcome, outcomes}
use Rattle.model.specs.Machine.{history_of, outcomes_from}

pub history_outcomes : (S : Shape) (h : History) (cs : List Call) → outcomes_from (history_of S) h cs ≡ outcomes S h cs
unfolding outcomes_from outcomes
history_outcomes S h [] = refl
history_outcomes S h (c ∷ cs) = ap (λ (l : List (Outcome Answer)). (history_of S).outcome h c ∷ l) (history_outcomes S ((history_of S).next h c) cs)
