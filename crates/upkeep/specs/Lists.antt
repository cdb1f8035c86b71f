-- What the calls that open and close a scan leave of the list; and the last tests of a merge.
use Rattle.std.specs.Prelude.{ℕ, ◌||◌, List, [], ◌∷◌, leb, ltb, set, Result, Ok, Err}
use Rattle.terms.specs.declared.Shape.{Shape}
use Rattle.terms.specs.declared.ScanEntry.{ScanEntry}
use Rattle.terms.specs.declared.Refusal.{Refusal}
use Rattle.terms.specs.Answers.{Answer}
use Rattle.layout.specs.View.{View, used_in}
use Rattle.history.specs.History.{Test, ◌when◌}
use Rattle.model.specs.Stored.{pages_of}
use Rattle.model.specs.Writing.{free_in}
use Rattle.model.specs.Calls.{open_among_in}
use Rattle.upkeep.specs.declared.ListChange.{ListChange}

-- what a call on the list answers
abbrev pub answer_in : Result ListChange Refusal → Answer
answer_in (Ok d) = d.answer
answer_in (Err x) = Err x

-- a list with the one entry changed that an accepted call names; a refused one changes none
abbrev pub changed_at : Result ListChange Refusal → List ScanEntry → List ScanEntry
changed_at (Ok d) ps = set ps d.index d.entry
changed_at (Err x) ps = ps

-- the last tests of a merge of range g through record n, into a column whose current page has the lineage `low`
abbrev pub reach_tests : Shape → View → ℕ → ℕ → ℕ → List Test
reach_tests S v g low n =
    Refusal.Reach when (leb n low || ltb (used_in v g) n)
    ∷ Refusal.Open when open_among_in S v g n
    ∷ Refusal.NoPage when leb (pages_of S) (free_in S v)
    ∷ []
