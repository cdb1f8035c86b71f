-- What a finder answers: an index inside a bound, or nothing.
use Rattle.std.specs.Prelude.{cond, ℕ, ◌<◌}
use Rattle.terms.specs.declared.Shape.{Shape}
use Rattle.std.specs.Prelude.{Option, Some, None}
use Rattle.layout.specs.View.{View}
use Rattle.history.specs.History.{range_of}
use Rattle.model.specs.Stored.{row_in}
use Rattle.layout.specs.Regions.{slot}
use Rattle.model.specs.Reading.{has_record}

-- where the newest record of row r lies
unfoldable pub head_at : Shape → View → ℕ → Option ℕ
head_at S v r = cond (has_record v r) (Some (slot S (range_of r) (row_in v r).link)) None

-- ---- what a caller may do with an answer without looking into its definition
-- an index that was found is below n
abbrev pub Inside : Option ℕ → ℕ → Type 0
Inside (Some i) n = i < n
Inside None n = Unit {0}
