-- What the finder of a waiting page answers.
use Rattle.std.specs.Prelude.{ℕ, Option}
use Rattle.terms.specs.declared.Shape.{Shape}
use Rattle.layout.specs.View.{View}
use Rattle.loops.specs.Search.{found_at}
use Rattle.model.specs.Stored.{first_from, pages_of}
use Rattle.model.specs.Reading.{was_current}

-- the first waiting page of a chunk that was current after the first m merges
unfoldable pub old_page : Shape → View → ℕ → ℕ → Option ℕ
old_page S v m chunk = found_at (pages_of S) (first_from (was_current S v m chunk) (pages_of S) 0)
