-- What the finder of an open transaction answers.
use Rattle.std.specs.Prelude.{cond, ℕ}
use Rattle.std.specs.Prelude.{Option, Some, None}
use Rattle.layout.specs.View.{View}
use Rattle.model.specs.Stored.{open_index}
use Rattle.model.specs.Calls.{not_open_in}

-- the index of open transaction t
unfoldable pub open_at : View → ℕ → Option ℕ
open_at v t = cond (not_open_in v t) None (Some (open_index v t))
