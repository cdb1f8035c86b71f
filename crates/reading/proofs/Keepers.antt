-- The keeper of what a reader reads, by whether a record was found.
use Prim.Native.Nat.{ℕ}
use mathlib.Core.Path.{◌≡◌, ◌∙◌}
use lib.ListN.{get_or}
use Rattle.terms.specs.declared.Shape.{Shape}
use Rattle.std.specs.Prelude.{Option, Some, None}
use Rattle.layout.specs.declared.Region.{Region}
use Rattle.layout.specs.View.{View}
use Rattle.model.specs.declared.Reader.{Reader}
use Rattle.model.specs.Stored.{row_keeper, record_keeper}
use Rattle.model.specs.Reading.{floor, found_in, keeper_word}

module _ (S : Shape) (v : View) (who : Reader) (r c : ℕ) (f : Option ℕ) (e : f ≡ found_in S v who floor r c) where
  pub keeper_none : (w : ℕ) → f ≡ None → w ≡ get_or (v Region.RowKeeper) r 0 → w ≡ keeper_word S v who r c
  unfolding keeper_word row_keeper
  keeper_none w n q = q ∙ rw (← e, n)

  pub keeper_found : (w i : ℕ) → f ≡ Some i → w ≡ get_or (v Region.TailKeeper) i 0 → w ≡ keeper_word S v who r c
  unfolding keeper_word record_keeper
  keeper_found w i n q = q ∙ rw (← e, n)
