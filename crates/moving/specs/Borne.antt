-- The parts of the test of the way back, as the code goes through them. Nothing here needs to be believed: `keeper_borne_in` (the model's Calls) is what a move promises.
use Rattle.std.specs.Prelude.{Bool, not, ◌&&◌, ℕ, ◌+◌, ◌*◌, eqb, get_or}
use Rattle.layout.specs.declared.Sizes.{Sizes}
use Rattle.layout.specs.declared.Region.TheVariants.{Opens, TailKeeper, OpenKeeper}
use Rattle.layout.specs.View.{View, used_in}
use Rattle.model.specs.Stored.{any_below}
use Rattle.model.specs.Calls.{bears_keeper}

-- one of the used tail records of range g bears a keeper
abbrev pub tail_borne : Sizes → View → ℕ → Bool
tail_borne s v g = any_below (λ i. bears_keeper (get_or (v TailKeeper) (g * s.capacity + i) 0)) (used_in v g)

-- the open transaction of entry j does
abbrev pub open_borne : View → ℕ → Bool
open_borne v j = not (eqb (get_or (v Opens) j 0) 0) && bears_keeper (get_or (v OpenKeeper) j 0)
