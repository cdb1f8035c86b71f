-- The parts that the code looks through are the model's test of the way back.
use Prim.Native.Nat.{ℕ, ◌+◌, ◌*◌, ◌≤◌, ◌<◌}
use mathlib.Core.Path.{◌≡◌, ap, ◌∙◌}
use mathlib.Core.Bool.{Bool, ◌||◌}
use native.Mathlib.Omega.{arith}
use native.Mathlib.Nat.{zero-add}
use lib.ListN.{get_or}
use Rattle.terms.specs.Measures.{most_slots, most_transactions}
use Rattle.layout.specs.declared.Sizes.{Sizes}
use Rattle.layout.specs.declared.Region.TheVariants.{RowKeeper, TailKeeper}
use Rattle.layout.specs.Sizes.{Proper}
use Rattle.layout.specs.View.{View, rows_given, used_in}
use Rattle.layout.proofs.Indices.{tail_in, slots_few}
use Rattle.model.specs.Stored.{any_below, row_keeper, record_keeper}
use Rattle.model.specs.Calls.{bears_keeper, keeper_borne_in}
use Rattle.model.specs.Preconditions.{shape_in, Linked}
use Rattle.model.proofs.Lists.{below_same}
use Rattle.moving.specs.Borne.{tail_borne, open_borne}

-- the used records of range g lie among the slots
pub records_in : (s : Sizes) → Proper s → (v : View) → Linked s v → (g used : ℕ) → used ≡ used_in v g → g < s.ranges → g * s.capacity + used ≤ most_slots
records_in s p v l g used e b = omega (arith, tail_in s p g b, l.used_few g b, slots_few s p)

-- what is found of the used records of range g is what the test asks of the range
pub tail_is : (s : Sizes) (v : View) (g used : ℕ) (found : Bool) → found ≡ any_below (λ i. bears_keeper (get_or (v TailKeeper) (g * s.capacity + i) 0)) used → used ≡ used_in v g → found ≡ tail_borne s v g
tail_is s v g used found e a = e ∙ rw a

-- rows, tail records and open transactions together
pub borne_is : (s : Sizes) (v : View) (given : ℕ) (rows tails opens rest all : Bool) → given ≡ rows_given v → rows ≡ any_below (λ i. bears_keeper (get_or (v RowKeeper) (0 + i) 0)) given
    → tails ≡ any_below (tail_borne s v) s.ranges → opens ≡ any_below (open_borne v) most_transactions → rest ≡ (tails || opens) → all ≡ (rows || rest) → all ≡ keeper_borne_in (shape_in s) v
unfolding keeper_borne_in row_keeper record_keeper
borne_is s v given rows tails opens rest all g a b c d e =
    let w : rows ≡ any_below (λ r. bears_keeper (get_or (v RowKeeper) r 0)) (rows_given v) =
    a ∙ below_same (λ i. bears_keeper (get_or (v RowKeeper) (0 + i) 0)) (λ r. bears_keeper (get_or (v RowKeeper) r 0)) given (λ i h. ap (λ (j : ℕ). bears_keeper (get_or (v RowKeeper) j 0)) (zero-add i)) ∙ rw g in
    rw (e, d, w, b, c)
