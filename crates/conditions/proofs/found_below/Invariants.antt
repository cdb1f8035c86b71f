-- None of the first i numbers passes, by each test that says what the closure does.
use Rattle.std.proofs.Common.{◌≡◌, ℕ, ◌<◌, Bool, false}
use Rattle.model.specs.Stored.{any_below}
use Rattle.conditions.proofs.found_below.Given as goal

abbrev pub invariant-loop-i : goal.invariant-loop-i
invariant-loop-i g l = (p : ℕ → Bool) → ((j : ℕ) (b : Bool) → j < l.n → goal.F-post g l.passes j b → b ≡ p j) → false ≡ any_below p l.i
