-- The flag is that of the numbers below i, for whatever test the calls decide.
use Rattle.std.proofs.Common.{◌≡◌, ℕ, ◌<◌, Bool}
use Rattle.facts.specs.Facts.{each}
use Rattle.facts.proofs.flags.each.Given as goal

abbrev pub invariant-loop-i : goal.invariant-loop-i
invariant-loop-i g l = (p : ℕ → Bool) → ((i : ℕ) (b : Bool) → i < l.n → goal.F-post g l.holds i b → b ≡ p i) → l.ok ≡ each l.i p
