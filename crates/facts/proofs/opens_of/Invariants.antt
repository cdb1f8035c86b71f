-- After i turns the first i numbers are read.
use Rattle.std.proofs.Common.{◌≡◌, length, take}
use Rattle.terms.specs.Measures.{most_transactions}
use Rattle.layout.specs.View.{view_of}
use Rattle.layout.specs.declared.Region.TheVariants.{Opens}
use Rattle.facts.proofs.opens_of.Given as goal

abbrev pub invariant-loop-i : goal.invariant-loop-i
invariant-loop-i l = (length l.opens ≡ most_transactions) × (take l.i l.opens ≡ take l.i (view_of l.s l.mem Opens))
