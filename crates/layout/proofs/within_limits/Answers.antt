-- The four tests, one after the other, are those of the definition.
use mathlib.Core.Bool.{and_assoc}
use Rattle.terms.specs.Measures.{within_limits}
use Rattle.layout.proofs.within_limits.Goals as goal

pub returns : goal.returns
unfolding within_limits
returns c = rw (c.and_between.ensures, c.and_between-t.ensures, c.and_between-r.ensures, c.and_between-c.ensures) (simp and_assoc)
