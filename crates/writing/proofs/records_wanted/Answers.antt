-- Two records where a column of the mask is new, and else one.
use borrow.Author.Tests.{eq-eqb, ne_eqb}
use Rattle.model.specs.Stored.{row_in}
use Rattle.model.specs.Writing.{records_wanted, new_bits_in}
use Rattle.writing.proofs.records_wanted.Goals as goal

pub returns-then-new_bits-eq0 : goal.returns-then-new_bits-eq0
unfolding records_wanted new_bits_in row_in
returns-then-new_bits-eq0 c = rw (← c.read-old.ensures, ← c.new_bits.ensures, eq-eqb _ _ c.if-new_bits-eq0.true)

pub returns-else-new_bits-eq0 : goal.returns-else-new_bits-eq0
unfolding records_wanted new_bits_in row_in
returns-else-new_bits-eq0 c = rw (← c.read-old.ensures, ← c.new_bits.ensures, ne_eqb _ _ c.if-new_bits-eq0.false)
