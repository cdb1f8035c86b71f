-- The tests tell what the writing asks for.
use Rattle.changes.proofs.Tests.{in_part}
use Rattle.changes.proofs.begin.Goals as goal

pub begin-requires-clause-mem_bound : goal.begin-requires-clause-mem_bound
begin-requires-clause-mem_bound c = search (in_part, c.in_ok-s.ensures, c.in_ok-free.ensures.if_passed)
