-- The crossings are listed behind the tests of row, column and span.
use Rattle.std.proofs.Common.{w32}
use mir.ValLaws.{to_z-of_z}
use Rattle.std.proofs.lemmas.Result.{err_from_is_err_and}
use Rattle.lookups.proofs.Listing.{span_fails, listing}
use Rattle.lookups.proofs.tested_crossings.Goals as goal

pub returns-in_err-crossings_tests : goal.returns-in_err-crossings_tests
returns-in_err-crossings_tests c = let p = err_from_is_err_and c.from_residual.result c.from_residual.ensures.1 in rw (p.1, p.2) (search (span_fails, c.in_err-crossings_tests.ensures.says))

pub returns : goal.returns
returns c = search (listing, c.in_ok-crossings_tests.ensures.says, to_z-of_z w32 _ c.ranges.mark)
