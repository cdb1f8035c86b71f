-- A slice is as it was where the memory is not usable.
use Rattle.std.proofs.Common.{w32}
use mir.ValLaws.{to_z-of_z}
use Rattle.std.proofs.lemmas.Result.{err_from_is_err_and}
use Rattle.lookups.proofs.Listing.{unfit_listing, fit_listing}
use Rattle.lookups.proofs.crossings.Goals as goal

pub returns-in_err-s : goal.returns-in_err-s
returns-in_err-s c = let p = err_from_is_err_and c.from_residual.result c.from_residual.ensures.1 in rw (p.1, p.2) (search (unfit_listing, c.in_err-s.ensures))

pub returns : goal.returns
returns c = search (fit_listing, c.in_ok-s.ensures, to_z-of_z w32 _ c.ranges.mark)
