-- The entry of the table names that of the scan in the list.
use Rattle.std.proofs.Common.{refl}
use Rattle.std.proofs.lemmas.Result.{err_from_is_err_and}
use Rattle.model.specs.Calls.{reply_in, act_in}
use Rattle.admission.proofs.Served.{failed_serves, read_serves, all_passed}
use Rattle.upkeep.proofs.Listing.{closed_list}
use Rattle.upkeep.proofs.close_scan.Goals as goal

pub returns-in_err-i : goal.returns-in_err-i
returns-in_err-i c = let p = err_from_is_err_and c.from_residual-in_err-i.result c.from_residual-in_err-i.ensures.1 in rw (p.1, p.2) (failed_serves _ _ _ _ _ c.in_ok-admit.ensures refl _ (c.in_err-i.ensures.tests_by _ _) c.type_inv.mem)

pub returns : goal.returns
unfolding reply_in act_in
returns c =
    read_serves _ _ _ _ _ c.in_ok-admit.ensures refl (all_passed _ _ _ _ _ (c.in_ok-i.ensures.tests_by _ _)) _ _ c.type_inv.mem
    (λ ps q few. (refl, refl, closed_list _ ps _ _ _ _ q few c.in_ok-i.ensures.finds c.free_entry.ensures))
