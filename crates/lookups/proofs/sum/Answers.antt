-- The entry of the table is that of the scan in the list.
use Rattle.std.proofs.Common.{refl}
use Rattle.std.proofs.lemmas.Result.{err_from_is_err_and}
use Rattle.model.specs.Calls.{reply_in, act_in, entries_after}
use Rattle.admission.proofs.Served.{serving, read_serves, all_passed}
use Rattle.lookups.proofs.Answers.{sum_scanned}
use Rattle.lookups.proofs.sum.Goals as goal

pub returns-in_err-j : goal.returns-in_err-j
returns-in_err-j c = let p = err_from_is_err_and c.from_residual-in_err-j.result c.from_residual-in_err-j.ensures.1 in rw (p.1, p.2) (search (serving, c.in_ok-s.ensures, c.in_err-j.ensures.by_index))

pub returns : goal.returns
unfolding reply_in act_in entries_after
returns c = read_serves c.in_ok-s.s _ _ _ _ c.in_ok-s.ensures refl (all_passed _ _ _ _ _ (c.in_ok-j.ensures.by_index _)) _ _ c.type_inv.mem (λ ps q few. (search (sum_scanned, c.in_ok-j.ensures.finds, q, few), refl, refl))
