-- The entry of the table is that of the scan in the list.
use Rattle.std.proofs.Common.{refl}
use Rattle.model.specs.Calls.{reply_in, act_in, entries_after}
use Rattle.admission.proofs.Served.{read_serves, all_passed}
use Rattle.lookups.proofs.Answers.{cell_scanned}
use Rattle.lookups.proofs.scan_read.Goals as goal

pub returns : goal.returns
unfolding reply_in act_in entries_after
returns c = read_serves c.in_ok-s.s _ _ _ _ c.in_ok-s.ensures refl (all_passed _ _ _ _ _ c.in_ok-j.ensures.tests_by) _ _ c.type_inv.mem (λ ps q few. (search (cell_scanned, c.in_ok-j.ensures.finds, q, few), refl, refl))
