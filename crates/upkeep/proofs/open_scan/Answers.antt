-- The tests tell that a number is left for the scan, and the list's first free entry.
use Rattle.std.proofs.Common.{rules, refl, ap}
use Rattle.std.specs.Prelude.{Ok}
use Rattle.terms.specs.declared.Fields.{Fields}
use Rattle.model.specs.Calls.{reply_in, act_in}
use Rattle.admission.proofs.Served.{admitted, part_seen, found, write_serves, all_passed}
use Rattle.upkeep.proofs.Listing.{opened_list, number_in_part}
use Rattle.upkeep.proofs.open_scan.Goals as goal

pub give_scan-requires-clause-mem_bound : goal.give_scan-requires-clause-mem_bound
give_scan-requires-clause-mem_bound c = number_in_part _ _ _ _ _ _ c.in_ok-s.ensures c.in_ok-index.ensures.if_passed

pub returns : goal.returns
unfolding reply_in act_in
returns c =
    let seen = part_seen (admitted _ _ _ _ _ c.in_ok-s.ensures).0 in
    write_serves c.in_ok-s.s c.in_ok-s.n _ _ _ c.in_ok-s.ensures refl (all_passed _ _ _ _ _ c.in_ok-index.ensures.tests_by) _ _ _ (search rules) (search rules)
    (λ ps q few. (ap (λ x. Ok (Fields.Number x)) c.give_scan.ensures.0, c.give_scan.ensures.1, opened_list _ ps _ _ _ _ q (found _ _ c.in_ok-index.ensures.finds) (rw seen c.new_entry-entry.ensures)))
