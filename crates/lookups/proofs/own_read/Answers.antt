-- The index names the transaction whose changes are read, and an own read is a latest one with them.
use Rattle.std.proofs.lemmas.Result.{err_from_is_err_and}
use Rattle.std.proofs.Common.{refl}
use Rattle.model.specs.Calls.{reply_in, act_in, entries_after}
use Rattle.admission.proofs.Served.{serving, read_serves, all_passed, by_any}
use Rattle.lookups.proofs.Answers.{index_open}
use Rattle.lookups.proofs.own_read.Goals as goal

pub returns-in_err-at : goal.returns-in_err-at
returns-in_err-at c = let p = err_from_is_err_and c.from_residual-in_err-at.result c.from_residual-in_err-at.ensures.1 in rw (p.1, p.2) (search (serving, c.in_ok-s.ensures, c.in_err-at.ensures.tests))

pub returns : goal.returns
unfolding reply_in act_in entries_after
returns c =
    let mine = c.own_changes.ensures c.args.transaction.0 (index_open _ _ _ c.in_ok-at.ensures.finds) in
    let read = rw (c.latest_reader-who.ensures, mine) at c.read_current.ensures in
    read_serves c.in_ok-s.s _ _ _ _ c.in_ok-s.ensures refl (all_passed _ _ _ _ _ (by_any _ _ _ _ _ c.in_ok-at.ensures.tests)) _ _ c.type_inv.mem (λ ps q few. (read, refl, refl))
