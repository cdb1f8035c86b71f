-- The tests tell what the merge asks for.
use Rattle.std.proofs.Common.{rules, refl}
use Rattle.std.proofs.lemmas.Result.{err_from_is_err_and}
use Rattle.model.specs.Calls.{reply_in, act_in, entries_after}
use Rattle.admission.proofs.Served.{serving, write_serves, all_passed, by_any}
use Rattle.upkeep.proofs.Tests.{mergeable}
use Rattle.upkeep.proofs.merge.Goals as goal

pub returns-in_err-page : goal.returns-in_err-page
returns-in_err-page c = let p = err_from_is_err_and c.from_residual-in_err-page.result c.from_residual-in_err-page.ensures.1 in rw (p.1, p.2) (search (serving, c.in_ok-s.ensures, c.in_err-page.ensures.tests))

pub merge-requires-clause-merge_ready : goal.merge-requires-clause-merge_ready
merge-requires-clause-merge_ready c = mergeable _ _ _ _ _ _ _ _ _ c.in_ok-s.ensures c.in_ok-page.ensures.finds

pub returns : goal.returns
unfolding reply_in act_in entries_after
returns c =
    write_serves c.in_ok-s.s c.in_ok-s.n _ _ _ c.in_ok-s.ensures refl (all_passed _ _ _ _ _ (by_any _ _ _ _ _ c.in_ok-page.ensures.tests)) _ _ _ (search rules) (search rules)
    (λ ps q few. (refl, c.merge.ensures, refl))
