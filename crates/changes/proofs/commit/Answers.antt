-- The tests tell what the writing asks for.
use Rattle.std.proofs.lemmas.Result.{err_from_is_err_and}
use Rattle.std.proofs.Common.{rules, refl}
use Rattle.model.specs.Calls.{reply_in, act_in, entries_after}
use Rattle.admission.proofs.Served.{serving, write_serves, all_passed, by_any}
use Rattle.changes.proofs.Tests.{in_part}
use Rattle.changes.proofs.commit.Goals as goal

pub returns-in_err-at : goal.returns-in_err-at
returns-in_err-at c = let p = err_from_is_err_and c.from_residual-in_err-at.result c.from_residual-in_err-at.ensures.1 in rw (p.1, p.2) (search (serving, c.in_ok-s.ensures, c.in_err-at.ensures.tests))

pub returns : goal.returns
unfolding reply_in act_in entries_after
returns c =
    write_serves c.in_ok-s.s c.in_ok-s.n _ _ _ c.in_ok-s.ensures refl (all_passed _ _ _ _ _ (by_any _ _ _ _ _ c.in_ok-at.ensures.tests)) _ _ _ (search rules) (search rules)
    (λ ps q few. (refl, search (in_part, c.in_ok-s.ensures, c.in_ok-at.ensures.finds, c.commit.ensures), refl))
