-- The page found is that of the range asked for.
use Rattle.std.proofs.lemmas.Result.{err_from_is_err_and}
use Rattle.std.proofs.Common.{refl}
use Rattle.model.specs.Calls.{reply_in, act_in, entries_after}
use Rattle.admission.proofs.Served.{serving, read_serves, all_passed, by_any}
use Rattle.lookups.proofs.Answers.{lineage_answer}
use Rattle.lookups.proofs.lineage.Goals as goal

pub returns-in_err-g : goal.returns-in_err-g
returns-in_err-g c = let p = err_from_is_err_and c.from_residual-in_err-g.result c.from_residual-in_err-g.ensures.1 in rw (p.1, p.2) (search (serving, c.in_ok-s.ensures, c.in_err-g.ensures.by_index))

pub returns : goal.returns
unfolding reply_in act_in entries_after
returns c = read_serves c.in_ok-s.s _ _ _ _ c.in_ok-s.ensures refl (all_passed _ _ _ _ _ (by_any _ _ _ _ _ (c.in_ok-g.ensures.by_index _))) _ _ c.type_inv.mem (λ ps q few. (search (lineage_answer, c.in_ok-g.ensures.finds), refl, refl))
