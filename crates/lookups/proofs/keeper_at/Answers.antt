-- The tests of read at are those of its keeper.
use Rattle.std.proofs.lemmas.Result.{err_from_is_err_and}
use Rattle.std.proofs.Common.{refl}
use Rattle.std.specs.Prelude.{Ok}
use Rattle.history.specs.History.{Call}
use Rattle.model.specs.Calls.{reply_in, act_in, entries_after}
use Rattle.admission.proofs.Served.{serving, read_serves, all_passed, by_any}
use Rattle.lookups.proofs.Answers.{keeper_at_tests, keeper_answer}
use Rattle.lookups.proofs.keeper_at.Goals as goal

pub returns-in_err-s : goal.returns-in_err-s
returns-in_err-s c = let p = err_from_is_err_and c.from_residual.result c.from_residual.ensures.1 in rw (p.1, p.2) (search (serving, c.in_err-s.ensures))

pub returns-in_err-read_at_tests : goal.returns-in_err-read_at_tests
returns-in_err-read_at_tests c = let p = err_from_is_err_and c.from_residual-in_err-read_at_tests.result c.from_residual-in_err-read_at_tests.ensures.1 in rw (p.1, p.2) (search (serving, keeper_at_tests, c.in_ok-s.ensures, c.in_err-read_at_tests.ensures.says))

pub returns : goal.returns
unfolding reply_in act_in entries_after
returns c =
    let k : Call = Call.keeper_at c.args.stamp.0 c.args.row.0 c.args.column in
    read_serves c.in_ok-s.s _ _ _ k c.in_ok-s.ensures refl (all_passed _ _ _ k _ (by_any _ _ _ k _ (keeper_at_tests c.in_ok-s.s c.args.mem.now c.args.stamp.0 c.args.row.0 c.args.column (Ok 0) c.in_ok-read_at_tests.ensures.says))) _ _ c.type_inv.mem (λ ps q few. (search keeper_answer, refl, refl))
