-- The tests of begin are those of begin as.
use Rattle.std.proofs.lemmas.Result.{err_from_is_err_and}
use Rattle.std.proofs.Common.{rules, refl, ap}
use Rattle.std.specs.Prelude.{Ok}
use Rattle.terms.specs.declared.Fields.{Fields}
use Rattle.history.specs.History.{Call}
use Rattle.model.specs.Calls.{reply_in, act_in, entries_after}
use Rattle.admission.proofs.Served.{serving, write_serves, all_passed, by_any}
use Rattle.changes.proofs.Tests.{in_part, begin_as_tests}
use Rattle.changes.proofs.begin_as.Goals as goal

pub returns-in_err-s : goal.returns-in_err-s
returns-in_err-s c = let p = err_from_is_err_and c.from_residual.result c.from_residual.ensures.1 in rw (p.1, p.2) (search (serving, c.in_err-s.ensures))

pub returns-in_err-free : goal.returns-in_err-free
returns-in_err-free c = let p = err_from_is_err_and c.from_residual-in_err-free.result c.from_residual-in_err-free.ensures.1 in rw (p.1, p.2) (search (serving, begin_as_tests, c.in_ok-s.ensures, c.in_err-free.ensures.says))

pub begin-requires-clause-mem_bound : goal.begin-requires-clause-mem_bound
begin-requires-clause-mem_bound c = search (in_part, c.in_ok-s.ensures, c.in_ok-free.ensures.if_passed)

pub returns : goal.returns
unfolding reply_in act_in entries_after
returns c =
    write_serves c.in_ok-s.s c.in_ok-s.n _ _ (Call.begin_as c.args.keeper) c.in_ok-s.ensures refl (all_passed _ _ _ (Call.begin_as c.args.keeper) _ (by_any _ _ _ (Call.begin_as c.args.keeper) _ (begin_as_tests c.in_ok-s.s c.args.mem.now c.args.keeper (Ok 0) c.in_ok-free.ensures.says))) _ _ _ (search rules) (search rules)
    (λ ps q few. (ap (λ x. Ok (Fields.Number x)) c.begin.ensures.0, c.begin.ensures.1, refl))
