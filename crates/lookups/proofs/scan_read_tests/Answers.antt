-- What the tests of row and column refuse stands behind the scan.
use Rattle.std.proofs.lemmas.Result.{err_from_is_err_and}
use Rattle.model.specs.Calls.{tests_in}
use Rattle.admission.specs.Tested.{TestsBy}
use Rattle.admission.proofs.Decided.{deciding}
use Rattle.lookups.proofs.scan_read_tests.Goals as goal

pub returns-in_err-row_tests-clause-tests_by : goal.returns-in_err-row_tests-clause-tests_by
unfolding TestsBy tests_in
returns-in_err-row_tests-clause-tests_by c = let p = err_from_is_err_and c.from_residual.result c.from_residual.ensures.1 in rw (p.1, p.2) (λ ps q few. search (deciding, c.in_err-row_tests.ensures.says, c.in-Some.is))
