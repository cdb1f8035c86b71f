-- The tests of a call that appends stand behind the transaction and the row.
use Rattle.model.specs.Calls.{tests_in}
use Rattle.admission.specs.Tested.{Tests}
use Rattle.changes.specs.Steps.{append_tests}
use Rattle.admission.proofs.Decided.{deciding}
use Rattle.changes.proofs.delete_tests.Goals as goal

pub returns-clause-tests : goal.returns-clause-tests
unfolding Tests tests_in
returns-clause-tests c = λ ps. search (deciding, c.append_tests.ensures.says, c.in-Some.is, c.in-Some-given_range.is)
