-- The tests of a call that appends stand behind the transaction, the row and the mask.
use Rattle.model.specs.Calls.{tests_in}
use Rattle.history.specs.History.{bad_mask}
use Rattle.admission.specs.Tested.{Tests}
use Rattle.changes.specs.Steps.{append_tests}
use Rattle.changes.proofs.Tests.{wanted_says}
use Rattle.admission.proofs.Decided.{deciding}
use Rattle.changes.proofs.update_tests.Goals as goal

pub returns-then-bad_mask-clause-tests : goal.returns-then-bad_mask-clause-tests
unfolding Tests tests_in bad_mask
returns-then-bad_mask-clause-tests c = λ vs ps. search (deciding, c.open_index.ensures.value, c.given_range.ensures, c.in-Some.is, c.in-Some-given_range.is)

pub returns-clause-tests : goal.returns-clause-tests
unfolding Tests tests_in bad_mask
returns-clause-tests c = λ vs ps. search (deciding, wanted_says, c.records_wanted.ensures, c.append_tests.ensures.says, c.in-Some.is, c.in-Some-given_range.is)
