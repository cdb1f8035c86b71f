-- One lemma for each way through the tests.
use Rattle.reading.proofs.Answering.{answers_not, answers_original, answers_setting, answers_delete}
use Rattle.reading.proofs.answers_for.Goals as goal

pub returns-then-not-has_bit : goal.returns-then-not-has_bit
returns-then-not-has_bit c = search answers_not

pub returns-then-kind-eq-ORIGINAL : goal.returns-then-kind-eq-ORIGINAL
returns-then-kind-eq-ORIGINAL c = search answers_original

pub returns-then-kind-eq-SETTING : goal.returns-then-kind-eq-SETTING
returns-then-kind-eq-SETTING c = search answers_setting

pub returns-else-kind-eq-SETTING : goal.returns-else-kind-eq-SETTING
returns-else-kind-eq-SETTING c = search answers_delete
