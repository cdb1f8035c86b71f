-- One lemma for each way through the tests.
use Rattle.merging.proofs.Pass.{applies_not, applies_other, applies_committed}
use Rattle.merging.proofs.is_applied.Goals as goal
use Rattle.merging.proofs.is_applied.Goals.{then-not-has_bit-via-then-not-has_bit, then-not-has_bit-via-else-not-has_bit+then-read-ne-SETTING}

pub returns-then-not-has_bit : goal.returns-then-not-has_bit
returns-then-not-has_bit c =
    elim c.then-not-has_bit.branch [
      | then-not-has_bit-via-then-not-has_bit w ↦ search applies_not
      | then-not-has_bit-via-else-not-has_bit+then-read-ne-SETTING w ↦ search applies_other
    ]

pub returns : goal.returns
returns c = search applies_committed
