-- A memory that is not usable is refused with 2; of one that is, the call may rely on what the test has shown.
use Rattle.std.proofs.Common.{refl, arith}
use Rattle.admission.proofs.Fitted.{not_usable, list_known, fit_tells}
use Rattle.admission.specs.Admitted.{Admits}
use Rattle.admission.proofs.admit.Goals as goal

pub returns-in_default : goal.returns-in_default
unfolding Admits
returns-in_default c = (refl, λ ps q. not_usable _ _ ps c.in_default.is (c.check.ensures.value ps q))

pub returns : goal.returns
unfolding Admits
returns c = (
  record {
    bytes = omega (arith, c.words_needed.ensures);
    fitted = search (fit_tells, c.in-Some.is);
    listed = search (list_known, c.check.ensures.value, c.in-Some.is);
  },
  refl,
)
