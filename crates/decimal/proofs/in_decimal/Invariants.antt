-- The digits of what is left and those that are stored are the number's, and the places that are left are enough.
use Rattle.std.proofs.Common.{◌≡◌, ◌<◌, ◌^◌, ◌++◌, length, drop}
use Rattle.decimal.specs.Decimal.{decimal}
use Rattle.decimal.specs.Written.{most_digits}
use Rattle.decimal.proofs.Digits.{front}
use Rattle.decimal.proofs.in_decimal.Given as goal

abbrev pub invariant-loop-rest : goal.invariant-loop-rest
invariant-loop-rest l =
    (l.from < most_digits) × (l.rest < 10 ^ l.from) × (front l.rest ++ drop l.from l.digits ≡ decimal l.fn.n) × (length l.digits ≡ most_digits)

abbrev pub decreases-loop-rest : goal.decreases-loop-rest
decreases-loop-rest l = l.rest
