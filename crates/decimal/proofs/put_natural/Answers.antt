-- The digits of a number of 32 bits fit the field.
use Rattle.std.proofs.Common.{◌≤◌, length, arith}
use Rattle.decimal.specs.Decimal.{decimal}
use Rattle.decimal.specs.Written.{natural_digits}
use Rattle.decimal.proofs.Digits.{decimal_short}
use Rattle.decimal.proofs.Pieces.{joined}
use Rattle.decimal.proofs.put_natural.Goals as goal
use Rattle.decimal.proofs.put_natural.Goals.{Start}

short : (c : Start) → length (decimal c.args.n) ≤ natural_digits
short c = decimal_short natural_digits c.args.n (omega arith) (omega arith)

pub put_decimal-requires : goal.put_decimal-requires
put_decimal-requires c = omega (arith, short (goal.at.put_decimal-requires c).Start)

pub returns : goal.returns
returns c = (joined c.put-next.ensures c.put_decimal.ensures, omega (arith, short (goal.at.returns c).Start, c.put_decimal.ensures.ends))
