-- The digits of a magnitude of 64 bits fit the field, behind the sign where there is one.
use Rattle.std.proofs.Common.{◌≤◌, length, arith}
use Rattle.std.specs.Int.{w64}
use mir.ValLaws.{to_z-of_z}
use Rattle.decimal.specs.Decimal.{decimal}
use Rattle.decimal.specs.Written.{most_digits}
use Rattle.decimal.proofs.Digits.{decimal_short}
use Rattle.decimal.proofs.Pieces.{joined}
use Rattle.decimal.proofs.Signs.{shown, shown_below}
use Rattle.decimal.proofs.put_signed.Goals as goal
use Rattle.decimal.proofs.put_signed.Goals.{After-unsigned_abs, then-z-lt0, else-z-lt0}

short : (c : After-unsigned_abs) → length (decimal c.unsigned_abs.result) ≤ most_digits
short c = decimal_short most_digits _ (omega arith) (omega arith)

pub put_decimal-requires : goal.put_decimal-requires
put_decimal-requires c =
    let few = short (goal.at.put_decimal-requires c).After-unsigned_abs in
    elim c.if-z-lt0.branch [ then-z-lt0 w ↦ omega arith | else-z-lt0 w ↦ omega arith ]

pub returns : goal.returns
returns c =
    let few = short (goal.at.returns c).After-unsigned_abs in
    let z = to_z-of_z w64 c.args.z c.ranges.z in
    let digits = rw (c.unsigned_abs.ensures.value, z) at c.put_decimal.ensures in
    elim c.if-z-lt0.branch [
      | then-z-lt0 w ↦
          let behind = rw (w.out-is, w.next-is) at digits in
          (rw (shown_below c.args.z (rw z at w.if-z-lt0.true)) at (joined w.put-next.ensures behind), omega (arith, digits.ends))
      | else-z-lt0 w ↦ (rw (w.out-is, w.next-is, shown c.args.z (rw z at w.if-z-lt0.false)) at digits, omega (arith, digits.ends))
    ]
