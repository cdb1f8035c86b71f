-- A turn of the loop takes one digit more.
use Rattle.std.proofs.Common.{◌≡◌, refl, ap, ◌∙◌, ◌/◌, [], ◌∷◌, ◌++◌, arith}
use Rattle.std.proofs.Math.ListN.{length-set}
use Rattle.decimal.specs.Decimal.{digits}
use Rattle.decimal.proofs.Digits.{front, decimal_last, turn}
use Rattle.decimal.proofs.in_decimal.Goals as goal

pub loop-rest-init : goal.loop-rest-init
loop-rest-init c = (
  omega arith,
  omega arith,
  ap (λ g. front (c.args.n / 10) ++ g ∷ []) c.digit.ensures ∙ decimal_last c.args.n,
  refl,
)

pub loop-rest-preserved : goal.loop-rest-preserved
loop-rest-preserved c =
    let t = turn _ _ _ _ _ c.loop-rest.invariant.2 c.digit-in-loop-rest.ensures c.loop-rest.invariant.1 (omega arith) (omega arith) in
    (omega arith, t.1, t.2, simp length-set c.loop-rest.invariant.3)

pub returns : goal.returns
unfolding digits
returns c =
    let none : c.loop-rest.rest ≡ 0 = omega arith in
    (rw none at c.loop-rest.invariant.2, omega arith, c.loop-rest.invariant.3)
