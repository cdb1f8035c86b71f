-- A turn reads one operand more.
use Rattle.std.proofs.Common.{◌≡◌, refl, add-one, arith}
use Rattle.std.proofs.Math.ListN.{length-set}
use Rattle.std.proofs.lemmas.List.{take_all}
use Rattle.commands.specs.Commands.{most_operands, operands}
use Rattle.commands.proofs.Bytes.{narrow_at, total_next, total_part, operand_next}
use Rattle.commands.proofs.operands.Goals as goal

pub loop-i-init : goal.loop-i-init
unfolding operands
loop-i-init c = (refl, refl, refl)

pub number-requires : goal.number-requires
number-requires c = (omega (arith, total_part c.args.format.widths c.loop-i.i), narrow_at c.args.format.widths c.loop-i.i c.requires.0)

pub loop-i-preserved : goal.loop-i-preserved
loop-i-preserved c =
    let ws = c.args.format.widths in (
      operand_next _ _ ws _ _ _ c.loop-i.invariant.0 c.loop-i.invariant.1 c.number.ensures (omega arith) (omega arith),
      rw add-one (omega (arith, total_next ws c.loop-i.i (omega arith))),
      simp length-set c.loop-i.invariant.2,
    )

pub returns : goal.returns
returns c =
    let all : c.loop-i.i ≡ most_operands = omega arith in
    rw (all, take_all most_operands c.loop-i.out (omega arith), take_all most_operands c.args.format.widths (omega arith)) at c.loop-i.invariant.0
