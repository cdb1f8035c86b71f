-- A turn reads one value more.
use Rattle.std.proofs.Common.{refl, arith}
use Rattle.std.specs.Int.{w32}
use mir.ValLaws.{to_z-of_z}
use Rattle.std.proofs.Math.ListN.{length-set}
use Rattle.terms.specs.Measures.{most_columns}
use Rattle.commands.specs.Commands.{values}
use Rattle.commands.proofs.Bytes.{value_next, zeros_at, zeros_next}
use Rattle.commands.proofs.values.Goals as goal

pub loop-i-init : goal.loop-i-init
unfolding values
loop-i-init c = (refl, refl, λ k h. zeros_at most_columns k)

pub loop-i-preserved : goal.loop-i-preserved
loop-i-preserved c = (
  rw (to_z-of_z w32 c.of_word.result (record { sfits = c.of_word.type_inv }))
      (value_next _ _ _ _ _ c.loop-i.invariant.0 c.get.ensures c.of_word.ensures (omega arith) (omega arith)),
  simp length-set c.loop-i.invariant.1,
  zeros_next c.loop-i.out c.loop-i.i _ c.loop-i.invariant.2,
)
