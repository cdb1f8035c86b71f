-- The widths up to the index are summed, each of them narrow.
use Rattle.std.proofs.Common.{◌≡◌, ◌*◌, ◌≤◌, take}
use Rattle.commands.specs.Commands.{operand_bytes, total}
use Rattle.commands.proofs.total.Given as goal

abbrev pub invariant-loop-width : goal.invariant-loop-width
invariant-loop-width l = (l.total ≡ total (take l.width-index l.width-items)) × (l.total ≤ l.width-index * operand_bytes)
