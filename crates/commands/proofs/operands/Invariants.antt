-- The first i operands are read, and `at` is behind them.
use Rattle.std.proofs.Common.{◌≡◌, take, length}
use Rattle.commands.specs.Commands.{most_operands, operands, total}
use Rattle.commands.proofs.operands.Given as goal

abbrev pub invariant-loop-i : goal.invariant-loop-i
invariant-loop-i l = (take l.i l.out ≡ operands 0 (take l.i l.format.widths) l.bytes) × (l.at ≡ total (take l.i l.format.widths)) × (length l.out ≡ most_operands)
