-- The first i words are the first i values, and the others 0.
use Rattle.std.proofs.Common.{◌≡◌, take, length}
use Rattle.terms.specs.Measures.{most_columns}
use Rattle.commands.specs.Commands.{values}
use Rattle.commands.specs.Decoded.{ZerosPast}
use Rattle.commands.proofs.values.Given as goal

abbrev pub invariant-loop-i : goal.invariant-loop-i
invariant-loop-i l = (take l.i l.out ≡ values l.i l.bytes) × (length l.out ≡ most_columns) × ZerosPast l.i l.out
