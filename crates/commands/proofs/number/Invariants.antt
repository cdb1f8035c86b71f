-- The total is the number of the bytes from i on, and one byte more fits.
use Rattle.std.proofs.Common.{◌≡◌, ◌+◌, ◌-◌, ◌^◌, ◌<◌}
use Rattle.std.proofs.Math.Seq.{slice}
use Rattle.commands.specs.Commands.{little_endian}
use Rattle.commands.proofs.number.Given as goal

abbrev pub invariant-loop-i : goal.invariant-loop-i
invariant-loop-i l = (l.total ≡ little_endian (slice (l.at + l.i) (l.at + l.n) l.bytes)) × (l.total < 256 ^ (l.n - l.i))
