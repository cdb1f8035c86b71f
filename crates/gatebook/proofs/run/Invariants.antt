-- Before each round nothing waits to be written, and the input buffer has room. The measure falls, since a round that reads nothing is the last.
use Rattle.std.proofs.Common.{ℕ, ◌≡◌, ◌-◌, ◌<◌, true, false}
use Rattle.std.specs.Prelude.{cond}
use Rattle.turns.specs.Turns.{store_in}
use Rattle.commands.specs.Commands.{command_bytes}
use Rattle.gatebook.specs.Course.{Ran}
use Rattle.gatebook.proofs.run.Given as goal

abbrev pub invariant-loop-reader : goal.invariant-loop-reader
invariant-loop-reader g l =
    (l.c.written ≡ 0) × (l.c.on ≡ true → (l.c.held < command_bytes) × (l.c.last ≡ false))
    × Ran (store_in l.initial.mem l.initial.scans) l.c (store_in l.mem l.scans) l.input

-- more than is ever read
abbrev top : ℕ
top = 18446744073709551616

abbrev pub decreases-loop-reader : goal.decreases-loop-reader
decreases-loop-reader g l = cond l.c.on (top - l.c.read) 0
