-- A command more is answered, or none is left: then the program goes on only if more can come.
use Rattle.std.proofs.Common.{arith}
use Rattle.rounds.proofs.Going.{going_next, walked_stop}
use Rattle.rounds.proofs.answer_commands.Goals as goal

pub loop-p-preserved : goal.loop-p-preserved
loop-p-preserved c =
    let a = c.answer_command-p in
    going_next c.loop-p.invariant a.result _ _ _ c.loop-p-test.true c.command_end-end.ensures c.if-end-at.false a.ensures (omega arith)

pub returns-then-end-at : goal.returns-then-end-at
returns-then-end-at c = walked_stop c.loop-p.invariant c.loop-p-test.true (c.command_end-end.ensures.nothing c.if-end-at.true)
