-- The shape is whole, or the input ends in it.
use Rattle.std.proofs.Common.{◌≡◌, ◌≤◌, false, length, arith}
use borrow.Author.Tests.{not-false}
use Rattle.commands.specs.Commands.{shape_bytes}
use Rattle.rounds.proofs.Due.{never}
use Rattle.rounds.proofs.Going.{begun_shape}
use Rattle.rounds.proofs.answer_first.Goals as goal
use Rattle.rounds.proofs.answer_first.Goals.{else-bytes-lt-SHAPE_BYTES-via-then-bytes-lt-SHAPE_BYTES+else-not-last as at_the_end, else-bytes-lt-SHAPE_BYTES-via-else-bytes-lt-SHAPE_BYTES as enough}

pub returns : goal.returns
returns c =
    let whole : c.args.last ≡ false → shape_bytes ≤ length c.args.bytes.now = λ f.
    elim c.else-bytes-lt-SHAPE_BYTES.branch [ at_the_end w ↦ absurd (never w.if-not-last.false f) | enough w ↦ w.if-bytes-lt-SHAPE_BYTES.false ] in
    begun_shape _ c.args.p _ _ _ _ _ _ _ c.requires.1 c.requires.2 (omega arith) (not-false _ c.if-not-p.false) c.if-p.false
    (record { ends = c.min-end.ensures; whole = whole }) c.answer_shape.ensures (omega arith)
