-- What is asked of the sizes moved from and to; each way in which a move ends is a law of proofs/Ends.antt that the check finds.
use Rattle.std.proofs.Common.{arith}
use Rattle.admission.specs.Admitted.{Fitted}
use Rattle.moving.proofs.Ends.{fitted, small, sizes_moved, word_moved, part_room}
use Rattle.moving.proofs.move_to.Goals as goal

pub keeper_lost-requires : goal.keeper_lost-requires
keeper_lost-requires c = search (fitted, c.in_ok-s.ensures)

pub overflow_cast-s : goal.overflow_cast-s
overflow_cast-s c =
    let known : Fitted c.in_ok-s.s c.args.mem.now = search (fitted, c.in_ok-s.ensures) in
    omega (arith, known.proper.columns_to)

pub columns_word-word-requires : goal.columns_word-word-requires
columns_word-word-requires c =
    let known : Fitted c.in_ok-s.s c.args.mem.now = search (fitted, c.in_ok-s.ensures) in
    omega (arith, known.proper.columns_to)

pub lay_moved-requires-clause-suffices : goal.lay_moved-requires-clause-suffices
lay_moved-requires-clause-suffices c =
    let known : Fitted c.in_ok-s.s c.args.mem.now = search (fitted, c.in_ok-s.ensures) in
    (known.room, search part_room)

pub lay_moved-requires-clause-s_bound : goal.lay_moved-requires-clause-s_bound
lay_moved-requires-clause-s_bound c =
    let known : Fitted c.in_ok-s.s c.args.mem.now = search (fitted, c.in_ok-s.ensures) in
    (known.small, search (small, c.in_ok-s.ensures))

pub lay_moved-requires-clause-s_value : goal.lay_moved-requires-clause-s_value
lay_moved-requires-clause-s_value c =
    let known : Fitted c.in_ok-s.s c.args.mem.now = search (fitted, c.in_ok-s.ensures) in
    (known.sizes_are, search (sizes_moved, c.in_ok-s.ensures), search (word_moved, c.in_ok-s.ensures))
