-- What is moved stands at the front.
use Rattle.std.proofs.Common.{◌≡◌, ◌∙◌, sym, ◌+◌, ◌-◌, length, take, drop, arith, length-drop}
use Rattle.std.proofs.lemmas.List.{take_at, drop-take, length-take-le}
use Rattle.gatebook.proofs.buffers.move_down.Goals as goal

pub returns : goal.returns
returns c =
    let b = c.args.buffer.now in
    let n = c.args.n in
    let part = take n (drop c.args.from b) in
    let size : length part ≡ n = length-take-le n (drop c.args.from b) (omega (arith, length-drop c.args.from b)) in
    let same : c.args.from + n - c.args.from ≡ n = omega arith in
    rw (c.copy_within.ensures.after, same) (take_at part (drop (0 + n) b) n size ∙ sym (drop-take c.args.from n b))
