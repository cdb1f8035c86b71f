-- The newest record lies among the slots, and its values among the values.
use Rattle.std.proofs.Common.{◌+◌, ◌*◌, ◌-◌, arith}
use Rattle.layout.specs.Regions.{slot}
use Rattle.layout.proofs.Indices.{tail_in, values_in_lem}
use Rattle.writing.proofs.newest_values.Goals as goal

pub returns : goal.returns
unfolding slot
returns c =
    let a = c.args in
    let n = c.requires.newest in
    let slots = tail_in a.s c.requires.proper a.g n.range_below in
    (rw c.read-used.ensures, values_in_lem a.s c.requires.proper (a.g * a.s.capacity + (c.read-used.result - 1)) (omega (arith, slots, c.read-used.ensures, n.some, n.most)))
