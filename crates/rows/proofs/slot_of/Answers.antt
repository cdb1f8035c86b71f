-- The records of a range lie among the slots.
use Rattle.std.proofs.Common.{refl}
use Rattle.layout.specs.Regions.{slot}
use Rattle.rows.proofs.Indices.{slot_in}
use Rattle.rows.proofs.slot_of.Goals as goal

pub returns : goal.returns
unfolding slot
returns c =
    let inside = c.requires.g_lt_ranges in
    (refl, slot_in c.args.s c.requires.proper c.args.g c.args.k.0 inside.0 inside.1 inside.2)
