-- The rows that a record of the range may name are none, or neighbours.
use Rattle.std.proofs.Common.{◌+◌, ◌≤◌, length, arith}
use Rattle.words.specs.Words.{words}
use Rattle.words.proofs.Words.{length_words}
use Rattle.layout.specs.Regions.{first_slot}
use Rattle.layout.specs.View.{used_in, view_of}
use Rattle.layout.specs.declared.Region.TheVariants.{TailRow}
use Rattle.layout.proofs.View.{view_long}
use Rattle.layout.proofs.Indices.{tail_in}
use Rattle.facts.specs.Facts.{range_between}
use Rattle.records.proofs.Names.{names_between, names_none}
use Rattle.records.proofs.records_named.Goals as goal

pub returns-then-given-first : goal.returns-then-given-first
returns-then-given-first c = grind (arith, names_none)

pub returns-else-given-first : goal.returns-else-given-first
unfolding range_between
returns-else-given-first c =
    let s = c.args.s in
    let g = c.args.g in
    let v = view_of s c.args.mem.now in
    let long : first_slot s.capacity g + used_in v g ≤ length (v TailRow) = omega (arith, view_long s (words c.args.mem.now) (omega (arith, length_words c.args.mem.now)) TailRow, c.requires.ready.records_in g, tail_in s c.requires.ready.proper g c.requires.g_lt_ranges) in
    grind (arith, names_between)
