-- The counts are the flags joined, and the words of the ranges are the whole of their region.
use Rattle.std.proofs.Common.{refl}
use Rattle.layout.specs.declared.Region.TheVariants.{Used}
use Rattle.facts.specs.Facts.{stored_within}
use Rattle.facts.proofs.Parts.{whole}
use Rattle.facts.proofs.counts_within.Goals as goal

pub returns : goal.returns
unfolding stored_within
returns c =
    rw (c.both-4.ensures, c.both-3.ensures, c.both-2.ensures, c.both.ensures, c.read-scans.ensures, c.read-transactions.ensures, c.between_in-used.ensures, c.read.ensures, whole c.args.s c.args.mem.now Used c.args.s.ranges c.requires.0 refl)
