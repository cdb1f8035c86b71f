-- The mark is a word where it is handed on.
use Rattle.std.proofs.Common.{w32}
use mir.ValLaws.{to_z-of_z}
use Rattle.lookups.proofs.Listing.{listed_between}
use Rattle.lookups.proofs.list_between.Goals as goal

pub returns : goal.returns
returns c = listed_between _ _ _ _ _ _ _ _ _ _ _ _ c.reader_at-who.ensures (to_z-of_z w32 _ c.ranges.mark) c.list_crossings.ensures
