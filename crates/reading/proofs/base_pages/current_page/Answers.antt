-- The word of the range and column's chunk.
use Rattle.model.specs.Stored.{current_in}
use Rattle.rows.proofs.Indices.{chunk_in}
use Rattle.reading.proofs.base_pages.current_page.Goals as goal

pub returns : goal.returns
unfolding current_in
returns c =
    let inside = c.requires.g_lt_ranges in
    (c.read.ensures, rw c.read.ensures (c.requires.pooled _ (chunk_in c.args.s c.requires.proper _ _ inside.0 inside.1)))
