-- A turn reads the current pages as they were, since the writes lie in another region.
use Rattle.std.proofs.Common.{arith}
use Rattle.layout.proofs.Indices.{chunks_in}
use Rattle.writing.proofs.Steps.{fills_none, fills_next, fills_all, fills_current, fills_cell}
use Rattle.writing.proofs.fill_cells.Goals as goal

pub loop-c-init : goal.loop-c-init
loop-c-init c = fills_none _ _ _ _

pub cell_at-requires-clause-chunk_lt_chunks : goal.cell_at-requires-clause-chunk_lt_chunks
cell_at-requires-clause-chunk_lt_chunks c =
    let chunks = chunks_in c.args.s c.requires.proper.0 c.args.g c.requires.newest.0.range_below in
    (omega (arith, chunks), c.requires.newest.1, rw (fills_current _ _ _ _ _ _ c.loop-c.invariant) (c.requires.proper.1 _ (omega (arith, chunks))))

pub loop-c-preserved : goal.loop-c-preserved
loop-c-preserved c =
    let e = c.loop-c.invariant in
    fills_next _ _ _ _ _ _ _ _ e (fills_cell _ _ _ _ _ _ _ _ e (rw c.cell_at.ensures.0 at c.read-w.ensures)) c.write.ensures

pub returns : goal.returns
returns c = search fills_all
