-- A turn goes by the current pages as they were, since the writes lie in another region.
use Rattle.std.proofs.Common.{◌≡◌, arith}
use Rattle.layout.proofs.Indices.{chunks_in}
use Rattle.writing.specs.Steps.{value_words}
use Rattle.writing.proofs.Steps.{cells_none, cells_current, cells_next, cells_all, word_of}
use Rattle.writing.proofs.put_cells.Goals as goal

pub loop-c-init : goal.loop-c-init
loop-c-init c = cells_none _ _ _ _ _

pub cell_at-at-requires-clause-chunk_lt_chunks : goal.cell_at-at-requires-clause-chunk_lt_chunks
cell_at-at-requires-clause-chunk_lt_chunks c =
    let inside = c.requires.g_lt_ranges in
    let chunks = chunks_in c.args.s c.requires.proper.0 c.args.g inside.0 in
    (omega (arith, chunks), inside.1, rw (cells_current _ _ _ _ _ _ _ c.loop-c.invariant) (c.requires.proper.1 _ (omega (arith, chunks))))

pub loop-c-preserved : goal.loop-c-preserved
loop-c-preserved c =
    let word : c.to_word.result ≡ value_words c.args.vs c.loop-c.c = search word_of in
    cells_next _ _ _ _ _ _ _ _ _ c.loop-c.invariant word (rw c.cell_at-at.ensures.0 at c.write.ensures)

pub returns : goal.returns
returns c = search cells_all
