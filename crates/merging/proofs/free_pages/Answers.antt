-- The words of a page are as they were when its turn comes.
use Rattle.std.proofs.Common.{refl, arith}
use Rattle.layout.specs.View.{view_of}
use Rattle.rows.proofs.Indices.{pages_few}
use Rattle.merging.proofs.Freeing.{freed_none, freed_next, freed_end, count_next, count_most}
use Rattle.merging.proofs.free_pages.Goals as goal

pub loop-p-init : goal.loop-p-init
loop-p-init c = (refl, freed_none _ _)

pub free_one-n-requires-clause-p_lt_pages : goal.free_one-n-requires-clause-p_lt_pages
free_one-n-requires-clause-p_lt_pages c =
    let few = count_most c.args.least (view_of c.args.s c.args.mem.now) c.loop-p.p in
    (omega arith, omega (arith, c.loop-p.invariant.0, few, pages_few _ c.requires.proper))

pub loop-p-preserved : goal.loop-p-preserved
loop-p-preserved c =
    let inv = c.loop-p.invariant in
    let done = c.free_one-n.ensures in
    (count_next _ _ _ _ _ _ inv.1 inv.0 done.0, freed_next _ _ _ _ _ inv.1 done.1)

pub returns : goal.returns
returns c = freed_end _ _ c.args.s.pages _ _ _ c.loop-p.invariant.1 c.loop-p.invariant.0 (omega arith) (omega arith)
