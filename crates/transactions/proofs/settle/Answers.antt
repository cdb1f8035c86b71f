-- Three marks, each by the counts that the one before left.
use Rattle.layout.specs.declared.Region.{Region}
use Rattle.model.specs.Preconditions.{Counted}
use Rattle.layout.specs.View.{view_of}
use Rattle.model.specs.Writing.{settled}
use Rattle.transactions.proofs.Tails.{counted_marked}
use Rattle.transactions.proofs.settle.Goals as goal

pub mark_all-requires-2-clause-counted : goal.mark_all-requires-2-clause-counted
mark_all-requires-2-clause-counted c =
    counted_marked _ _ _ Region.RowState Region.TailState tt tt _ _ c.mark_all.ensures _ c.requires.counted

pub mark_all-requires-3-clause-counted : goal.mark_all-requires-3-clause-counted
mark_all-requires-3-clause-counted c =
    let counted : Counted c.args.s (view_of c.args.s c.mark_all.new.mem) =
    counted_marked _ _ _ Region.RowState Region.TailState tt tt _ _ c.mark_all.ensures _ c.requires.counted in
    counted_marked _ _ _ Region.RowStamp Region.TailStamp tt tt _ _ c.mark_all-2.ensures _ counted

pub returns : goal.returns
unfolding settled
returns c = rw (c.mark_all-3.ensures, c.mark_all-2.ensures, c.mark_all.ensures)
