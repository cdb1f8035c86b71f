-- A free entry is passed over, an open one added.
use Rattle.std.proofs.Common.{sym, ◌∙◌}
use Rattle.scans.proofs.Table.{none_entered, open_entered, free_entered}
use Rattle.scans.proofs.table_from.Goals as goal
use Rattle.scans.proofs.table_from.Goals.{then-is_open, else-is_open}

pub loop-i-init : goal.loop-i-init
loop-i-init g c ps e h = none_entered ps _ _ (sym e) c.blank-t.ensures

pub loop-i-preserved : goal.loop-i-preserved
loop-i-preserved g c ps e h =
    let before = c.loop-i.invariant ps e h in
    let read = h _ _ c.loop-i-test.true c.entry_at-p.ensures in
    elim c.if-is_open.branch [
      | then-is_open w ↦ rw w.t-is (open_entered _ _ _ _ _ _ before c.loop-i-test.true read w.add_open-t.ensures)
      | else-is_open w ↦ rw w.t-is (free_entered _ _ _ _ _ before c.loop-i-test.true read (sym c.is_open.ensures ∙ w.if-is_open.false))
    ]
