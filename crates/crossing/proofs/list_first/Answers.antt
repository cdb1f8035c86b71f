-- `crossing::list_first` meets its contract: the pass stands, before each record, where the values of those before it leave it.
use Rattle.std.proofs.Common.{arith}
use Rattle.layout.specs.View.{view_of}
use Rattle.model.specs.Preconditions.{shape_in}
use Rattle.model.specs.Versions.{values_in}
use Rattle.crossing.proofs.Standing.{stands_first, stands_at_next, stands_still, stands_next, stands_listed}
use Rattle.crossing.proofs.list_first.Goals.{in-Some-tell, in_default-tell}
use Rattle.crossing.proofs.list_first.Goals as goal

pub loop-next-init : goal.loop-next-init
loop-next-init c =
    stands_at_next (shape_in c.args.s) (view_of c.args.s c.args.mem.now) c.args.who c.args.q _ _ _ _ 0 _ _ (omega arith) (omega arith) c.next_of_row-next.ensures (unfold values_in in stands_first _ _ _)

pub loop-next-preserved : goal.loop-next-preserved
loop-next-preserved c =
    let here = rw c.in-Some.is at c.loop-next.invariant in
    let on = stands_at_next (shape_in c.args.s) (view_of c.args.s c.args.mem.now) c.args.who c.args.q _ c.args.stamps.now in
    elim c.match-tell.branch [
      | in-Some-tell w ↦
          let told = stands_next _ _ _ _ _ _ _ _ _ _ c.range_of-g.ensures here.2 _ c.tell.ensures _ w.in-Some-tell.is _ _ w.turn-p.ensures.continues in
          rw (w.p-is, w.stamps-is) (on _ _ _ _ _ (omega (arith, here.1, w.turn-p.ensures.found_bound)) (omega (arith, here.0)) c.next_of_row-next-in-Some.ensures told)
      | in_default-tell w ↦
          let still = stands_still _ _ _ _ _ _ _ _ _ _ c.range_of-g.ensures here.2 _ c.tell.ensures w.in_default-tell.is in
          rw (w.p-is, w.stamps-is) (on _ _ _ _ _ (omega (arith, here.1)) (omega (arith, here.0)) c.next_of_row-next-in-Some.ensures still)
    ]

pub returns-clause-lists : goal.returns-clause-lists
returns-clause-lists c =
    let all = rw c.in_default.is at c.loop-next.invariant in
    stands_listed _ _ _ _ _ _ _ _ _ _ _ all.1 (rw c.range_of-g.ensures at c.read-used.ensures) c.note.ensures.0 c.note.ensures.1
