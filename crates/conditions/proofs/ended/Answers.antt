-- With no delete of the row, no record is asked.
use Rattle.layout.specs.View.{view_of}
use Rattle.conditions.proofs.Records.{none_ends}
use Rattle.conditions.proofs.ended.Goals as goal

pub returns-then-not-any_delete : goal.returns-then-not-any_delete
returns-then-not-any_delete c =
    none_ends (view_of c.args.s c.args.mem.now) c.args.t.0 c.args.row.0 c.args.at c.args.n _ c.any_delete.ensures c.if-not-any_delete.true
