-- The rows' marks leave the counts that the records' marks go by.
use Rattle.transactions.proofs.Tails.{rows_counted, marked_all}
use Rattle.transactions.proofs.mark_all.Goals as goal

pub mark_tails-requires-clause-counted : goal.mark_tails-requires-clause-counted
mark_tails-requires-clause-counted c =
    rows_counted _ _ _ c.args.rows c.requires.rows_value.2 _ _ c.mark_in.ensures _ c.requires.counted

pub returns : goal.returns
returns c =
    let asked = c.requires.rows_value in
    marked_all _ _ _ c.args.rows asked.2 _ _ c.mark_in.ensures _ _ _ asked.4 c.mark_tails.ensures c.read-given.ensures
