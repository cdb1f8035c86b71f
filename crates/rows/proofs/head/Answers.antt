-- A link of 0 is none, and any other is a used record of the row's range.
use Rattle.std.proofs.Common.{arith}
use Rattle.rows.proofs.Cases.{head_empty, head_found}
use Rattle.rows.proofs.Indices.{row_in_lem}
use Rattle.rows.proofs.head.Goals as goal

pub returns-then-link-eq0-clause-value : goal.returns-then-link-eq0-clause-value
returns-then-link-eq0-clause-value c = search head_empty

pub slot_of-requires-clause-g_lt_ranges : goal.slot_of-requires-clause-g_lt_ranges
slot_of-requires-clause-g_lt_ranges c =
    let inside = row_in_lem _ c.requires.proper _ c.requires.linked _ c.requires.row_bound in
    (omega (arith, inside), omega arith, omega (arith, inside))

pub returns-clause-value : goal.returns-clause-value
returns-clause-value c = search head_found
