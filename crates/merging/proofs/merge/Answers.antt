-- A copy of the current page takes the records after its lineage. The current page is of the pool, and not the free one.
use Rattle.std.proofs.Common.{◌≤◌, ap, ◌∙◌, arith}
use Rattle.model.specs.Stored.{next_word}
use Rattle.merging.proofs.Pass.{merged_is, not_free, reaches, apart}
use Rattle.merging.proofs.merge.Goals as goal

pub copy_in-requires-clause-fact : goal.copy_in-requires-clause-fact
copy_in-requires-clause-fact c = apart _ _ (not_free _ _ _ _ _ _ _ c.requires.proper.0 c.requires.merge_ready c.read-old.ensures)

pub overflow_sub-n : goal.overflow_sub-n
overflow_sub-n c = reaches _ _ _ _ _ _ _ _ c.requires.merge_ready c.read-old.ensures c.read.ensures

pub apply-latest-requires-clause-g_lt_ranges : goal.apply-latest-requires-clause-g_lt_ranges
apply-latest-requires-clause-g_lt_ranges c =
    let m = c.requires.merge_ready in
    let low : c.read.result ≤ c.args.n.0 = reaches _ _ _ _ _ _ _ _ m c.read-old.ensures c.read.ensures in
    (m.range_below, m.column_below, m.page_below, omega (arith, low, m.to))

pub returns : goal.returns
returns c =
    merged_is _ _ _ _ _ _ _ _ _ _ _ _ _ _ _ c.requires.merge_ready.free c.read-old.ensures c.read.ensures c.read-2.ensures
    (c.next_word-m.ensures ∙ ap next_word c.read-3.ensures) c.copy_in.ensures (c.apply-latest.ensures).0 (c.apply-latest.ensures).1 c.put_page.ensures c.replace_page.ensures
