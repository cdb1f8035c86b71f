-- A turn enters one entry more, open or free.
use Rattle.std.proofs.Common.{sym, ◌∙◌, arith}
use Rattle.words.specs.Words.{words}
use Rattle.words.proofs.Words.{length_words}
use Rattle.scans.proofs.Table.{none_entered, open_entered, free_entered}
use Rattle.requests.specs.Packed.{entries_of}
use Rattle.requests.proofs.Entries.{length_entries}
use Rattle.requests.proofs.packed.table.Goals as goal
use Rattle.requests.proofs.packed.table.Goals.{then-is_open, else-is_open}

pub loop-i-init : goal.loop-i-init
loop-i-init c =
    let l = c.args.list.now in
    none_entered (entries_of (words l)) _ _ (omega (arith, length_words l, length_entries (words l))) c.blank-t.ensures

pub loop-i-preserved : goal.loop-i-preserved
loop-i-preserved c =
    let l = c.loop-i in
    let e = c.entry_at-p in
    elim c.if-is_open.branch [
      | then-is_open w ↦ open_entered _ _ l.t _ l.i e.result l.invariant (omega arith) e.ensures (w.t-is ∙ w.add_open-t.ensures)
      | else-is_open w ↦ rw w.t-is (free_entered _ _ l.t l.i e.result l.invariant (omega arith) e.ensures (sym c.is_open.ensures ∙ w.if-is_open.false))
    ]
