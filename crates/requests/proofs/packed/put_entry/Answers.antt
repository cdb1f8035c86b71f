-- The four words are those of the entry.
use Rattle.std.proofs.Common.{sym, arith}
use Rattle.std.proofs.Math.Seq.{set_out}
use Rattle.words.specs.Words.{words}
use Rattle.words.proofs.Words.{length_words}
use Rattle.requests.specs.Packed.{entries_of}
use Rattle.requests.proofs.Entries.{entries_put, length_entries}
use Rattle.requests.proofs.packed.put_entry.Goals as goal

pub returns-then-i-list : goal.returns-then-i-list
returns-then-i-list c =
    let list = c.args.list.now in
    rw (c.put-then-i-list-3.ensures, c.put-then-i-list-2.ensures, c.put-then-i-list.ensures, c.put.ensures)
    (entries_put (words list) c.args.i _ _ _ _ (omega (arith, length_words list)))

pub returns-else-i-list : goal.returns-else-i-list
returns-else-i-list c =
    let ws = words c.args.list.now in
    sym (set_out (entries_of ws) c.args.i c.args.p (omega (arith, length_words c.args.list.now, length_entries ws)))
