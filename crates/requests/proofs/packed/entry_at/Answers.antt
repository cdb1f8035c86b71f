-- The four words are those of the entry.
use Rattle.std.proofs.Common.{sym, arith}
use Rattle.words.specs.Words.{words}
use Rattle.words.proofs.Words.{length_words}
use Rattle.requests.proofs.Entries.{entries_at}
use Rattle.requests.proofs.packed.entry_at.Goals as goal

pub returns : goal.returns
returns c =
    let list = c.args.list.now in
    rw (c.get-4.ensures, c.get-3.ensures, c.get-2.ensures, c.get.ensures) (sym (entries_at (words list) c.args.i (omega (arith, length_words list, c.requires))))
