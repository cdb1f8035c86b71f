-- The words of all entries become 0.
use Rattle.std.proofs.Common.{arith}
use Rattle.words.specs.Words.{words}
use Rattle.words.proofs.Words.{length_words}
use Rattle.requests.proofs.Entries.{entries_freed}
use Rattle.requests.proofs.packed.free_all.Goals as goal

pub returns : goal.returns
returns c =
    let list = c.args.list.now in
    rw c.fill.ensures (entries_freed (words list) _ (omega (arith, length_words list)))
