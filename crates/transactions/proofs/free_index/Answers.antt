-- The first free entry of the list of open transactions, from a search over its words.
use Rattle.std.proofs.Common.{◌≤◌, length, arith}
use Rattle.terms.specs.Measures.{most_transactions}
use Rattle.words.specs.Words.{words}
use Rattle.layout.specs.declared.Region.{Region}
use Rattle.layout.specs.Regions.{need}
use Rattle.layout.specs.View.{view_of}
use Rattle.layout.proofs.View.{view_long}
use Rattle.words.proofs.Words.{length_words}
use Rattle.loops.proofs.Indices.{find_index}
use Rattle.transactions.proofs.free_index.Goals as goal

pub returns : goal.returns
returns c =
    let m = c.args.mem.now in
    let h : need c.args.s ≤ length (words m) = omega (arith, length_words m) in
    rw c.find_in.ensures (find_index 0 (view_of c.args.s m Region.Opens) most_transactions (view_long c.args.s (words m) h Region.Opens))
