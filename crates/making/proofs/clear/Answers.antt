-- Zeros in every word that is needed.
use Rattle.std.proofs.Common.{arith}
use Rattle.words.specs.Words.{words}
use Rattle.words.proofs.Words.{length_words}
use Rattle.making.proofs.Blank.{blank_filled}
use Rattle.making.proofs.clear.Goals as goal

pub returns : goal.returns
returns c =
    let m = c.args.mem.now in
    rw (c.fill.ensures, c.words_needed-n.ensures) (blank_filled c.args.s (words m) (omega (arith, length_words m)))
