-- Each turn reads one number more, and there are as many as may be open.
use Rattle.std.proofs.Common.{◌≡◌, ◌∙◌, arith, length-set}
use Rattle.terms.specs.Measures.{most_transactions}
use Rattle.loops.proofs.Taken.{take_next, take_whole}
use Rattle.facts.proofs.Parts.{opens_length}
use Rattle.facts.proofs.opens_of.Goals as goal

pub loop-i-preserved : goal.loop-i-preserved
loop-i-preserved c =
    let loop = c.loop-i in
    let n = opens_length c.args.s c.args.mem.now c.requires in
    (length-set loop.opens loop.i _ ∙ loop.invariant.0, take_next 0 loop.opens _ loop.i _ c.read.ensures loop.invariant.1 (omega arith) (omega arith))

pub returns : goal.returns
returns c =
    let loop = c.loop-i in
    let e : loop.i ≡ most_transactions = omega arith in
    take_whole loop.opens _ most_transactions loop.invariant.0 (opens_length c.args.s c.args.mem.now c.requires) (rw e at loop.invariant.1)
