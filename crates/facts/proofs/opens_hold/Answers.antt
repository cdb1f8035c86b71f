-- The numbers of the open transactions are the whole of their region.
use Rattle.std.proofs.Common.{refl, arith, take_all}
use Rattle.terms.specs.Measures.{most_transactions}
use Rattle.layout.specs.View.{view_of}
use Rattle.layout.specs.declared.Region.TheVariants.{Opens}
use Rattle.facts.specs.Tests.{opens_hold}
use Rattle.facts.proofs.Parts.{whole, opens_length}
use Rattle.facts.proofs.opens_hold.Goals as goal

pub returns : goal.returns
unfolding opens_hold
returns c =
    let s = c.args.s in
    let m = c.args.mem.now in
    let long = opens_length s m c.requires in
    rw (c.both.ensures, c.all_differ.ensures, c.opens_of-opens.ensures, take_all most_transactions (view_of s m Opens) (omega arith), c.between_in-numbers.ensures, c.read-given.ensures, whole s m Opens most_transactions c.requires refl)
