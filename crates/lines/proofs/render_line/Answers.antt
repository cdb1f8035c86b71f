-- The pieces that are written are those of the line.
use Rattle.std.proofs.Common.{◌≡◌, ℕ, min, length, take, arith}
use Rattle.std.proofs.Math.ListN.{length-take}
use Rattle.std.proofs.lemmas.List.{take_min}
use Rattle.terms.specs.Measures.{lent_stamps}
use Rattle.decimal.proofs.Pieces.{joined}
use Rattle.lines.specs.Lines.{capitals, line}
use Rattle.lines.proofs.Pieces.{rendered}
use Rattle.lines.proofs.render_line.Goals as goal

pub returns : goal.returns
unfolding line capitals
returns c =
    let start = rw (c.digit-first.ensures, c.digit-second.ensures) at c.put-start.ensures in
    let whole : lent_stamps ≡ length c.args.stamps = omega arith in
    let lent : take (min c.args.lent lent_stamps) c.args.stamps ≡ take c.args.lent c.args.stamps = rw whole (take_min c.args.lent c.args.stamps) in
    let outcome = rw (c.min-places.ensures, lent) at c.put_outcome-end.ensures.0 in
    rendered (joined start (joined outcome c.put.ensures)) (omega (arith, start.ends, length-take {A = ℕ}))
