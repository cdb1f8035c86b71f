-- The search over the pages.
use Rattle.std.proofs.Common.{refl, rules, arith}
use borrow.Author.Tests.{tests}
use Rattle.std.proofs.lemmas.Iterator.{YieldsList-from_range}
use Rattle.std.proofs.lemmas.Iterator.Search.{find_from_yields_List}
use Rattle.layout.specs.View.{view_of}
use Rattle.model.specs.Preconditions.{shape_in}
use Rattle.model.specs.Writing.{stray_in}
use Rattle.rows.proofs.Finding.{found_first}
use Rattle.merging.proofs.stray_page.Goals as goal

pub returns : goal.returns
returns c =
    let stray = stray_in (shape_in c.args.s) (view_of c.args.s c.args.mem.now) in
    found_first stray c.args.s.pages c.find.result
    (find_from_yields_List stray _ _ c.find.result c.find.ensures.ran (YieldsList-from_range 0 c.args.s.pages c.args.s.pages refl (omega arith)) (λ x b q k. search (rules, tests)))
