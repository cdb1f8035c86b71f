-- The search over the pages.
use Rattle.std.proofs.Common.{◌≡◌, refl, arith, rules}
use borrow.Author.Tests.{tests}
use Rattle.std.proofs.lemmas.Iterator.{YieldsList-from_range}
use Rattle.std.proofs.lemmas.Iterator.Search.{find_from_yields_List}
use Rattle.layout.specs.View.{view_of}
use Rattle.loops.specs.Search.{found_at}
use Rattle.model.specs.Preconditions.{shape_in}
use Rattle.model.specs.Reading.{was_current}
use Rattle.model.specs.Stored.{first_from}
use Rattle.rows.proofs.Finding.{found_first, found_below}
use Rattle.reading.specs.ScanPages.{old_page}
use Rattle.reading.proofs.ScanPages.{pages_are}
use Rattle.reading.proofs.base_pages.old_page.Goals as goal

pub returns : goal.returns
unfolding old_page
returns c =
    let n = c.args.s.pages in
    let passes = was_current (shape_in c.args.s) (view_of c.args.s c.args.mem.now) c.args.merges c.args.chunk in
    let found : c.find.result ≡ found_at n (first_from passes n 0) =
    found_first passes n c.find.result (find_from_yields_List passes _ _ c.find.result c.find.ensures.ran (YieldsList-from_range 0 n n refl (omega arith)) (λ x b q k. search (rules, tests))) in
    record { value = rw (pages_are c.args.s c.requires.proper) found; inside = found_below _ _ _ found }
