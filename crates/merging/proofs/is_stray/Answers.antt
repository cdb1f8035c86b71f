-- One lemma for each way through the tests.
use Rattle.std.proofs.Common.{rules}
use Rattle.merging.proofs.Pass.{stray_not, stray_high, stray_other}
use Rattle.merging.proofs.is_stray.Goals as goal

pub returns-then-read-ne-PAGE_CURRENT : goal.returns-then-read-ne-PAGE_CURRENT
returns-then-read-ne-PAGE_CURRENT c = search stray_not

pub returns-then-chunk-s : goal.returns-then-chunk-s
returns-then-chunk-s c = search stray_high

-- the two tests are found by what they say, so that another test is refused for that
pub returns-else-chunk-s : goal.returns-else-chunk-s
returns-else-chunk-s c =
    stray_other _ _ c.requires.proper.0 _ _ c.read.ensures (search rules) _ c.read-chunk.ensures _ (search rules) c.read-else-chunk-s.ensures
