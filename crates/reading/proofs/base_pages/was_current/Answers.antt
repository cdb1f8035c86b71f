-- One lemma for each way through the tests.
use Rattle.reading.proofs.ScanPages.{not_waiting, elsewhere, made_later, made_before}
use Rattle.reading.proofs.base_pages.was_current.Goals as goal
use Rattle.reading.proofs.base_pages.was_current.Goals.{then-read-lt-PAGE_WAITING-via-then-read-lt-PAGE_WAITING, then-read-lt-PAGE_WAITING-via-else-read-lt-PAGE_WAITING+then-read-s}

pub returns-then-read-lt-PAGE_WAITING : goal.returns-then-read-lt-PAGE_WAITING
returns-then-read-lt-PAGE_WAITING c =
    elim c.then-read-lt-PAGE_WAITING.branch [
      | then-read-lt-PAGE_WAITING-via-then-read-lt-PAGE_WAITING w ↦ search not_waiting
      | then-read-lt-PAGE_WAITING-via-else-read-lt-PAGE_WAITING+then-read-s w ↦ search elsewhere
    ]

pub returns-then-read-merges : goal.returns-then-read-merges
returns-then-read-merges c = search made_before

pub returns-else-read-merges : goal.returns-else-read-merges
returns-else-read-merges c = search made_later
