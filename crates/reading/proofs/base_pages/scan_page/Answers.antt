-- The current page, or else the page that the search found.
use Rattle.rows.proofs.Finding.{inside_or}
use Rattle.reading.proofs.ScanPages.{scan_current, scan_old}
use Rattle.reading.proofs.base_pages.scan_page.Goals as goal

pub returns-then-read-merges : goal.returns-then-read-merges
returns-then-read-merges c = (search scan_current, search)

pub returns : goal.returns
returns c = (rw c.unwrap_or.ensures (search scan_old), rw c.unwrap_or.ensures (search inside_or))
