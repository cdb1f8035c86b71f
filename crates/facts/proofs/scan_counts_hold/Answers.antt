-- The table's columns tell of the list's open scans.
use Rattle.facts.specs.Facts.{commits_within}
use Rattle.facts.specs.Tests.{scan_counts_hold}
use Rattle.facts.proofs.Parts.{merges_between, commits_between}
use Rattle.facts.proofs.scan_counts_hold.Goals as goal

pub returns : goal.returns
unfolding scan_counts_hold commits_within
returns c ps e few =
    let t = c.args.t in
    rw (c.both.ensures, c.at_most-commit.ensures, commits_between t ps e _ few, c.read-2.ensures, c.at_most-merge.ensures, merges_between t ps e _ few, c.read.ensures)
