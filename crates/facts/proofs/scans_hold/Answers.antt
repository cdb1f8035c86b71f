-- The table's columns tell of the list's open scans.
use Rattle.facts.specs.Tests.{scans_hold}
use Rattle.facts.proofs.Parts.{count_few, numbers_between, stamps_between, numbers_differ}
use Rattle.facts.proofs.scans_hold.Goals as goal

pub returns : goal.returns
unfolding scans_hold
returns c ps e few =
    let t = c.args.t in
    rw (c.both-3.ensures, c.both-2.ensures, c.both.ensures, c.all_differ-differ.ensures, c.entries_used.ensures.1 (count_few t ps e), numbers_differ t ps e few)
    (rw (c.scan_counts_hold-counts.ensures ps e few, c.at_most-stamp.ensures, stamps_between t ps e _ few, c.at_most-number.ensures, numbers_between t ps e _ few, c.read-last.ensures, c.read-given.ensures))
