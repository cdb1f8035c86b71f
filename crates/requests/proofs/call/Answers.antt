-- Each arm's call is the one that its kind stands for, over the table of the list.
use Rattle.commands.specs.Commands.{call_of}
use Rattle.requests.proofs.Arms.{asks, read_unlent, write_unlent, unlent, tabled, tabled_given}
use Rattle.requests.proofs.call.Goals as goal

pub returns-in-Read : goal.returns-in-Read
unfolding call_of
returns-in-Read c = search (asks, unlent, read_unlent, tabled)

pub returns-in-Write : goal.returns-in-Write
unfolding call_of
returns-in-Write c = search (asks, unlent, write_unlent, tabled)

pub returns-in-OpenScan : goal.returns-in-OpenScan
unfolding call_of
returns-in-OpenScan c = search (asks, unlent, c.open_listed.ensures c.table-t.ensures)

pub returns-in-Close : goal.returns-in-Close
unfolding call_of
returns-in-Close c = search (asks, unlent, c.close_listed.ensures c.table-t.ensures)

pub returns-in-Crossings : goal.returns-in-Crossings
unfolding call_of
returns-in-Crossings c = search (asks, tabled_given)
