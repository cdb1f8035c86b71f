-- The appended record is the newest, and the current pages are as they were.
use Rattle.std.proofs.Common.{arith}
use Rattle.layout.specs.View.{put, renew}
use Rattle.model.specs.Writing.{appended}
use Rattle.writing.proofs.Steps.{appended_newest, original_is}
use Rattle.writing.proofs.append_original.Goals as goal

pub fill_cells-requires-clause-proper : goal.fill_cells-requires-clause-proper
unfolding appended put renew
fill_cells-requires-clause-proper c = (c.requires.proper.0, rw c.append.ensures c.requires.proper.1)

pub fill_cells-requires-clause-newest : goal.fill_cells-requires-clause-newest
fill_cells-requires-clause-newest c = (appended_newest _ _ _ _ _ _ _ _ c.append.ensures c.requires.suffices c.requires.proper.0 c.requires.room, omega arith)

pub returns : goal.returns
returns c = original_is _ _ _ _ _ _ _ _ c.read_later-keeper.ensures c.append.ensures c.fill_cells.ensures c.requires.suffices c.requires.proper.0 c.requires.room
