-- A mask of more bits is refused as the mask 0 is; the other arms need no answer.
use Rattle.commands.specs.Commands.{write_of}
use Rattle.requests.proofs.Arms.{write_arm}
use Rattle.requests.proofs.Masks.{masked}
use Rattle.requests.proofs.change.Goals as goal

pub returns-in-Update : goal.returns-in-Update
unfolding write_of
returns-in-Update c = search (write_arm, masked)
