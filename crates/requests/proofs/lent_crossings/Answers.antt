-- The mark is the signed number of its operand.
use Rattle.std.proofs.Common.{◌∙◌}
use Rattle.std.specs.Int.{w32}
use mir.ValLaws.{to_z-of_z}
use Rattle.requests.proofs.Arms.{all_lent}
use Rattle.requests.proofs.lent_crossings.Goals as goal

pub returns : goal.returns
returns c =
    let mark = to_z-of_z w32 c.of_word-mark.result (record { sfits = c.of_word-mark.type_inv }) ∙ c.of_word-mark.ensures in
    search (all_lent, mark)
