-- The first search, or else the second.
use Rattle.std.proofs.Common.{rules}
use Rattle.merging.proofs.Pass.{free_found}
use Rattle.merging.proofs.free_page.Goals as goal

pub returns : goal.returns
returns c =
    free_found c.args.s c.args.mem.now c.requires.suffices c.requires.proper _ c.find_in.ensures _ _ c.or_else.ensures (λ k. search rules)
