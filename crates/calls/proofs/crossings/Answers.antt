-- `calls::crossings` meets its contract, by the law `listed`: what the slice holds names the call.
use borrow.Author.Rules.{rules}
use mir.Syntax.{w32}
use mir.ValLaws.{to_z-of_z}
use Rattle.history.specs.History.{Call}
use Rattle.calls.proofs.crossings.Goals as goal

pub returns : goal.returns
returns c = c.listed.ensures.promised (λ l. Call.crossings c.args.row.0 c.args.column c.args.mark c.args.from.0 c.args.to.0 l) (λ m t s s' a p. rw (← to_z-of_z w32 c.args.mark c.ranges.mark) (search rules))
