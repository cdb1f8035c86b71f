-- `calls::downgrade` meets its contract, by the law `moved`: what the second memory holds names the call.
use Rattle.terms.specs.declared.Form.{Form}
use borrow.Author.Rules.{rules}
use Rattle.history.specs.History.{Call}
use Rattle.calls.proofs.downgrade.Goals as goal

pub returns : goal.returns
returns c = c.moved.ensures.promised (λ l. Call.move Form.First l) (λ m t s s' a p. search rules)
