-- The reply is that of the test, as an answer.
use Rattle.std.proofs.Common.{sym, ap, ◌∙◌}
use Rattle.std.specs.Prelude.{Ok}
use Rattle.terms.specs.declared.Fields.{Fields}
use Rattle.deskrook.specs.Replies.{reply_of}
use Rattle.deskrook.proofs.Tested.{tested}
use Rattle.deskrook.proofs.reply.check_reply.Goals as goal

pub returns-in_default : goal.returns-in_default
returns-in_default c ps e = c.encode.ensures ∙ ap reply_of (tested _ ps _ (sym c.in_default.is ∙ c.check.ensures.value ps e))

pub returns : goal.returns
returns c ps e = c.encode-2.ensures ∙ ap reply_of (ap (λ x. Ok (Fields.Number x)) c.form_number.ensures ∙ tested _ ps _ (sym c.in-Some.is ∙ c.check.ensures.value ps e))
