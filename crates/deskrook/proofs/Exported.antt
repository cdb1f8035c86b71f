-- An export replies as its call promises: the answer is there, with the call's promise, and the reply is its encoding; and so with a slice that is written.
use mathlib.Core.Path.{◌≡◌}
use mathlib.Core.List.{List}
use Prim.Native.Nat.{ℕ}
use Rattle.terms.specs.Answers.{Answer}
use Rattle.terms.specs.declared.ScanEntry.{ScanEntry}
use Rattle.history.specs.History.{Call, Outcome, given}
use Rattle.promise.specs.Promise.{Gives}
use Rattle.deskrook.specs.declared.reply.Reply.{Reply}
use Rattle.deskrook.specs.Replies.{reply_of, Replied, RepliesWith}

pub exported : (P : Answer → Type 0) (a : Answer) (r : Reply) → P a → r ≡ reply_of a → Replied P r
exported P a r p e = (a, p, e)

pub filled : (m : List ℕ) (ps : List ScanEntry) (c : Call) (a : Answer) (o : Outcome Reply) (m' : List ℕ) (ps' : List ScanEntry) → Gives m ps c (given a o.stamps) m' ps' → o.answer ≡ reply_of a
    → RepliesWith m ps c o m' ps'
unfolding RepliesWith
filled m ps c a o m' ps' p e = (a, p, e)
