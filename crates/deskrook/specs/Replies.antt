-- The answer as C takes it, and what the exports promise: what the calls do, of an answer whose form in C is the reply.
use Rattle.std.specs.Prelude.{ℕ, ◌≡◌, cond, List, pos}
use Rattle.std.specs.Int.{w32}
use Rattle.std.proofs.Common.{of_z}
use Rattle.terms.specs.declared.Shape.{Shape}
use Rattle.terms.specs.Refusals.{refusal_number}
use Rattle.std.specs.Prelude.{Ok, Err}
use Rattle.terms.specs.Answers.{Answer}
use Rattle.terms.specs.declared.Fields.{Fields}
use Rattle.terms.specs.declared.ScanEntry.{ScanEntry}
use Rattle.terms.specs.declared.Refusal.{Refusal}
use Rattle.terms.specs.declared.Form.{Form}
use Rattle.words.specs.Words.{words}
use Rattle.layout.specs.Regions.{form_number}
use Rattle.facts.specs.Usable.{stored_form, usable}
use Rattle.history.specs.History.{Call, move, Outcome, given}
use Rattle.promise.specs.Promise.{Serves, Gives, Moves, Makes}
use Rattle.deskrook.specs.declared.reply.Reply.{Reply}

abbrev pub reply_of : Answer → Reply
reply_of (Err r) = record { result = refusal_number r; first = 0; second = 0; stamp = 0; sum = pos 0 }
reply_of (Ok Fields.Done) = record { result = 0; first = 0; second = 0; stamp = 0; sum = pos 0 }
reply_of (Ok (Fields.Number n)) = record { result = 0; first = n; second = 0; stamp = 0; sum = pos 0 }
reply_of (Ok (Fields.Version v s)) = record { result = 0; first = of_z w32 v; second = 0; stamp = s; sum = pos 0 }
reply_of (Ok (Fields.Value v)) = record { result = 0; first = of_z w32 v; second = 0; stamp = 0; sum = pos 0 }
reply_of (Ok Fields.None) = record { result = 32; first = 0; second = 0; stamp = 0; sum = pos 0 }
reply_of (Ok (Fields.Sum n v)) = record { result = 0; first = n; second = 0; stamp = 0; sum = v }
reply_of (Ok (Fields.Lineage n m)) = record { result = 0; first = n; second = m; stamp = 0; sum = pos 0 }
reply_of (Ok (Fields.Listed n)) = record { result = 0; first = n; second = 0; stamp = 0; sum = pos 0 }

-- the reply is that of an answer of which P holds
abbrev pub Replied : (Answer → Type 0) → Reply → Type 0
Replied P r = (a : Answer) × P a × (r ≡ reply_of a)

unfoldable pub Replies : List ℕ → List ScanEntry → Call → Reply → List ℕ → List ScanEntry → Type 0
Replies m ps c r m' ps' = Replied (λ a. Serves m ps c a m' ps') r

-- with the slice that a call is lent to write
unfoldable pub RepliesWith : List ℕ → List ScanEntry → Call → Outcome Reply → List ℕ → List ScanEntry → Type 0
RepliesWith m ps c o m' ps' = Replied (λ a. Gives m ps c (given a o.stamps) m' ps') o.answer

unfoldable pub RepliesMade : List ℕ → List ScanEntry → Shape → Reply → List ℕ → List ScanEntry → Type 0
RepliesMade m ps S r m' ps' = Replied (λ a. Makes m ps S a m' ps') r

unfoldable pub RepliesMoved : List ℕ → List ScanEntry → (to : Form) (second : List ℕ) → Reply → List ℕ → Type 0
RepliesMoved m ps to second r second' = Replied (λ a. Moves m ps (move to second) a second') r

-- whether memory and list are usable, as an answer: the number of the form that the memory is in
unfoldable pub usability : List ℕ → List ScanEntry → Answer
usability m ps = cond (usable m ps) (Ok (Fields.Number (form_number (stored_form (words m))))) (Err Refusal.Memory)
