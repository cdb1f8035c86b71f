-- How many bytes the operands of a command can have, what a called request leaves, and a turn from its outcome.
use Prim.Native.Nat.{ℕ, ◌≤◌}
use mathlib.Core.Path.{◌≡◌, ap, ap₂, sym, ◌∙◌}
use mathlib.Core.Bool.{Bool}
use mathlib.Core.List.{List}
use lib.Dec.{T}
use lib.ListN.{length}
use borrow.Author.Tests.{le-leb}
use Rattle.std.specs.Prelude.{Ok}
use Rattle.terms.specs.Answers.{Answer}
use Rattle.terms.specs.declared.ScanEntry.{ScanEntry}
use Rattle.lines.specs.Written.{Rendered}
use Rattle.commands.specs.declared.Format.{Format}
use Rattle.commands.specs.declared.Request.{Request}
use Rattle.commands.specs.Commands.{width, call_from}
use Rattle.commands.proofs.Uses.{command_in_place}
use Rattle.commands.specs.Decoded.{call_in, ZerosPast}
use Rattle.output.specs.Output.{goes_on}
use Rattle.output.specs.Steps.{outcome_to, state_after, Step}
use Rattle.promise.specs.Promise.{Gives, Serves, Lent}
use Rattle.promise.proofs.Alone.{left_in_place}
use Rattle.history.specs.History.{Outcome, given}
use Rattle.history.specs.Forms.{form_use, in_place}
use Rattle.requests.specs.Requested.{requested}
use Rattle.requests.proofs.Values.{given_call}
use Rattle.turns.specs.Turns.{Does, Turned}

-- a request that is decoded from the operands, called
pub format_called : (x : Lent) (columns : ℕ) (f : Format) (os : List ℕ) (q : Request) (o : Outcome Answer) (m' : List ℕ) (ps' : List ScanEntry) → width columns f ≤ length os
    → (call_in q ≡ call_from columns f os) × ZerosPast q.count q.values → Gives x.memory x.list (requested q) o m' ps'
    → Does x columns (Ok f) os o (record { memory = m'; list = ps' })
unfolding Does outcome_to state_after Gives Serves
format_called x columns f os q o m' ps' h p w =
    let e = le-leb (width columns f) (length os) h in
    let s = given_call x.memory x.list q o m' ps' p.1 w in
    let stay : T (in_place (form_use (call_in q))) = rw p.0 (command_in_place columns f os) in
    (rw (e, ← p.0) (ap₂ given s.0.0 s.1), rw (e, ← p.0, left_in_place x (call_in q) stay, s.0.1, s.0.2))

-- a turn from what was answered: the shape an answer, a command an outcome, `f` its line and `g` the answer in it
pub turned : {A : Type 0} (s : Step Lent) (f : A → List ℕ) (g : A → Answer) (old new : List ℕ) (n : ℕ) (b : Bool) (a a' : A) (x : Lent)
    → s.line ≡ f a → s.on ≡ goes_on (g a) → a' ≡ a → Rendered old new (f a') n → b ≡ goes_on (g a') → x ≡ s.state
    → Turned s old new record { length = n; on = b } x
turned {A} s f g old new n b a a' x l o e h k q =
    record { rendered = rw (l, ← e) h; goes = k ∙ ap (λ (z : A). goes_on (g z)) e ∙ sym o; left = q }
