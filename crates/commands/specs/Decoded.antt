-- The call that a decoded command stands for, and what holds of the array of its values.
use Rattle.std.specs.Prelude.{ℕ, ◌≤◌, ◌≡◌, List, ℤ, pos, get_or, take}
use Rattle.history.specs.History.{Call}
use Rattle.commands.specs.declared.Request.{Request}
use Rattle.commands.specs.Commands.{call_of}

abbrev pub call_in : Request → Call
call_in r = call_of r.kind r.operands (take r.count r.values)

-- a request's array holds 0 past its values
abbrev pub ZerosPast : ℕ → List ℤ → Type 0
ZerosPast n vs = (i : ℕ) → n ≤ i → get_or vs i (pos 0) ≡ pos 0
