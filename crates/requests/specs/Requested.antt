-- What a request asks for, what its call gives, and the masks that its operands can stand for.
use Rattle.std.specs.Prelude.{ℕ, ◌-◌, ◌^◌, take}
use Rattle.terms.specs.Measures.{most_columns}
use Rattle.terms.specs.Answers.{Answer}
use Rattle.history.specs.History.{Call, Outcome, given}
use Rattle.commands.specs.declared.Request.{Request}
use Rattle.commands.specs.Commands.{call_of}
use Rattle.requests.specs.declared.Called.{Called}

-- The call of a request, with all the values of its array. Those at and past the columns are looked at by nothing.
abbrev pub requested : Request → Call
requested r = call_of r.kind r.operands r.values

-- the answer, and of the slice the places that were lent
abbrev pub given_by : Called → Outcome Answer
given_by r = given r.answer (take r.lent r.stamps)

-- the mask of every column that a store can have
abbrev pub most_mask : ℕ
most_mask = 2 ^ most_columns - 1
