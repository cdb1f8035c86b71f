-- What a call answers: the fields of an accepted call, or why it was refused.
use Rattle.std.specs.Prelude.{Result}
use Rattle.terms.specs.declared.Fields.{Fields}
use Rattle.terms.specs.declared.Refusal.{Refusal}

abbrev pub Answer : Type 0
Answer = Result Fields Refusal
