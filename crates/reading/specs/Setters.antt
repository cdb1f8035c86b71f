-- What a caller may do with a setter without looking into its definition.
use Rattle.std.specs.Prelude.{ℕ, ◌<◌}
use Rattle.model.specs.declared.Setter.{Setter}

-- the slot of an update's record is below n
abbrev pub RecordInside : Setter → ℕ → Type 0
RecordInside Setter.Insert n = Unit {0}
RecordInside (Setter.Update i) n = i < n
