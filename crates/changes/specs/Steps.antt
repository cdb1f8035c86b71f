-- The tests that update and delete share.
use Rattle.std.specs.Prelude.{ℕ, List, [], ◌∷◌}
use Rattle.terms.specs.declared.Shape.{Shape}
use Rattle.terms.specs.declared.Refusal.{Refusal}
use Rattle.layout.specs.View.{View}
use Rattle.history.specs.History.{Test, ◌when◌}
use Rattle.model.specs.Calls.{held_in, gone_in, lacks_in}

-- the last tests of a call that appends n tail records to row r
abbrev pub append_tests : Shape → View → ℕ → ℕ → ℕ → List Test
append_tests S v t r n =
    Refusal.Held when held_in S v t r ∷ Refusal.Gone when gone_in S v t r ∷ Refusal.Tail when lacks_in S v r n ∷ []
