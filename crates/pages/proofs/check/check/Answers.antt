-- A memory whose measures passed has room for its sizes, and they are proper.
use Rattle.std.proofs.Common.{◌≡◌, ℕ, List, Some, arith}
use Rattle.std.proofs.lemmas.Grind.{common_steps}
use Rattle.words.specs.Words.{words}
use Rattle.layout.specs.declared.Sizes.{Sizes}
use Rattle.layout.specs.Sizes.{Proper}
use Rattle.layout.proofs.Limits.{proper}
use Rattle.facts.specs.Usable.{measures_hold, stored_form, stored_shape, stored_sizes}
use Rattle.pages.specs.Checked.{roomy, measured}
use Rattle.pages.proofs.check.check.Goals as goal

proper_sizes : (m : List ℕ) (s : Sizes) → Some s ≡ measured m → Proper s
unfolding measured roomy measures_hold stored_sizes
proper_sizes m s e =
    let z : s ≡ stored_sizes (words m) = grind arith in
    rw z (proper (stored_form (words m)) (stored_shape (words m)) (grind arith))

pub facts_hold-requires : goal.facts_hold-requires
unfolding measured roomy measures_hold stored_sizes
facts_hold-requires c = (grind (arith, common_steps), proper_sizes _ _ c.in_ok-s.ensures)
