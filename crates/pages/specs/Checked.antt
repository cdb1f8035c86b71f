-- What the test of a lent memory and scan list answers, and what holds of a memory that passed.
use Rattle.std.specs.Prelude.{Bool, cond, ◌&&◌, List, ℕ, ◌*◌, leb, length, Option, Some, None}
use Rattle.terms.specs.declared.ScanEntry.{ScanEntry}
use Rattle.words.specs.Words.{words}
use Rattle.layout.specs.declared.Sizes.{Sizes}
use Rattle.layout.specs.Regions.{need}
use Rattle.facts.specs.Usable.{measures_bytes, measures_hold, stored_sizes, usable}
use Rattle.facts.specs.Tests.{Passed}

-- the tests that come before there is a view: the measures are there, in a form that calls work on and within their limits, and so are the bytes that they need
unfoldable pub roomy : List ℕ → Bool
roomy m = leb measures_bytes (length m) && (measures_hold (words m) && leb (need (stored_sizes (words m)) * 4) (length m))

unfoldable pub measured : List ℕ → Option Sizes
measured m = cond (roomy m) (Some (stored_sizes (words m))) None

unfoldable pub checked : List ℕ → List ScanEntry → Option Sizes
checked m ps = cond (usable m ps) (Some (stored_sizes (words m))) None

abbrev pub Safe : Option Sizes → List ℕ → Type 0
Safe (Some s) m = Passed s m
Safe None m = Unit {0}
