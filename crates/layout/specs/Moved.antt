-- The view of a store that was moved into another stored form: rule 8.12 of docs/SPECIFICATION.md. Every word of the regions that both forms have is as it was, but for
-- the columns' word, which says the form; the regions that the first form does not have are all 0, and empty in that form.
use Rattle.std.specs.Prelude.{replicate}
use Rattle.terms.specs.declared.Shape.{Shape}
use Rattle.terms.specs.declared.Form.{Form}
use Rattle.layout.specs.declared.Sizes.{Sizes}
use Rattle.layout.specs.declared.Region.TheVariants.{Header, RowKeeper, TailKeeper, OpenKeeper}
use Rattle.layout.specs.Regions.{columns_at, columns_word}
use Rattle.layout.specs.Sizes.{sizes_of}
use Rattle.layout.specs.View.{View, put, renew}

-- with 0 in the regions that the first form does not have, by the sizes moved to
unfoldable pub later_zero : Sizes → View → View
later_zero s v = renew OpenKeeper (replicate s.later.opens 0) (renew TailKeeper (replicate s.later.slots 0) (renew RowKeeper (replicate s.later.rows 0) v))

-- a store of the shape S, moved to the form f
unfoldable pub moved : Form → Shape → View → View
moved f S v = put Header columns_at (columns_word f S.columns) (later_zero (sizes_of f S) v)
