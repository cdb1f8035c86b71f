-- When a lent memory with a list of open scans is usable, for any bytes and any list: rule 8.8 of
-- docs/SPECIFICATION.md. Which of the two forms a call works on is the promise's to say. The shape is read from the memory, so its form and measures are tested before anything is computed from them, and a
-- memory that is too short to hold them is too short.
use Rattle.std.specs.Prelude.{ℕ, ◌*◌, Bool, ◌&&◌, List, leb, length, get_or}
use Rattle.terms.specs.Measures.{within_limits, most_scans}
use Rattle.terms.specs.declared.Shape.{Shape}
use Rattle.terms.specs.declared.ScanEntry.{ScanEntry}
use Rattle.words.specs.Words.{words}
use Rattle.layout.specs.declared.Sizes.{Sizes}
use Rattle.terms.specs.declared.Form.{Form}
use Rattle.layout.specs.Regions.{need, form_known, form_in, columns_in, columns_at, ranges_at, capacity_at, spares_at}
use Rattle.layout.specs.Sizes.{shape_of, sizes_of}
use Rattle.layout.specs.View.{view_of}
use Rattle.facts.specs.Facts.{facts_hold}

-- the bytes of the four measures
abbrev pub measures_bytes : ℕ
measures_bytes = 16

unfoldable pub stored_shape : List ℕ → Shape
stored_shape ws = shape_of (columns_in (get_or ws columns_at 0)) (get_or ws ranges_at 0) (get_or ws capacity_at 0) (get_or ws spares_at 0)

-- its form, where it is one that calls work on
unfoldable pub stored_form : List ℕ → Form
stored_form ws = form_in (get_or ws columns_at 0)

unfoldable pub stored_sizes : List ℕ → Sizes
stored_sizes ws = sizes_of (stored_form ws) (stored_shape ws)

-- 9.10: the memory is in a form that calls work on; and its measures are within their limits
unfoldable pub measures_hold : List ℕ → Bool
measures_hold ws = form_known (get_or ws columns_at 0) && within_limits (stored_shape ws)

unfoldable pub usable : List ℕ → List ScanEntry → Bool
usable m ps =
    leb measures_bytes (length m)
    && (measures_hold (words m)
    && (leb (need (stored_sizes (words m)) * 4) (length m)
    && (leb most_scans (length ps) && facts_hold (stored_sizes (words m)) (view_of (stored_sizes (words m)) m) ps)))
