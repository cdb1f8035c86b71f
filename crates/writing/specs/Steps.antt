-- The steps between the model's definitions of insert, update and delete and the code's functions: each function writes what one of these says.
use Rattle.std.specs.Prelude.{ℕ, ◌+◌, ◌/◌, ◌≤◌, ◌<◌, cond, List, eqb, get_or, ℤ, pos}
use Rattle.std.specs.Int.{w32}
use Rattle.std.proofs.Common.{of_z}
use Rattle.terms.specs.Measures.{range_rows}
use Rattle.terms.specs.declared.Shape.{Shape}
use Rattle.history.specs.History.{range_of}
use Rattle.layout.specs.declared.Sizes.{Sizes}
use Rattle.layout.specs.declared.Region.{Region}
use Rattle.layout.specs.View.{View, renew, put, used_in}
use Rattle.model.specs.Stored.{row_keeper, within, cell_in, current_in}
use Rattle.layout.specs.Codes.{as_open, as_original}
use Rattle.layout.specs.Regions.{slot}
use Rattle.model.specs.Writing.{put_cells, next_slot, appended, filled_in, new_bits_in, original_appended, setting_appended}

-- the words of what an open transaction has made, at an index of the regions for state, stamp, ordinal and keeper
unfoldable pub open_put : Region → Region → Region → Region → ℕ → ℕ → View → View
open_put state stamp ordinal keepers i keeper v = put keepers i keeper (put ordinal i 0 (put stamp i 0 (put state i as_open v)))

-- the words of row r, inserted by transaction t of a keeper and not yet changed
unfoldable pub row_put : ℕ → ℕ → ℕ → View → View
row_put t keeper r v =
    put Region.RowMask r 0 (put Region.RowLink r 0 (open_put Region.RowState Region.RowStamp Region.RowOrdinal Region.RowKeeper r keeper (put Region.RowTransaction r t v)))

-- the values of a row into cell i of the current pages of range g
unfoldable pub cells_put : Shape → ℕ → ℕ → List ℤ → View → View
cells_put S g i vs v = renew Region.Cells (put_cells S (v Region.Current) g i vs S.columns (v Region.Cells)) v

-- the words of the tail record at slot s, not yet settled
unfoldable pub record_put : ℕ → ℕ → ℕ → ℕ → ℕ → ℕ → ℕ → View → View
record_put s t keeper r kind mask link v =
    open_put Region.TailState Region.TailStamp Region.TailOrdinal Region.TailKeeper s keeper
    (put Region.TailLink s link
    (put Region.TailMask s mask (put Region.TailKind s kind (put Region.TailRow s r (put Region.TailTransaction s t v)))))

-- the words of a row in the current pages of its range, and of a call's values: what a record's columns are filled with
unfoldable pub cell_words : Shape → View → ℕ → ℕ → ℕ → ℕ
cell_words S v g i c = cell_in v (current_in S v g c) i

abbrev pub value_words : List ℤ → ℕ → ℕ
value_words vs c = of_z w32 (get_or vs c (pos 0))

-- the words of all columns of the newest record of range g
unfoldable pub newest_filled : Shape → ℕ → (ℕ → ℕ) → View → View
newest_filled S g f v = filled_in S (slot S g (used_in v g)) f v

-- the record of the original values, whose columns are the bits of `fresh`
unfoldable pub original_put : Shape → ℕ → ℕ → ℕ → View → View
original_put S t r fresh v =
    filled_in S (next_slot S v (range_of r)) (cell_words S v (range_of r) (within r)) (appended S t (row_keeper v r) r as_original fresh v)

-- the one or two records of an update
unfoldable pub records_put : Shape → ℕ → ℕ → ℕ → ℕ → List ℤ → View → View
records_put S t keeper r mask vs v =
    cond (eqb (new_bits_in v r mask) 0) (setting_appended S t keeper r mask vs v) (setting_appended S t keeper r mask vs (original_appended S t r mask v))

-- Row r can be there, and its range has n tail records left.
pub record Room (s : Sizes) (v : View) (r n : ℕ) : Type 0 where
  pub row_below : r < s.rows
  pub left : used_in v (r / range_rows) + n ≤ s.capacity

-- A tail record of range g is there, and so are all that are used.
pub record Newest (s : Sizes) (v : View) (g : ℕ) : Type 0 where
  pub range_below : g < s.ranges
  pub some : 1 ≤ used_in v g
  pub most : used_in v g ≤ s.capacity
