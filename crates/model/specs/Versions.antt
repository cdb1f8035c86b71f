-- The values of a row and column in their order, as the tail records of the row's range tell them, and the crossings of a mark. A record of original values tells what the row was
-- inserted with: it stands before every setting of the column. Where there is none, no update has set the column, and a single value crosses nothing; so no page is looked at.
use Rattle.std.specs.Prelude.{Bool, not, cond, ◌&&◌, ◌||◌, List, [], ◌∷◌, ◌++◌, ℕ, zero, suc, eqb, ℤ}
use Rattle.std.specs.Int.{w32}
use Rattle.std.proofs.Common.{to_z}
use Rattle.terms.specs.declared.Shape.{Shape}
use Rattle.history.specs.History.{Dated, last_of_each, crossings_from, range_of}
use Rattle.layout.specs.View.{View, used_in}
use Rattle.layout.specs.Regions.{slot}
use Rattle.model.specs.declared.Reader.{Reader}
use Rattle.model.specs.declared.Setter.{Setter}
use Rattle.model.specs.Stored.{RecordWords, row_in, record_in, value_in, original_kind}
use Rattle.model.specs.Reading.{reader, all_up_to, sees_row, answers_for, setter_at, setter_stamp}

-- Whether a record tells a value of row r and column c: a seen setting does, and an original where the insert is seen.
unfoldable pub tells : View → Reader → ℕ → ℕ → RecordWords → Bool
tells v who r c x = eqb x.row r && (answers_for who c x && (not (original_kind x.kind) || sees_row who (row_in v r)))

-- the transaction that set it
unfoldable pub setter_number : View → ℕ → Setter → ℕ
setter_number v r Setter.Insert = (row_in v r).transaction
setter_number v r (Setter.Update i) = (record_in v i).transaction

-- the value that the record at slot k tells
unfoldable pub dated_in : Shape → View → ℕ → ℕ → ℕ → Dated
dated_in S v r c k = record { setter = setter_number v r (setter_at v k); stamp = setter_stamp v r (setter_at v k); value = to_z w32 (value_in S v k c) }

-- those of the first n records of the row's range, in their order
unfoldable pub values_in : Shape → View → Reader → ℕ → ℕ → ℕ → List Dated
values_in S v who r c zero = []
values_in S v who r c (suc n) =
    let k = slot S (range_of r) (suc n) in
    let before = values_in S v who r c n in
    cond (tells v who r c (record_in v k)) (before ++ dated_in S v r c k ∷ []) before

-- the crossings between two stamps
unfoldable pub crossings_in : Shape → View → ℕ → ℕ → ℤ → ℕ → ℕ → List ℕ
crossings_in S v r c mark from to = crossings_from mark from (last_of_each (values_in S v (reader (all_up_to to) 0) r c (used_in v (range_of r))))
