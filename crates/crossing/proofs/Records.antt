-- What a record tells, by the words that the code reads.
use Prim.Native.Nat.{ℕ}
use mathlib.Core.Path.{◌≡◌}
use mathlib.Core.Bool.{Bool, true, false}
use lib.ListN.{get_or}
use borrow.Author.Tests.{eq-eqb, ne_eqb}
use Rattle.layout.specs.declared.Region.{Region}
use Rattle.layout.specs.View.{View}
use Rattle.model.specs.declared.Reader.{Reader}
use Rattle.model.specs.Stored.{record_in}
use Rattle.model.specs.Reading.{answers_for}
use Rattle.model.specs.Versions.{tells}

-- whether the record at slot k tells a value
module _ (v : View) (who : Reader) (r c k row : ℕ) (e : row ≡ get_or (v Region.TailRow) k 0) where
  pub other_row : (row ≡ r → ⊥) → false ≡ tells v who r c (record_in v k)
  unfolding tells record_in
  other_row n = rw (← e, ne_eqb row r n)

  module _ (q : row ≡ r) (a : Bool) (f : a ≡ answers_for who c (record_in v k)) where
    pub not_answering : a ≡ false → false ≡ tells v who r c (record_in v k)
    unfolding tells record_in answers_for
    not_answering g = rw (← e, eq-eqb row r q, ← f, g)

    pub tells_setting : a ≡ true → (kind : ℕ) → kind ≡ get_or (v Region.TailKind) k 0 → (kind ≡ 0 → ⊥) → true ≡ tells v who r c (record_in v k)
    unfolding tells record_in answers_for
    tells_setting t kind w n = rw (← e, eq-eqb row r q, ← f, t, ← w, ne_eqb kind 0 n)
