-- What the loops over open numbers and tail records look for.
use Rattle.std.specs.Prelude.{ℕ, Bool, not, ◌&&◌, eqb, get_or}
use Rattle.layout.specs.declared.Region.TheVariants.{TailRow, TailTransaction, TailKind, TailState}
use Rattle.layout.specs.View.{View}
use Rattle.model.specs.Stored.{delete_kind}
use Rattle.model.specs.Calls.{open_other, stands_for}

-- the number k of an entry is another open transaction's than t's
abbrev pub is_other : ℕ → ℕ → Bool
is_other t k = not (eqb k 0) && not (eqb k t)

-- the record at a slot holds row r against t
abbrev pub holds_at : View → ℕ → ℕ → ℕ → Bool
holds_at v t r slot = eqb (get_or (v TailRow) slot 0) r && open_other v t (get_or (v TailTransaction) slot 0)

-- it is a delete of row r
abbrev pub deletes_at : View → ℕ → ℕ → Bool
deletes_at v r slot = eqb (get_or (v TailRow) slot 0) r && delete_kind (get_or (v TailKind) slot 0)

-- it ends row r in t's view
abbrev pub ends_at : View → ℕ → ℕ → ℕ → Bool
ends_at v t r slot =
    eqb (get_or (v TailRow) slot 0) r
    && (delete_kind (get_or (v TailKind) slot 0) && stands_for t (get_or (v TailTransaction) slot 0) (get_or (v TailState) slot 0))
