-- Who set a row and column, and the stamp that is shown of it: one lemma for each way through the code.
use Prim.Native.Nat.{ℕ, ◌<◌}
use mathlib.Core.Path.{◌≡◌, ap₂, ◌∙◌}
use lib.ListN.{get_or}
use borrow.Author.Tests.{ne_eqb}
use Rattle.layout.specs.declared.Region.TheVariants.{TailKind, TailState, TailStamp, RowState, RowStamp}
use Rattle.layout.specs.View.{View}
use Rattle.model.specs.declared.Setter.{Setter}
use Rattle.model.specs.Stored.{row_in, record_in}
use Rattle.reading.specs.Setters.{RecordInside}
use Rattle.model.specs.Reading.{setter_at, commit_stamp, setter_stamp}

module _ (v : View) (at kind : ℕ) (d : kind ≡ get_or (v TailKind) at 0) where
  pub setter_original : kind ≡ 0 → Setter.Insert ≡ setter_at v at
  unfolding setter_at record_in
  setter_original e = rw (← d, e)

  pub setter_update : (kind ≡ 0 → ⊥) → Setter.Update at ≡ setter_at v at
  unfolding setter_at record_in
  setter_update n = rw (← d, ne_eqb kind 0 n)

-- ---- its stamp
-- the record of a setter that is an update lies below the bound
pub record_inside : (x : Setter) (j n : ℕ) → x ≡ Setter.Update j → RecordInside x n → j < n
record_inside x j n e h = rw e at h

module _ (state stamp : ℕ) where
  pub stamp_committed : state ≡ 1 → stamp ≡ commit_stamp state stamp
  unfolding commit_stamp
  stamp_committed e = rw e

  pub stamp_pending : (state ≡ 1 → ⊥) → 0 ≡ commit_stamp state stamp
  unfolding commit_stamp
  stamp_pending n = rw (ne_eqb state 1 n)

module _ (v : View) (r : ℕ) (x : Setter) (state stamp y : ℕ) (e : y ≡ commit_stamp state stamp) where
  pub insert_stamp : x ≡ Setter.Insert → state ≡ get_or (v RowState) r 0 → stamp ≡ get_or (v RowStamp) r 0 → y ≡ setter_stamp v r x
  unfolding setter_stamp row_in
  insert_stamp q a b = rw q (e ∙ ap₂ commit_stamp a b)

  pub update_stamp : (j : ℕ) → x ≡ Setter.Update j → state ≡ get_or (v TailState) j 0 → stamp ≡ get_or (v TailStamp) j 0 → y ≡ setter_stamp v r x
  unfolding setter_stamp record_in
  update_stamp j q a b = rw q (e ∙ ap₂ commit_stamp a b)
