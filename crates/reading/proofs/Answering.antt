-- Whether a record answers for a column: one lemma for each way through the code.
use Prim.Native.Nat.{ℕ}
use mathlib.Core.Path.{◌≡◌}
use mathlib.Core.Bool.{Bool, true, false}
use lib.Dec.{eqb}
use lib.ListN.{get_or}
use borrow.Author.Tests.{ne_eqb}
use Rattle.layout.specs.declared.Region.TheVariants.{TailKind, TailMask}
use Rattle.layout.specs.View.{View}
use Rattle.history.specs.History.{bit}
use Rattle.model.specs.declared.Reader.{Reader}
use Rattle.model.specs.Stored.{record_in}
use Rattle.model.specs.Reading.{sees_record, answers_for}

module _ (v : View) (who : Reader) (c at mask : ℕ) (x : Bool) (e : mask ≡ get_or (v TailMask) at 0) (b : x ≡ bit mask c) where
  pub answers_not : x ≡ false → false ≡ answers_for who c (record_in v at)
  unfolding answers_for record_in
  answers_not h = rw (← e, ← b, h)

  module _ (kind : ℕ) (h : x ≡ true) (k : kind ≡ get_or (v TailKind) at 0) where
    pub answers_original : kind ≡ 0 → true ≡ answers_for who c (record_in v at)
    unfolding answers_for record_in
    answers_original z = rw (← e, ← b, h, ← k, z)

    pub answers_setting : (seen : Bool) → kind ≡ 1 → seen ≡ sees_record who (record_in v at) → seen ≡ answers_for who c (record_in v at)
    unfolding answers_for record_in
    answers_setting seen z q = rw (← e, ← b, h, ← k, z) q

    pub answers_delete : (kind ≡ 0 → ⊥) → (kind ≡ 1 → ⊥) → eqb kind 1 ≡ answers_for who c (record_in v at)
    unfolding answers_for record_in
    answers_delete z o = rw (← e, ← b, h, ← k, ne_eqb kind 0 z, ne_eqb kind 1 o)
