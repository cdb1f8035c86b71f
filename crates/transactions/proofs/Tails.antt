-- The loop that marks the used records of every range, and the counts that it goes by.
use Prim.Native.Nat.{ℕ, ◌+◌, ◌≤◌}
use mathlib.Core.Path.{◌≡◌, ap, ◌∙◌}
use mathlib.Core.Logic.{◌≢◌}
use mathlib.Core.List.{List}
use native.Mathlib.Omega.{arith}
use native.Mathlib.Numerals.{add-one}
use lib.Dec.{T}
use lib.ListN.{get_or}
use Rattle.terms.specs.declared.Shape.{Shape}
use Rattle.layout.specs.declared.Sizes.{Sizes}
use Rattle.layout.specs.declared.Region.{Region}
use Rattle.layout.specs.Regions.{index}
use Rattle.layout.specs.View.{View, renew, mark, rows_given, used_in}
use Rattle.layout.proofs.View.{renew_here, renew_there}
use Rattle.model.specs.Writing.{mark_tails, mark_all}
use Rattle.model.specs.Preconditions.{Counted}
use Rattle.transactions.specs.Steps.{markable, tail_marked, tails_marked}
use Rattle.layout.proofs.Renewed.{renew_none, renew_again}

module _ (S : Shape) (t : ℕ) (k : Region) (w : ℕ) (v : View) where
  -- the view after g ranges
  unfoldable pub marks_to : ℕ → View
  marks_to g = renew k (mark_tails S (v Region.Used) (v Region.TailTransaction) t w g (v k)) v

  pub marks_none : v ≡ marks_to 0
  unfolding marks_to
  marks_none = renew_none k v

  -- what a turn reads is as it was
  pub marks_used : (x : View) (g i : ℕ) → index k ≢ index Region.Used → x ≡ marks_to g → used_in x i ≡ used_in v i
  unfolding marks_to
  marks_used x g i d e =
      ap (λ (y : View). get_or (y Region.Used) i 0) e ∙ ap (λ (l : List ℕ). get_or l i 0) (renew_there k Region.Used _ v d)

  pub marks_next : (x x' : View) (g : ℕ) → index k ≢ index Region.TailTransaction → index k ≢ index Region.Used
      → x ≡ marks_to g → x' ≡ tail_marked S t k w g x → x' ≡ marks_to (g + 1)
  unfolding marks_to tail_marked mark
  marks_next x x' g d u e p =
      let l : List ℕ = mark_tails S (v Region.Used) (v Region.TailTransaction) t w g (v k) in
      p ∙ rw (e, renew_there k Region.TailTransaction l v d, renew_there k Region.Used l v u, renew_here k l v, renew_again, add-one)

  pub marks_all : (x : View) (g : ℕ) → x ≡ marks_to g → g ≤ S.ranges → S.ranges ≤ g → x ≡ tails_marked S t k w v
  unfolding marks_to tails_marked
  marks_all x g e h m = let q : g ≡ S.ranges = omega arith in e ∙ rw q

-- the counts of a view with the same header and the same numbers of records
pub counted_kept : (s : Sizes) (v w : View) → w Region.Header ≡ v Region.Header → w Region.Used ≡ v Region.Used → Counted s v → Counted s w
counted_kept s v w h u c =
    record { rows_given = rw h c.rows_given; records_used = λ g l. rw u (c.records_used g l) }

-- ---- what is marked is apart from what the marks go by
pub record Apart (k : Region) : Type 0 where
  pub header : index k ≢ index Region.Header
  pub rows : index k ≢ index Region.RowTransaction
  pub records : index k ≢ index Region.TailTransaction
  pub used : index k ≢ index Region.Used

pub apart : (k : Region) → T (markable k) → Apart k
apart k t = record { header = λ e. rw e at t; rows = λ e. rw e at t; records = λ e. rw e at t; used = λ e. rw e at t }

module _ (t w n : ℕ) (rows : Region) (r : T (markable rows)) (v x : View) (a : x ≡ mark Region.RowTransaction t rows 0 n w v) where
  pub rows_counted : (s : Sizes) → Counted s v → Counted s x
  unfolding mark
  rows_counted s k = rw a (counted_kept s v _ (renew_there rows Region.Header _ v (apart rows r).header) (renew_there rows Region.Used _ v (apart rows r).used) k)

  pub marked_all : (S : Shape) (tails : Region) (y : View) → index rows ≢ index tails → y ≡ tails_marked S t tails w x → n ≡ rows_given v → y ≡ mark_all S t rows tails w v
  unfolding mark mark_all tails_marked
  marked_all S tails y d b e = rw (b, a, e, renew_there rows Region.Used _ v (apart rows r).used, renew_there rows Region.TailTransaction _ v (apart rows r).records, renew_there rows tails _ v d)

pub counted_marked : (S : Shape) (t w : ℕ) (rows tails : Region) → T (markable rows) → T (markable tails) → (v x : View) → x ≡ mark_all S t rows tails w v
    → (s : Sizes) → Counted s v → Counted s x
unfolding mark_all
counted_marked S t w rows tails r q v x a s k = rw a
    (counted_kept s v _ (renew_there tails Region.Header _ _ (apart tails q).header ∙ renew_there rows Region.Header _ v (apart rows r).header)
    (renew_there tails Region.Used _ _ (apart tails q).used ∙ renew_there rows Region.Used _ v (apart rows r).used) k)
