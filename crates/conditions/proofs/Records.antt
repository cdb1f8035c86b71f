-- The loops over open numbers and tail records find what the model's conditions say.
use Prim.Native.Nat.{ℕ, ◌+◌, ◌*◌, ◌≤◌, ◌<◌}
use mathlib.Core.Path.{◌≡◌, refl, sym, ◌∙◌, ap, fun_ext}
use mathlib.Core.Bool.{Bool, true, false, not, true≢false}
use mathlib.Core.List.{List}
use native.Mathlib.Omega.{arith}
use native.Mathlib.Nat.{le_refl}
use lib.Dec.{T, eqb, eqb→eq}
use lib.ListN.{length, get_or}
use lib.Seq.{take-length}
use mir.Syntax.{w64}
use mir.Val.{Fits}
use Rattle.terms.specs.Measures.{most_transactions}
use Rattle.terms.specs.declared.Shape.{Shape}
use Rattle.terms.specs.Entries.{bears, first_index}
use Rattle.layout.specs.declared.Region.TheVariants.{Opens, RowTransaction, RowState, TailRow, TailTransaction, TailKind}
use Rattle.layout.specs.declared.Sizes.{Sizes}
use Rattle.layout.specs.Sizes.{Proper}
use Rattle.layout.specs.View.{View, rows_given, used_in}
use Rattle.history.specs.History.{any, range_of}
use Rattle.model.specs.Stored.{row_in, record_in, delete_kind, any_below}
use Rattle.model.specs.Calls.{open_in, open_other, stands_for, gone_in}
use Rattle.history.proofs.Lists.{refuted, both, parts, any_at}
use Rattle.model.proofs.Lists.{any_below_lem, below_found, below_at, first_below, first_passes}
use Rattle.model.specs.Preconditions.{Linked}
use Rattle.layout.proofs.Indices.{slots_few}
use Rattle.rows.proofs.Indices.{stretch_in, row_in_lem}
use Rattle.conditions.specs.Records.{is_other, holds_at, deletes_at, ends_at}
use Rattle.conditions.proofs.Opens.{none_bears, bears_is}

-- a flag that is down does not hold
off : (b : Bool) → b ≡ false → T b → ⊥
off true e t = true≢false e
off false e t = elim t [ ]

-- ---- open numbers
-- the numbers of a list, by their indices
any_entries : (f : ℕ → Bool) (l : List ℕ) (n : ℕ) → length l ≡ n → any_below (λ j. f (get_or l j 0)) n ≡ any f l
any_entries f l n e =
    ap (any_below (λ j. f (get_or l j 0))) (sym e)
    ∙ any_below_lem l 0 (λ j. f (get_or l j 0)) f (length l) (le_refl _) (λ i u. refl)
    ∙ ap (any f) (take-length l)

-- a number other than 0 among the words of the open entries is that of an open transaction
pub open_is : (v : View) (k : ℕ) (flag : Bool) → length (v Opens) ≡ most_transactions → (k ≡ 0 → ⊥)
    → flag ≡ any_below (λ j. eqb (get_or (v Opens) j 0) k) most_transactions → flag ≡ open_in v k
open_is v k flag l z e =
    e ∙ any_entries (λ x. eqb x k) (v Opens) most_transactions l ∙ sym (ap (λ (h : ℕ → Bool). any h (v Opens)) (fun_ext (bears_is k z)))

-- and 0 is no open transaction's
pub open_zero : (v : View) (k : ℕ) → k ≡ 0 → false ≡ open_in v k
open_zero v k e = rw (e, none_bears (v Opens))

-- ---- 9
-- with no other open, no record holds the row
pub none_held : (v : View) (t r at n : ℕ) (flag : Bool) → length (v Opens) ≡ most_transactions
    → flag ≡ any_below (λ j. is_other t (get_or (v Opens) j 0)) most_transactions → flag ≡ false → false ≡ any_below (λ i. holds_at v t r (at + i)) n
unfolding open_other
none_held v t r at n flag l e f =
    sym (refuted _ (λ u. let x = below_found (λ i. holds_at v t r (at + i)) n u in none (get_or (v TailTransaction) (at + x.0) 0) (parts (eqb (get_or (v TailRow) (at + x.0) 0) r) _ x.2).1))
  where
    other : (k x : ℕ) → T (not (eqb k t)) → T (bears k x) → T (is_other t x)
    other k x d u =
        let w = parts (not (eqb x 0)) (eqb x k) u in
        both (not (eqb x 0)) (not (eqb x t)) w.0 (rw (eqb→eq x k w.1) d)

    none : (k : ℕ) → T (open_other v t k) → ⊥
    none k u =
        let w = parts (open_in v k) (not (eqb k t)) u in
        let p = first_index (bears k) (v Opens) in
        off flag f (rw (e ∙ any_entries (is_other t) (v Opens) most_transactions l)
        (any_at (is_other t) (v Opens) 0 p (first_below (bears k) (v Opens) w.0) (other k (get_or (v Opens) p 0) w.1 (first_passes (bears k) (v Opens) 0 w.0))))

-- ---- 10
-- with no delete of the row, no record ends it
pub none_ends : (v : View) (t r at n : ℕ) (flag : Bool) → flag ≡ any_below (λ i. deletes_at v r (at + i)) n → flag ≡ false
    → false ≡ any_below (λ i. ends_at v t r (at + i)) n
none_ends v t r at n flag e f =
    sym (refuted _ (λ u. let x = below_found (λ i. ends_at v t r (at + i)) n u in off flag f (rw e (below_at (λ i. deletes_at v r (at + i)) n x.0 x.1 (one x.0 x.2)))))
  where
    one : (i : ℕ) → T (ends_at v t r (at + i)) → T (deletes_at v r (at + i))
    one i u =
        let named = eqb (get_or (v TailRow) (at + i) 0) r in
        let kind = delete_kind (get_or (v TailKind) (at + i) 0) in
        let w = parts named _ u in
        both named kind w.0 (parts kind _ w.1).0

module _ (S : Shape) (v : View) (t r inserter state : ℕ) (flag : Bool) (q : inserter ≡ get_or (v RowTransaction) r 0) (w : state ≡ get_or (v RowState) r 0) (f : flag ≡ stands_for t inserter state) where
  -- a row whose insert does not stand for t is gone
  pub gone_insert : flag ≡ false → true ≡ gone_in S v t r
  unfolding gone_in row_in
  gone_insert e = rw (← q, ← w, ← f, e)

  -- and one whose insert stands is gone exactly if one of the used records of its range ends it
  pub gone_records : (g n : ℕ) (end : Bool) → flag ≡ true → g ≡ range_of r → n ≡ used_in v g
      → end ≡ any_below (λ i. ends_at v t r (g * S.capacity + i)) n → end ≡ gone_in S v t r
  unfolding gone_in row_in record_in
  gone_records g n end e a b h = h ∙ rw (b, a, ← q, ← w, ← f, e)

-- where the used records of a given row's range g lie
module _ (s : Sizes) (p : Proper s) (v : View) (l : Linked s v) (r g : ℕ) (b : r < rows_given v) (e : g ≡ range_of r) where
  pub stretch_used : (n : ℕ) → n ≡ used_in v g → g * s.capacity + n ≤ s.slots
  stretch_used n q = rw (q, e) (let w = row_in_lem s p v l r b in stretch_in s p (range_of r) (used_in v (range_of r)) w.1 w.3)

  -- the index of the first is a word of 64 bits
  pub stretch_fits : Fits w64 (g * s.capacity)
  stretch_fits = record { fits = omega (arith, stretch_used (used_in v g) refl, slots_few s p) }
