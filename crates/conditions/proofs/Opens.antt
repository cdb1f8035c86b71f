-- The search among the open entries: the first index of a number other than 0 is that of the transaction.
use Prim.Native.Nat.{ℕ, suc, ◌+◌}
use mathlib.Core.Path.{◌≡◌, refl, sym, ◌∙◌, ap}
use mathlib.Core.Bool.{Bool, true, false, not, cond, ◌&&◌, ◌||◌, not-and_self, and-false}
use mathlib.Core.List.{List, [], ◌∷◌}
use native.Mathlib.Omega.{arith}
use native.Mathlib.Nat.{add-zero, zero-add}
use lib.Dec.{eqb}
use lib.ListN.{length}
use lib.Seq.{take_all}
use borrow.Author.Tests.{eqb-true, ne_eqb}
use Rattle.terms.specs.Measures.{most_transactions}
use Rattle.std.specs.Prelude.{Option, Some, None}
use Rattle.words.specs.Words.{words}
use Rattle.loops.specs.Search.{region, first_at}
use Rattle.words.proofs.Words.{length_words}
use Rattle.loops.proofs.Search.{first_at_lem}
use Rattle.layout.specs.declared.Sizes.{Sizes}
use Rattle.layout.specs.declared.Region.TheVariants.{Opens}
use Rattle.layout.specs.View.{View, view, view_of, Suffices}
use Rattle.layout.proofs.View.{view_long}
use Rattle.history.specs.History.{any}
use Rattle.terms.specs.Entries.{bears, first_index}
use Rattle.model.specs.Stored.{open_index}
use Rattle.model.specs.Calls.{not_open_in}
use Rattle.rows.specs.Finders.{Inside}
use Rattle.rows.proofs.Cases.{found_at, found_nothing}
use Rattle.conditions.specs.Opens.{open_at}

pub none_bears : (l : List ℕ) → any (bears 0) l ≡ false
none_bears [] = refl
none_bears (x ∷ l) = rw (not-and_self (eqb x 0)) (none_bears l)

pub open_none : (s : Sizes) (ws : List ℕ) (t : ℕ) → t ≡ 0 → None ≡ open_at (view s ws) t
unfolding open_at not_open_in
open_none s ws t e = rw (e, none_bears (view s ws Opens))

module _ (t : ℕ) (h : t ≡ 0 → ⊥) where
  pub bears_is : (x : ℕ) → bears t x ≡ eqb x t
  bears_is x = go (eqb x t) refl
    where
      go : (b : Bool) → eqb x t ≡ b → (not (eqb x 0) && b) ≡ b
      go true q = let e = eqb-true x t q in rw (ne_eqb x 0 (λ z. h (sym e ∙ z)))
      go false q = and-false (not (eqb x 0))

  first_bears : (i : ℕ) (l : List ℕ) → first_at t i l ≡ cond (not (any (bears t) l)) None (Some (i + first_index (bears t) l))
  first_bears i [] = refl
  first_bears i (x ∷ l) = rw (bears_is x) (go (eqb x t) (first_bears (i + 1) l))
    where
      go : (b : Bool) → first_at t (i + 1) l ≡ cond (not (any (bears t) l)) None (Some (i + 1 + first_index (bears t) l))
          → cond b (Some i) (first_at t (i + 1) l)
          ≡ cond (not (b || any (bears t) l)) None (Some (i + cond b 0 (suc (first_index (bears t) l))))
      go true ih = ap Some (sym (add-zero i))
      go false ih = let e : i + suc (first_index (bears t) l) ≡ i + 1 + first_index (bears t) l = omega arith in rw e ih

  -- the search answers the index of transaction t, which is that of an entry
  pub open_found : (s : Sizes) (m : List ℕ) (r : Option ℕ) → Suffices s m
      → r ≡ first_at t 0 (region (view_of s m Opens) 0 most_transactions)
      → (r ≡ open_at (view_of s m) t) × Inside r most_transactions
  unfolding open_at not_open_in open_index
  open_found s m r l e =
      let opens = view_of s m Opens in
      let long : length opens ≡ most_transactions = view_long s (words m) (omega (arith, length_words m)) Opens in
      let whole : region opens 0 most_transactions ≡ opens = take_all most_transactions opens (omega arith) in
      let e' : r ≡ first_at t 0 opens = rw whole at e in
      (e' ∙ first_bears 0 opens ∙ rw (zero-add (first_index (bears t) opens)), inside r e')
    where
      inside : (f : Option ℕ) → f ≡ first_at t 0 (view_of s m Opens) → Inside f most_transactions
      inside (Some j) q =
          let long : length (view_of s m Opens) ≡ most_transactions = view_long s (words m) (omega (arith, length_words m)) Opens in
          omega (arith, (first_at_lem t j (view_of s m Opens) (sym q)).0)
      inside None q = tt

-- ---- what the finder tells
module _ (v : View) (t : ℕ) where
  pub open_there : (j : ℕ) → open_at v t ≡ Some j → (not_open_in v t ≡ false) × (j ≡ open_index v t)
  unfolding open_at
  open_there j e = found_at (not_open_in v t) (open_index v t) j e

  pub not_open : open_at v t ≡ None → not_open_in v t ≡ true
  unfolding open_at
  not_open e = found_nothing (not_open_in v t) (open_index v t) e
