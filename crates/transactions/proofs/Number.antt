-- The number in the entry of an open transaction is the transaction's own.
use Prim.Native.Nat.{ℕ, suc, ◌<◌}
use mathlib.Core.Path.{◌≡◌, refl}
use mathlib.Core.Bool.{Bool, true, false, not, cond, ◌&&◌}
use mathlib.Core.List.{List, [], ◌∷◌}
use native.Mathlib.Omega.{arith}
use lib.Dec.{eqb}
use lib.ListN.{length, get_or}
use borrow.Author.Tests.{eqb-true}
use Rattle.terms.specs.Measures.{most_transactions}
use Rattle.terms.specs.Entries.{bears, first_index}
use Rattle.words.specs.Words.{words}
use Rattle.words.proofs.Words.{length_words}
use Rattle.layout.specs.declared.Sizes.{Sizes}
use Rattle.layout.specs.declared.Region.TheVariants.{Opens}
use Rattle.layout.specs.View.{view_of, Suffices}
use Rattle.layout.proofs.View.{view_long}
use Rattle.model.specs.Stored.{open_index}
use Rattle.model.specs.Preconditions.{OpenAt}

second : (a b : Bool) → (a && b) ≡ true → b ≡ true
second true b q = q
second false true q = refl
second false false q = q

number_in : (t : ℕ) (l : List ℕ) → first_index (bears t) l < length l → get_or l (first_index (bears t) l) 0 ≡ t
number_in t [] h = absurd (omega arith)
number_in t (x ∷ l) h = go (bears t x) refl (number_in t l) h
  where
    go : (b : Bool) → bears t x ≡ b → (first_index (bears t) l < length l → get_or l (first_index (bears t) l) 0 ≡ t)
        → cond b 0 (suc (first_index (bears t) l)) < suc (length l) → get_or (x ∷ l) (cond b 0 (suc (first_index (bears t) l))) 0 ≡ t
    go true q further h = eqb-true x t (second (not (eqb x 0)) (eqb x t) q)
    go false q further h = further (omega arith)

pub number_there : (s : Sizes) (m : List ℕ) (t j : ℕ) → Suffices s m → OpenAt (view_of s m) t j → get_or (view_of s m Opens) j 0 ≡ t
unfolding open_index
number_there s m t j l o =
    let opens = view_of s m Opens in
    let long : length opens ≡ most_transactions = view_long s (words m) (omega (arith, length_words m)) Opens in
    let low : first_index (bears t) opens < length opens = rw (long, ← o.found) o.low in
    rw o.found (number_in t opens low)
