-- Laws of a view in which one region was renewed: what every loop that writes into one region says of its turns.
use Prim.Native.Nat.{ℕ, ◌+◌, ◌≤◌}
use mathlib.Core.Path.{◌≡◌, refl, ap, sym, ◌∙◌, fun_ext}
use mathlib.Core.Bool.{Bool, true, false, cond}
use mathlib.Core.List.{List}
use native.Mathlib.Omega.{arith}
use lib.Dec.{eqb}
use lib.ListN.{length, get_or, set, get_or-eq_default}
use borrow.Author.Tests.{eqb-true}
use Rattle.std.proofs.lemmas.List.{set_past}
use Rattle.words.specs.Words.{words}
use Rattle.words.proofs.Words.{length_words}
use Rattle.loops.specs.Change.{changed}
use Rattle.loops.proofs.Change.{changed_next, changed_none}
use Rattle.layout.specs.declared.Region.{Region}
use Rattle.layout.specs.declared.Sizes.{Sizes}
use Rattle.layout.specs.Regions.{index, len}
use Rattle.layout.specs.View.{View, view_of, renew, put, mark, Suffices}
use Rattle.layout.proofs.View.{renew_here, view_long}
use Rattle.layout.proofs.Lay.{same_region}

-- a region renewed by what it holds
pub renew_none : (k : Region) (v : View) → v ≡ renew k (v k) v
unfolding renew
renew_none k v = fun_ext (λ j. go j (eqb (index k) (index j)) refl)
  where
    go : (j : Region) (b : Bool) → eqb (index k) (index j) ≡ b → v j ≡ cond b (v k) (v j)
    go j true q =
        ap v (same_region j k (sym (eqb-true (index k) (index j) q)))
    go j false q = refl

-- no words marked
pub mark_none : (keys k : Region) (key at w : ℕ) (v : View) → v ≡ mark keys key k at 0 w v
unfolding mark changed
mark_none keys k key at w v = renew_none k v

-- a region renewed twice
pub renew_again : (k : Region) (l l' : List ℕ) (v : View) → renew k l' (renew k l v) ≡ renew k l' v
unfolding renew
renew_again k l l' v = fun_ext (λ j. go j (eqb (index k) (index j)))
  where
    go : (j : Region) (b : Bool) → cond b l' (cond b l (v j)) ≡ cond b l' (v j)
    go j true = refl
    go j false = refl

-- a word put into the region that was renewed
pub put_renew : (k : Region) (l : List ℕ) (v : View) (i x : ℕ) → put k i x (renew k l v) ≡ renew k (set l i x) v
unfolding put
put_renew k l v i x =
    ap (λ (y : List ℕ). renew k (set y i x) (renew k l v)) (renew_here k l v) ∙ renew_again k l (set l i x) v

-- one turn of a loop that puts a word into region k
pub turn_put : (k : Region) (l : List ℕ) (v w w' : View) (i x : ℕ) → w ≡ renew k l v → w' ≡ put k i x w → w' ≡ renew k (set l i x) v
turn_put k l v w w' i x e p = p ∙ ap (put k i x) e ∙ put_renew k l v i x

-- a loop whose turn i changes word at + i
module _ (k : Region) (f : ℕ → ℕ → ℕ) (at : ℕ) (v : View) where
  pub change_none : v ≡ renew k (changed f at 0 (v k)) v
  change_none = renew_none k v ∙ ap (λ (l : List ℕ). renew k l v) (changed_none f at (v k))

  pub change_next : (w w' : View) (i x : ℕ) → w ≡ renew k (changed f at i (v k)) v → x ≡ f i (get_or (v k) (at + i) 0)
      → w' ≡ put k (at + i) x w → w' ≡ renew k (changed f at (i + 1) (v k)) v
  change_next w w' i x e q p =
      turn_put k (changed f at i (v k)) v w w' (at + i) x e p
      ∙ ap (λ (l : List ℕ). renew k l v) (changed_next f at (v k) (changed f at i (v k)) _ i x refl q refl)

-- past its end a region has 0, and a word put there changes nothing
pub past_zero : (s : Sizes) (mem : List ℕ) (k : Region) (i : ℕ) → Suffices s mem → len s k ≤ i → get_or (view_of s mem k) i 0 ≡ 0
past_zero s mem k i h g =
    let l : length (view_of s mem k) ≡ len s k = view_long s (words mem) (omega (arith, length_words mem)) k in
    get_or-eq_default (view_of s mem k) 0 (omega (arith, l))

pub past_same : (s : Sizes) (mem : List ℕ) (k : Region) (i v : ℕ) → Suffices s mem → len s k ≤ i → put k i v (view_of s mem) ≡ view_of s mem
unfolding put
past_same s mem k i v h g =
    let l : length (view_of s mem k) ≡ len s k = view_long s (words mem) (omega (arith, length_words mem)) k in
    ap (λ (x : List ℕ). renew k x (view_of s mem)) (set_past (view_of s mem k) i v (omega (arith, l))) ∙ sym (renew_none k (view_of s mem))
