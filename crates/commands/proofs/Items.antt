-- The bound of `items` does not matter from the number of bytes on: each item takes at least its command byte.
use Prim.Native.Nat.{ℕ, zero, suc, ◌≤◌}
use mathlib.Core.Path.{◌≡◌, refl, ap, sym}
use mathlib.Core.List.{List, [], ◌∷◌}
use native.Mathlib.Omega.{arith}
use lib.ListN.{length, length-drop}
use Rattle.std.specs.Prelude.{Ok, Err}
use Rattle.commands.specs.Commands.{Chosen, Item, chosen, width, item_at, behind, items}

pub behind_shorter : (columns : ℕ) (k : Chosen) (bs : List ℕ) → length (behind columns k bs) ≤ length bs
unfolding behind
behind_shorter columns (Ok f) bs = omega (arith, length-drop (width columns f) bs)
behind_shorter columns (Err r) bs = omega arith

pub items_none : (most columns : ℕ) → items most columns [] ≡ []
unfolding items
items_none zero columns = refl
items_none (suc most) columns = refl

pub all_items : (m n columns : ℕ) (bs : List ℕ) → length bs ≤ m → length bs ≤ n → items m columns bs ≡ items n columns bs
unfolding items
all_items zero n columns [] h k = sym (items_none n columns)
all_items zero n columns (byte ∷ bs) h k = absurd (omega arith)
all_items (suc m) n columns [] h k = sym (items_none n columns)
all_items (suc m) zero columns (byte ∷ bs) h k = absurd (omega arith)
all_items (suc m) (suc n) columns (byte ∷ bs) h k =
    let l = behind_shorter columns (chosen byte) bs in
    ap (λ (is : List Item). item_at columns byte (chosen byte) bs ∷ is)
    (all_items m n columns (behind columns (chosen byte) bs) (omega arith) (omega arith))
