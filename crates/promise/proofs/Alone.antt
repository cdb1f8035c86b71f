-- A call that is lent no slice leaves none: what it serves is all that it gives. And one that is no move leaves the store in the memory that it was lent.
use Prim.Native.Nat.{ℕ}
use mathlib.Core.Path.{◌≡◌, refl, sym}
use mathlib.Core.Bool.{Bool, true, false, cond}
use mathlib.Core.List.{List, []}
use lib.Dec.{T}
use Rattle.terms.specs.Refusals.{is_accepted}
use Rattle.terms.specs.Answers.{Answer}
use Rattle.terms.specs.declared.ScanEntry.{ScanEntry}
use Rattle.history.specs.History.{Call, Verdict, accept, refuse, none, slice_of, alone, stamps_if}
use Rattle.history.specs.Forms.{FormUse, either, newest, moving, form_use, in_place}
use Rattle.model.specs.Calls.{stamps_in, stamps_next}
use Rattle.promise.specs.Promise.{Lent, lend, admits, answer_of, memory_after, second_after, store_of, left_by, stamps_left, Serves, Gives}

-- ---- no slice
by_none : (w : Verdict) → stamps_if w [] [] ≡ []
unfolding stamps_if
by_none accept = refl
by_none (refuse n) = refl

either_way : (u : Bool) (l : List ℕ) → cond u l l ≡ l
either_way true l = refl
either_way false l = refl

pub none_left : (x : Lent) (c : Call) → slice_of c ≡ none → stamps_left x c ≡ []
unfolding stamps_left stamps_next stamps_in
none_left x c e = rw (e, by_none) (either_way (admits x c) [])

pub serves_gives : (m : List ℕ) (ps : List ScanEntry) (c : Call) (r : Answer) (m' : List ℕ) (ps' : List ScanEntry) → slice_of c ≡ none
    → Serves m ps c r m' ps' → Gives m ps c (alone r) m' ps'
unfolding Gives
serves_gives m ps c r m' ps' e h = (h, sym (none_left (lend m ps) c e))

-- ---- no second memory
pub left_in_place : (x : Lent) (c : Call) → T (in_place (form_use c)) → (left_by x c).memory ≡ memory_after x c
left_in_place x c t = go (form_use c) t
  where
    go : (u : FormUse) → T (in_place u) → store_of u (is_accepted (answer_of x c)) x.memory (memory_after x c) (second_after x c) ≡ memory_after x c
    go either t = refl
    go newest t = refl
    go (moving to) t = absurd t
