-- The outcomes of a store in lent memory are those that the promise of the calls has; and calls that commands can make, on a store in the newest form, are lent as they should be.
use mathlib.Core.Path.{◌≡◌, refl, ap}
use mathlib.Core.List.{List, [], ◌∷◌}
use Prim.Native.Nat.{ℕ}
use lib.Dec.{T}
use Rattle.terms.specs.declared.Shape.{Shape}
use Rattle.terms.specs.Answers.{Answer}
use Rattle.terms.specs.declared.Form.{Form}
use Rattle.history.specs.History.{Call, History, Outcome, Verdict, next, verdict, tests}
use Rattle.history.specs.Forms.{FormUse, either, newest, moving, form_use, uses_form, in_place, form_after, form_next, Suited}
use Rattle.history.specs.Lists.{All, nil, cons}
use Rattle.model.specs.Calls.{Typed}
use Rattle.model.specs.Machine.{outcomes_from}
use Rattle.output.proofs.StepsAlike.{Commanded}
use Rattle.promise.specs.Promise.{Lent, second_of, room_for, outcome_of, left_by, outcomes_of, lent_machine}
use Rattle.promise.specs.Demands.{Lends}

pub store_outcomes_lem : (x : Lent) (cs : List Call) → outcomes_from lent_machine x cs ≡ outcomes_of x cs
unfolding outcomes_from outcomes_of
store_outcomes_lem x [] = refl
store_outcomes_lem x (c ∷ cs) = ap (λ (l : List (Outcome Answer)). outcome_of x c ∷ l) (store_outcomes_lem (left_by x c) cs)

-- ---- a call that is no move works on the newest form, keeps it, and asks for no room in a second memory
works : (u : FormUse) → T (in_place u) → T (uses_form u Form.Newest)
works either t = tt
works newest t = tt
works (moving to) t = absurd t

keeps : (u : FormUse) (v : Verdict) → T (in_place u) → form_after u v Form.Newest ≡ Form.Newest
keeps either v t = refl
keeps newest v t = refl
keeps (moving to) v t = absurd t

rooms : (u : FormUse) (S : Shape) (second : List ℕ) → T (in_place u) → T (room_for u S second)
rooms either S second t = tt
rooms newest S second t = tt
rooms (moving to) S second t = absurd t

-- ---- and so do the lists of them
all_typed : {cs : List Call} → All Commanded cs → All Typed cs
all_typed nil = nil
all_typed (cons p ps) = cons p.0 (all_typed ps)

all_roomy : (S : Shape) {cs : List Call} → All Commanded cs → All (λ c. T (room_for (form_use c) S (second_of c))) cs
all_roomy S nil = nil
all_roomy S (cons {x = c} p ps) = cons (rooms (form_use c) S (second_of c) p.1) (all_roomy S ps)

all_suited : (S : Shape) (h : History) {cs : List Call} → All Commanded cs → Suited S Form.Newest h cs
unfolding Suited form_next
all_suited S h nil = tt
all_suited S h (cons {x = c} p ps) = (works (form_use c) p.1, rw (keeps (form_use c) (verdict (tests S h c)) p.1) (all_suited S (next S h c) ps))

pub commanded_lends : (S : Shape) (h : History) {cs : List Call} → All Commanded cs → Lends Form.Newest S h cs
commanded_lends S h t = record { typed = all_typed t; suited = all_suited S h t; roomy = all_roomy S t }
