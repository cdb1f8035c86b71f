-- Two calls that a lent memory does not tell apart: what is due for the one is due for the other.
use mathlib.Core.Path.{◌≡◌, refl, sym, ◌∙◌}
use mathlib.Core.Bool.{Bool, true, false}
use mathlib.Core.List.{List}
use Prim.Native.Nat.{ℕ}
use Rattle.terms.specs.declared.Shape.{Shape}
use Rattle.terms.specs.Answers.{Answer}
use Rattle.terms.specs.declared.ScanEntry.{ScanEntry}
use Rattle.words.specs.Words.{words}
use Rattle.layout.specs.View.{View}
use Rattle.facts.specs.Usable.{stored_shape, usable}
use Rattle.history.specs.Forms.{form_use}
use Rattle.history.specs.History.{Call, Verdict, accept, refuse, verdict, answer_if, none, slice_of, Outcome}
use Rattle.model.specs.Calls.{tests_in, reply_in, act_in, view_if, entries_if, entries_after, say, view_next, entries_next}
use Rattle.promise.specs.Promise.{lend, store_view, second_of, admits, answer_of, memory_after, list_after, Serves, Gives}
use Rattle.promise.proofs.Alone.{none_left}
use Rattle.promise.proofs.Refused.{admitted_usable}

-- They meet the same first refusal, and where there is none they answer and leave the same.
pub record Equivalent (S : Shape) (v : View) (ps : List ScanEntry) (x y : Call) : Type 0 where
  pub verdicts : verdict (tests_in S v ps x) ≡ verdict (tests_in S v ps y)
  pub accepted : verdict (tests_in S v ps x) ≡ accept
      → (reply_in S v ps x ≡ reply_in S v ps y) × (act_in S v ps x ≡ act_in S v ps y) × (entries_after v ps x ≡ entries_after v ps y)

equivalent_next : (S : Shape) (v : View) (ps : List ScanEntry) (x y : Call) → Equivalent S v ps x y
    → (say S v ps x ≡ say S v ps y) × (view_next S v ps x ≡ view_next S v ps y) × (entries_next S v ps x ≡ entries_next S v ps y)
unfolding say view_next entries_next answer_if view_if entries_if
equivalent_next S v ps x y a = rw (← a.verdicts) (go (verdict (tests_in S v ps x)) refl)
  where
    go : (w : Verdict) → verdict (tests_in S v ps x) ≡ w
        → (answer_if w (reply_in S v ps x) ≡ answer_if w (reply_in S v ps y))
        × (view_if w v (act_in S v ps x) ≡ view_if w v (act_in S v ps y))
        × (entries_if w ps (entries_after v ps x) ≡ entries_if w ps (entries_after v ps y))
    go accept e = a.accepted e
    go (refuse n) e = (refl, refl, refl)

-- They are the same to the forms, and are lent the same second memory: they are admitted alike.
pub record SameLent (x y : Call) : Type 0 where
  pub uses : form_use x ≡ form_use y
  pub seconds : second_of x ≡ second_of y

admitted_alike : (m : List ℕ) (ps : List ScanEntry) (x y : Call) → SameLent x y → admits (lend m ps) x ≡ admits (lend m ps) y
unfolding admits
admitted_alike m ps x y l = rw (l.uses, l.seconds)

pub served_equivalent : (m : List ℕ) (ps : List ScanEntry) (x y : Call) (r : Answer) (m' : List ℕ) (ps' : List ScanEntry) → SameLent x y
    → (usable m ps ≡ true → Equivalent (stored_shape (words m)) (store_view m) ps x y) → Serves m ps x r m' ps' → Serves m ps y r m' ps'
unfolding Serves answer_of memory_after list_after
served_equivalent m ps x y r m' ps' l same w = go (admits (lend m ps) x) refl
  where
    go : (f : Bool) → admits (lend m ps) x ≡ f → Serves m ps y r m' ps'
    go true u =
        let next = equivalent_next (stored_shape (words m)) (store_view m) ps x y (same (admitted_usable (lend m ps) x (rw u tt))) in
        rw (← admitted_alike m ps x y l, u, ← next.0, ← next.1, ← next.2) (rw u at w)
    go false u = rw (← admitted_alike m ps x y l, u) (rw u at w)

-- and what is given, where neither is lent a slice
pub given_equivalent : (m : List ℕ) (ps : List ScanEntry) (x y : Call) (o : Outcome Answer) (m' : List ℕ) (ps' : List ScanEntry) → slice_of x ≡ none → slice_of y ≡ none → SameLent x y
    → (usable m ps ≡ true → Equivalent (stored_shape (words m)) (store_view m) ps x y) → Gives m ps x o m' ps' → Gives m ps y o m' ps'
unfolding Gives
given_equivalent m ps x y o m' ps' p q l same w =
    (served_equivalent m ps x y o.answer m' ps' l same w.0, w.1 ∙ none_left (lend m ps) x p ∙ sym (none_left (lend m ps) y q))
