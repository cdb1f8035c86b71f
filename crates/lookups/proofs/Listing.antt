-- What the call crossings answers and leaves, by what its tests and the pass found.
use Prim.Native.Nat.{ℕ}
use mathlib.Core.Path.{◌≡◌, refl}
use mathlib.Core.Bool.{cond}
use mathlib.Core.List.{List, [], ◌∷◌, ◌++◌}
use lib.ListN.{length}
use lib.Seq.{sets}
use lib.IntN.{ℤ}
use Rattle.terms.specs.declared.Shape.{Shape}
use Rattle.std.specs.Prelude.{Ok, Err}
use Rattle.terms.specs.Answers.{Answer}
use Rattle.terms.specs.declared.Fields.{Fields}
use Rattle.terms.specs.declared.Refusal.{Refusal}
use Rattle.layout.specs.declared.Sizes.{Sizes}
use Rattle.layout.specs.View.{View, view_of}
use Rattle.history.specs.History.{Call, Test, ◌when◌, accept, refuse, verdict, answer_if, stamps_if, given, outnumber}
use Rattle.history.proofs.Lists.{by_test, clash}
use Rattle.scans.specs.declared.Scans.{Scans}
use Rattle.model.specs.declared.Reader.{Reader}
use Rattle.model.specs.Reading.{reader, all_up_to}
use Rattle.model.specs.Versions.{crossings_in}
use Rattle.model.specs.Calls.{tests_in, reply_in, act_in, entries_after, stamps_in, say, stamps_next}
use Rattle.model.specs.Preconditions.{shape_in}
use Rattle.crossing.specs.Steps.{listed_in, ListsAll}
use Rattle.promise.specs.Promise.{GivesBy, kept}
use Rattle.std.specs.Prelude.{Ok, Err}
use Rattle.terms.specs.declared.Refusal.{Refusal}
use Rattle.std.specs.Prelude.{Ok, Err}
use Rattle.terms.specs.declared.Refusal.{Refusal}
use Rattle.admission.specs.Admitted.{Admits, every_form}
use Rattle.admission.specs.Tested.{Says}
use Rattle.admission.proofs.Served.{FitBytes, unfit_gives, read_gives}
use Rattle.lookups.specs.Lookups.{span_tests, Outcomes}

-- ---- the pass of a query, whose mark the code took from its operand
pub listed_between : (S : Shape) (v : View) (r c : ℕ) (z mark : ℤ) (from to : ℕ) (who : Reader) (a : Answer) (old new : List ℕ) → who ≡ reader (all_up_to to) 0 → z ≡ mark
    → ListsAll (listed_in S v who record { row = record { 0 = r }; column = c; mark = z; from = record { 0 = from } }) a old new → ListsAll (crossings_in S v r c mark from to) a old new
unfolding listed_in crossings_in
listed_between S v r c z mark from to who a old new w e l = rw (w, e) at l

-- ---- tests behind others
refuse_first : (ts us : List Test) (n : Refusal) → verdict ts ≡ refuse n → verdict (ts ++ us) ≡ refuse n
unfolding verdict
refuse_first [] us n = λ e. clash (cc)
refuse_first (t ∷ ts) us n =
    by_test (λ b. cond b (refuse t.refusal) (verdict ts) ≡ refuse n → cond b (refuse t.refusal) (verdict (ts ++ us)) ≡ refuse n) t.fails (λ _ e. e) (λ _ e. refuse_first ts us n e)

accept_first : (ts us : List Test) → verdict ts ≡ accept → verdict (ts ++ us) ≡ verdict us
unfolding verdict
accept_first [] us = λ e. refl
accept_first (t ∷ ts) us =
    by_test (λ b. cond b (refuse t.refusal) (verdict ts) ≡ accept → cond b (refuse t.refusal) (verdict (ts ++ us)) ≡ verdict us) t.fails (λ _ e. clash (cc)) (λ _ e. accept_first ts us e)

-- ---- the call
pub unfit_listing : (m : List ℕ) (t : Scans) (r c : ℕ) (mark : ℤ) (from to : ℕ) (stamps : List ℕ) (x : Refusal) → Admits every_form (Err x) m t
    → GivesBy t m (Call.crossings r c mark from to stamps) (given (Err x) stamps) m kept
unfit_listing m t r c mark from to stamps x h = unfit_gives m t (Call.crossings r c mark from to stamps) x h

module _ (s : Sizes) (m : List ℕ) (r c : ℕ) (mark : ℤ) (from to : ℕ) (stamps : List ℕ) where
  abbrev asked : Call
  asked = Call.crossings r c mark from to stamps

  abbrev found : List ℕ
  found = crossings_in (shape_in s) (view_of s m) r c mark from to

  abbrev span : List Test
  span = span_tests (shape_in s) (view_of s m) r c from to

  -- one of the first tests failed
  pub span_fails : (x : Refusal) → Says (Err x) (verdict span) → Outcomes s m asked (Err x) stamps
  unfolding Outcomes say stamps_next tests_in answer_if stamps_if
  span_fails x said = λ ps. let w = refuse_first span (Refusal.List when outnumber found stamps ∷ []) x said in (rw w, rw w)

  -- they were passed, and the crossings are listed, or too many
  pub listing : (j : ℕ) → Says (Ok j) (verdict span) → (z : ℤ) → z ≡ mark → (a : Answer) (out : List ℕ) → ListsAll (crossings_in (shape_in s) (view_of s m) r c z from to) a stamps out
      → Outcomes s m asked a out
  unfolding Outcomes say stamps_next tests_in reply_in stamps_in answer_if stamps_if verdict
  listing j said z e a out l = λ ps.
      let w = accept_first span (Refusal.List when outnumber found stamps ∷ []) said in
      rw (l.answer, l.written, e, w)
      (by_test (λ b.
      (cond b (Err Refusal.List) (Ok (Fields.Listed (length found))) ≡ answer_if (cond b (refuse Refusal.List) accept) (Ok (Fields.Listed (length found))))
      × (cond b stamps (sets stamps 0 found) ≡ stamps_if (cond b (refuse Refusal.List) accept) stamps (sets stamps 0 found)))
      (outnumber found stamps) (λ _. (refl, refl)) (λ _. (refl, refl)))

  module _ (t : Scans) where
    pub fit_listing : (n : ℕ) → Admits every_form (Ok (s, n)) m t → FitBytes m → (z : ℤ) → z ≡ mark → (a : Answer) (out : List ℕ) → Outcomes s m (Call.crossings r c z from to stamps) a out
        → GivesBy t m (Call.crossings r c mark from to stamps) (given a out) m kept
    unfolding Outcomes act_in entries_after
    fit_listing n h b z q a out o = read_gives s n m t asked h refl a out b (λ ps. (refl, refl)) (rw q at o)
