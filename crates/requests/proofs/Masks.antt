-- A mask of more than 16 bits has a bit at or above the columns: it is refused as the mask 0 is, at the same test.
use Prim.Native.Nat.{ℕ, ◌≤◌, ◌<◌, ◌^◌}
use native.Mathlib.Omega.{arith}
use mathlib.Core.Path.{◌≡◌, refl, sym, ◌∙◌}
use mathlib.Core.Bool.{Bool, true, false, cond}
use mathlib.Core.List.{List}
use lib.Dec.{ltb}
use lib.IntN.{ℤ}
use borrow.Author.Tests.{ltb-true, le-leb, ne_eqb}
use Rattle.terms.specs.Measures.{most_columns}
use Rattle.terms.specs.declared.Shape.{Shape}
use Rattle.terms.specs.Answers.{Answer}
use Rattle.terms.specs.declared.ScanEntry.{ScanEntry}
use Rattle.terms.specs.declared.Refusal.{Refusal}
use Rattle.words.specs.Words.{words}
use Rattle.scans.specs.declared.Scans.{Scans}
use Rattle.layout.specs.View.{View}
use Rattle.layout.proofs.Limits.{proper}
use Rattle.facts.specs.Usable.{stored_shape, stored_form, usable}
use Rattle.history.specs.History.{update, Verdict, accept, refuse, verdict, bad_mask}
use Rattle.model.specs.Calls.{not_open_in, not_given_in, tests_in}
use Rattle.promise.specs.Promise.{ServesBy, kept}
use Rattle.requests.specs.Requested.{most_mask}
use Rattle.requests.proofs.Equivalent.{Equivalent, served_equivalent}
use Rattle.facts.proofs.Usable.{usable_tells}
use native.Mathlib.Nat.{pow-le-pow_right}

-- ---- an update with a refused mask stops there, or at one of the two tests before the mask's

abbrev stopped : Bool → Bool → Verdict
stopped p q = cond p (refuse Refusal.Transaction) (cond q (refuse Refusal.Row) (refuse Refusal.Mask))

never_accepted : (p q : Bool) → stopped p q ≡ accept → ⊥
never_accepted true q e = let z : ◌≡◌ {A = ℕ} 0 1 = cc in omega arith
never_accepted false true e = let z : ◌≡◌ {A = ℕ} 0 1 = cc in omega arith
never_accepted false false e = let z : ◌≡◌ {A = ℕ} 0 1 = cc in omega arith

module _ (S : Shape) (v : View) (ps : List ScanEntry) (a b : ℕ) (vs : List ℤ) where
  bad_mask_lem : (c : ℕ) → bad_mask S c ≡ true → verdict (tests_in S v ps (update a b c vs)) ≡ stopped (not_open_in v a) (not_given_in v b)
  unfolding verdict tests_in
  bad_mask_lem c e = rw e

  both_bad : (c d : ℕ) → bad_mask S c ≡ true → bad_mask S d ≡ true → Equivalent S v ps (update a b c vs) (update a b d vs)
  both_bad c d p q = record {
    verdicts = bad_mask_lem c p ∙ sym (bad_mask_lem d q);
    accepted = λ e. absurd (never_accepted (not_open_in v a) (not_given_in v b) (sym (bad_mask_lem c p) ∙ e));
  }

-- ---- on a lent memory

wide_bad : (m : List ℕ) (ps : List ScanEntry) (c : ℕ) → usable m ps ≡ true → most_mask < c → bad_mask (stored_shape (words m)) c ≡ true
unfolding bad_mask
wide_bad m ps c u h =
    let l = proper (stored_form (words m)) (stored_shape (words m)) (usable_tells m ps u).within in
    let p : 2 ^ (stored_shape (words m)).columns ≤ 2 ^ most_columns = pow-le-pow_right (omega arith) l.columns_to in
    let q : 2 ^ (stored_shape (words m)).columns ≤ c = omega arith in
    rw (ne_eqb c 0 (λ e. omega arith), le-leb _ c q)

none_bad : (S : Shape) → bad_mask S 0 ≡ true
unfolding bad_mask
none_bad S = refl

-- What is left for the mask n that the code takes is left for the operand c.
pub masked : (m : List ℕ) (t : Scans) (a b c n : ℕ) (vs : List ℤ) (r : Answer) (m' : List ℕ) → n ≡ cond (ltb most_mask c) 0 c
    → ServesBy t m (update a b n vs) r m' kept → ServesBy t m (update a b c vs) r m' kept
unfolding ServesBy
masked m t a b c n vs r m' z s = go (ltb most_mask c) refl z
  where
    go : (f : Bool) → ltb most_mask c ≡ f → n ≡ cond f 0 c → ServesBy t m (update a b c vs) r m' kept
    go true e q = λ ps p.
        served_equivalent _ _ _ _ _ _ _ record { uses = refl; seconds = refl } (λ u. both_bad _ _ ps a b vs 0 c (none_bad _) (wide_bad m ps c u (ltb-true most_mask c e))) (rw q at (s ps p))
    go false e q = rw q at s
