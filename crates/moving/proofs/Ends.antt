-- The ways in which a move ends, each as one law from what its points know to what it promises.
use Prim.Native.Nat.{ℕ, ◌*◌, ◌≤◌, ◌<◌}
use mathlib.Core.Path.{◌≡◌, refl, ap, sym, ◌∙◌, subst}
use mathlib.Core.Bool.{Bool, true, false, ◌&&◌, and-false, true≢false}
use mathlib.Core.List.{List, ◌++◌}
use native.Mathlib.Omega.{arith}
use lib.Dec.{leb}
use lib.ListN.{length, take, drop}
use lib.Seq.{length-take-le}
use borrow.Author.Tests.{le-leb, lt-leb}
use Rattle.terms.specs.declared.Shape.{Shape}
use Rattle.terms.specs.Refusals.{is_accepted}
use Rattle.std.specs.Prelude.{Ok, Err}
use Rattle.terms.specs.Answers.{Answer}
use Rattle.terms.specs.declared.Fields.{Fields}
use Rattle.terms.specs.declared.Form.{Form}
use Rattle.terms.specs.declared.Refusal.{Refusal}
use Rattle.terms.specs.declared.ScanEntry.{ScanEntry}
use Rattle.words.specs.Words.{words}
use Rattle.layout.specs.declared.Sizes.{Sizes}
use Rattle.layout.specs.Regions.{need, columns_word}
use Rattle.layout.specs.Sizes.{sizes_of, in_form, bytes_needed, too_many_words}
use Rattle.layout.specs.View.{View, lay, view_of, Suffices}
use Rattle.layout.specs.Moved.{moved}
use Rattle.layout.proofs.Lay.{lent}
use Rattle.history.specs.History.{Call, move, accept, refuse, verdict, answer_if}
use Rattle.history.specs.Forms.{form_use, is_form, other_form}
use Rattle.scans.specs.declared.Scans.{Scans}
use Rattle.facts.specs.Usable.{stored_shape, stored_form, stored_sizes}
use Rattle.model.specs.Calls.{tests_in, move_tests_in, keeper_borne_in, reply_in, act_in, say, view_if, store_next}
use Rattle.model.specs.Preconditions.{shape_in}
use Rattle.promise.specs.Promise.{lend, store_view, admits, answer_of, laid_into, second_after, Moves, MovesBy}
use Rattle.std.specs.Prelude.{Ok, Err}
use Rattle.terms.specs.declared.Refusal.{Refusal}
use Rattle.admission.specs.Admitted.{Fitted, PassedWith, Admitted, Admits}
use Rattle.admission.proofs.Served.{FitBytes, admitted, unfit_moves}
use Rattle.moving.proofs.Laid.{moved_small}

-- ---- what the test of the way back found
lost_verdict : (to : Form) (S : Shape) (v : View) (b : Bool) → b ≡ (is_form Form.First to && keeper_borne_in S v) → b ≡ true → verdict (move_tests_in to S v) ≡ refuse Refusal.Keeper
unfolding verdict move_tests_in
lost_verdict Form.First S v b e f = rw (← e, f)
lost_verdict Form.Newest S v b e f = absurd (true≢false (sym f ∙ e))

kept_verdict : (to : Form) (S : Shape) (v : View) (b : Bool) → b ≡ (is_form Form.First to && keeper_borne_in S v) → b ≡ false → verdict (move_tests_in to S v) ≡ accept
unfolding verdict move_tests_in
kept_verdict Form.First S v b e f = rw (← e, f)
kept_verdict Form.Newest S v b e f = refl

-- ---- the part that is lent is as long as it is to be
pub part_long : (w : ℕ) (second : List ℕ) → w * 4 ≤ length second → w * 4 ≡ length (take (w * 4) second)
part_long w second room = sym (length-take-le (w * 4) second room)

pub part_room : (r : Sizes) (w : ℕ) (second : List ℕ) → w ≡ need r → w * 4 ≤ length second → Suffices r (take (w * 4) second)
part_room r w second z room = omega (arith, part_long w second room)

module _ (to other : Form) (o : other ≡ other_form to) (m : List ℕ) (t : Scans) where
  -- ---- the memory is not usable, or not in the other form
  pub unfit : (second : List ℕ) (x : Refusal) → Admits (is_form other) (Err x) m t → MovesBy t m (Call.move to second) (Err x) second
  unfit second x h = unfit_moves m t (move to second) x (rw o at h)

  -- ---- it is, and r are the sizes moved to
  module _ (s : Sizes) (n : ℕ) (h : Admits (is_form other) (Ok (s, n)) m t) where
    known : Admitted s n m t
    known = (admitted (is_form other) s n m t h).0

    pub fitted : Fitted s m
    fitted = known.fitted

    other_is : is_form (other_form to) s.form ≡ true
    other_is = rw o at (admitted (is_form other) s n m t h).1

    module _ (r : Sizes) (q : r ≡ in_form to s) where
      pub small : need r < too_many_words
      small = rw q (moved_small to s known.fitted.proper)

      moved_is : r ≡ sizes_of to (shape_in s)
      moved_is = q ∙ ap (in_form to) known.fitted.sizes_are

      pub sizes_moved : r ≡ sizes_of r.form (shape_in s)
      sizes_moved = subst (λ (x : Sizes). x ≡ sizes_of x.form (shape_in s)) (sym moved_is) refl

      pub word_moved : (word : ℕ) → word ≡ columns_word to s.columns → word ≡ columns_word r.form s.columns
      word_moved word d = d ∙ ap (λ (x : Sizes). columns_word x.form s.columns) (sym q)

      -- the words needed
      module _ (w : ℕ) (z : w ≡ need r) (second : List ℕ) where
        bytes_are : w * 4 ≡ bytes_needed to (shape_in s)
        unfolding bytes_needed
        bytes_are = rw (z, moved_is)

        -- ---- the second memory is too short
        pub short : length second < w * 4 → MovesBy t m (Call.move to second) (Err Refusal.Memory) second
        unfolding MovesBy Moves answer_of second_after admits stored_sizes
        short b = λ ps l.
            let p = known.listed ps l in
            let few : leb (bytes_needed to (stored_shape (words m))) (length second) ≡ false = ap (λ (x : Sizes). leb (bytes_needed to (shape_in x)) (length second)) (sym p.sizes_are) ∙ lt-leb (bytes_needed to (shape_in s)) (length second) (rw bytes_are at b) in
            (rw (few, and-false (is_form (other_form to) (stored_form (words m)))), rw (few, and-false (is_form (other_form to) (stored_form (words m)))))

        -- ---- it is long enough
        module _ (room : w * 4 ≤ length second) where
          module _ (ps : List ScanEntry) (p : PassedWith s m ps) where
            admits_it : admits (lend m ps) (move to second) ≡ true
            unfolding admits stored_sizes
            admits_it =
                let a : is_form (other_form to) (stored_form (words m)) ≡ true = ap (λ (x : Sizes). is_form (other_form to) x.form) (sym p.sizes_are) ∙ other_is in
                let b : leb (bytes_needed to (stored_shape (words m))) (length second) ≡ true = ap (λ (x : Sizes). leb (bytes_needed to (shape_in x)) (length second)) (sym p.sizes_are) ∙ le-leb (bytes_needed to (shape_in s)) (length second) (rw bytes_are at room) in
                rw (a, b, p.passed)

            answer_is : say (shape_in s) (view_of s m) ps (move to second) ≡ answer_of (lend m ps) (move to second)
            unfolding answer_of store_view stored_sizes stored_shape
            answer_is = rw (admits_it, p.sizes_are)

            second_is : laid_into (form_use (move to second)) (is_accepted (say (shape_in s) (view_of s m) ps (move to second))) (shape_in s) (store_next (shape_in s) (view_of s m) ps (move to second)) second ≡ second_after (lend m ps) (move to second)
            unfolding second_after store_view stored_sizes stored_shape
            second_is = rw (admits_it, p.sizes_are)

          module _ (b : Bool) (k : b ≡ (is_form Form.First to && keeper_borne_in (shape_in s) (view_of s m))) where
            -- a keeper would be lost
            pub lost : b ≡ true → MovesBy t m (Call.move to second) (Err Refusal.Keeper) second
            unfolding MovesBy Moves say tests_in answer_if
            lost y = λ ps l.
                let p = known.listed ps l in
                let x = lost_verdict to (shape_in s) (view_of s m) b k y in
                let a : ◌≡◌ {A = Answer} (Err Refusal.Keeper) (say (shape_in s) (view_of s m) ps (move to second)) = rw x in
                (a ∙ answer_is ps p, ap (λ (u : Answer). laid_into (form_use (move to second)) (is_accepted u) (shape_in s) (store_next (shape_in s) (view_of s m) ps (move to second)) second) a ∙ second_is ps p)

            -- none is, and p was left in the bytes needed
            pub done : b ≡ false → (p : List ℕ) → view_of r p ≡ moved r.form (shape_in s) (view_of s m) → length p ≡ length (take (w * 4) second) → FitBytes (p ++ drop (w * 4) second)
                → MovesBy t m (Call.move to second) (Ok Fields.Done) (p ++ drop (w * 4) second)
            unfolding MovesBy Moves say tests_in answer_if reply_in store_next view_if act_in
            done y p d g u = λ ps l.
                let passed = known.listed ps l in
                let x = kept_verdict to (shape_in s) (view_of s m) b k y in
                let a : ◌≡◌ {A = Answer} (Ok Fields.Done) (say (shape_in s) (view_of s m) ps (move to second)) = rw x in
                let seen : view_of r p ≡ moved to (shape_in s) (view_of s m) = d ∙ ap (λ (x : Sizes). moved x.form (shape_in s) (view_of s m)) q in
                let laid : p ++ drop (w * 4) second ≡ lay r (moved to (shape_in s) (view_of s m)) second = lent r (w * 4) second p (λ v. moved to (shape_in s) (view_of s m)) seen g (λ i. (u i).fits) (omega (arith, z)) (omega (arith, z)) in
                let left : p ++ drop (w * 4) second ≡ lay (sizes_of to (shape_in s)) (moved to (shape_in s) (view_of s m)) second = laid ∙ ap (λ (x : Sizes). lay x (moved to (shape_in s) (view_of s m)) second) moved_is in
                let there : lay (sizes_of to (shape_in s)) (moved to (shape_in s) (view_of s m)) second ≡ laid_into (form_use (move to second)) (is_accepted (say (shape_in s) (view_of s m) ps (move to second))) (shape_in s) (store_next (shape_in s) (view_of s m) ps (move to second)) second = rw x in
                (a ∙ answer_is ps passed, left ∙ there ∙ second_is ps passed)
