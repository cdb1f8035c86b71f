-- What the conditions of the changing calls tell, and what the functions that write ask for by what the tests found.
use Prim.Native.Nat.{ℕ, suc, ◌+◌, ◌*◌, ◌/◌, ◌≤◌, ◌<◌}
use mathlib.Core.Path.{◌≡◌, refl, ap, sym, ◌∙◌}
use mathlib.Core.Bool.{Bool, true, false, not, cond, ◌||◌}
use mathlib.Core.List.{List, [], ◌∷◌}
use native.Mathlib.Omega.{arith}
use lib.Dec.{eqb, leb, ltb, leb-suc-suc}
use lib.ListN.{length, take}
use borrow.Author.Tests.{ltb-true, ltb-false, le-leb, lt-leb, lt-ltb}
use Rattle.terms.specs.declared.Form.{Form}
use Rattle.terms.specs.Measures.{range_rows, most_transactions, most_numbers}
use Rattle.std.specs.Prelude.{Option, Some, None}
use Rattle.layout.specs.declared.Sizes.{Sizes}
use Rattle.words.specs.Words.{words}
use Rattle.words.proofs.Words.{length_words}
use Rattle.layout.specs.declared.Region.{Region}
use Rattle.layout.specs.View.{View, rows_given, transactions_given, used_in, view_of, Suffices}
use Rattle.layout.proofs.View.{view_long}
use Rattle.history.specs.History.{Call, verdict, any, range_of}
use Rattle.terms.specs.Entries.{first_index}
use Rattle.scans.specs.declared.Scans.{Scans}
use Rattle.model.specs.Writing.{records_wanted}
use Rattle.model.specs.Calls.{begin_tests_in, tests_in, lacks_in}
use Rattle.layout.specs.Sizes.{Proper}
use Rattle.model.specs.Preconditions.{shape_in, Counted, Linked, FreeAt, OpenAt}
use Rattle.loops.specs.Search.{found_at}
use Rattle.writing.specs.Steps.{Room}
use Rattle.rows.proofs.Indices.{row_in_lem}
use Rattle.std.specs.Prelude.{Result, Ok}
use Rattle.terms.specs.declared.Refusal.{Refusal}
use Rattle.std.specs.Prelude.{Result, Ok}
use Rattle.terms.specs.declared.Refusal.{Refusal}
use Rattle.admission.specs.Admitted.{Fitted, Admits}
use Rattle.admission.specs.Tested.{Says, Finds, IfPassed, Tests}
use Rattle.admission.proofs.Served.{admitted, part_seen, found, if_passed}
use Rattle.changes.specs.Steps.{append_tests}

-- ---- the tail records that the range of a row has left
module _ (s : Sizes) (v : View) (r g n : ℕ) (b : Bool) (e : g ≡ range_of r) (k : b ≡ ltb s.capacity (used_in v g + n)) where
  pub lacks_is : (w : Bool) → b ≡ w → lacks_in (shape_in s) v r n ≡ w
  unfolding lacks_in
  lacks_is w f = rw (← e, ← k) f

  pub room_left : Linked s v → r < rows_given v → b ≡ false → Room s v r n
  unfolding range_of
  room_left l h f =
      record {
        row_below = omega (arith, l.rows_few);
        left = ltb-false s.capacity (used_in v (r / range_rows) + n) (rw e at (sym k ∙ f));
      }

-- as many as an update wants
module _ (d : Result ℕ Refusal) (s : Sizes) (v : View) (t r n k : ℕ) (e : n ≡ k) where
  pub wanted_says : Says d (verdict (append_tests (shape_in s) v t r n)) → Says d (verdict (append_tests (shape_in s) v t r k))
  wanted_says h = rw e at h

  -- and the range has room for as many
  pub wanted_left : IfPassed d (Room s v r n) → IfPassed d (Room s v r k)
  wanted_left h = rw e at h

-- ---- a row that is given is there, and its range is one of the store's
module _ (s : Sizes) (m : List ℕ) (r : ℕ) (w : Fitted s m) (h : r < rows_given (view_of s m)) where
  pub row_inside : r < s.rows
  row_inside = omega (arith, w.linked.rows_few)

  pub range_inside : (g : ℕ) → g ≡ range_of r → g < s.ranges
  range_inside g e = rw e (row_in_lem s w.proper (view_of s m) w.linked r h).1

-- ---- the rows of a store are all given, or not
module _ (s : Sizes) (v : View) (n : ℕ) (p : Proper s) (e : n ≡ rows_given v) where
  pub full : s.rows ≤ n → leb (s.ranges * range_rows) (rows_given v) ≡ true
  full h = le-leb (s.ranges * range_rows) (rows_given v) (omega (arith, p.rows_are))

  pub not_full : n < s.rows → leb (s.ranges * range_rows) (rows_given v) ≡ false
  not_full h = lt-leb (s.ranges * range_rows) (rows_given v) (omega (arith, p.rows_are))

pub counted : (s : Sizes) (v : View) → Linked s v → Counted s v
counted s v l = record { rows_given = l.rows_few; records_used = l.used_few }

-- ---- the entries of the open transactions: one is free, or none
opens_long : (s : Sizes) (m : List ℕ) → Suffices s m → length (view_of s m Region.Opens) ≡ most_transactions
opens_long s m h = view_long s (words m) (omega (arith, length_words m)) Region.Opens

any_first : (f : ℕ → Bool) (l : List ℕ) → any f l ≡ ltb (first_index f l) (length l)
any_first f [] = refl
any_first f (x ∷ l) = go (f x) (any_first f l)
  where
    go : (b : Bool) → any f l ≡ ltb (first_index f l) (length l) → (b || any f l) ≡ ltb (cond b 0 (suc (first_index f l))) (suc (length l))
    go true ih = sym (lt-ltb 0 (suc (length l)) (omega arith))
    go false ih = ih ∙ sym (leb-suc-suc (suc (first_index f l)) (length l))

module _ (s : Sizes) (m : List ℕ) (h : Suffices s m) where
  abbrev opens : List ℕ
  opens = view_of s m Region.Opens

  abbrev free : ℕ → Bool
  free k = eqb k 0

  any_free : any free opens ≡ ltb (first_index free opens) most_transactions
  any_free = any_first free opens ∙ ap (ltb (first_index free opens)) (opens_long s m h)

  no_free : found_at most_transactions (first_index free opens) ≡ None → not (any free opens) ≡ true
  no_free e = rw any_free (go (ltb (first_index free opens) most_transactions) e)
    where
      go : (b : Bool) → cond b (Some (first_index free opens)) None ≡ None → not b ≡ true
      go true q = let z : ◌≡◌ {A = ℕ} 0 1 = cc in absurd (omega arith)
      go false q = refl

  first_free_lem : (j : ℕ) → found_at most_transactions (first_index free opens) ≡ Some j → (not (any free opens) ≡ false) × FreeAt (view_of s m) j
  first_free_lem j e = rw any_free (go (ltb (first_index free opens) most_transactions) refl e)
    where
      go : (b : Bool) → ltb (first_index free opens) most_transactions ≡ b
          → cond b (Some (first_index free opens)) None ≡ Some j → (not b ≡ false) × FreeAt (view_of s m) j
      go true q f =
          let w : first_index free opens ≡ j = cc in
          (refl, record { low = omega (arith, ltb-true (first_index free opens) most_transactions q); first = sym w })
      go false q f = let z : ◌≡◌ {A = ℕ} 0 1 = cc in absurd (omega arith)

  module _ (f : Option ℕ) (q : f ≡ found_at most_transactions (first_index free opens)) where
    pub none_free : f ≡ None → not (any free opens) ≡ true
    none_free e = no_free (sym q ∙ e)

    pub one_free : (j : ℕ) → f ≡ Some j → not (any free opens) ≡ false
    one_free j e = (first_free_lem j (sym q ∙ e)).0

    pub free_at : (j : ℕ) → f ≡ Some j → FreeAt (view_of s m) j
    free_at j e = (first_free_lem j (sym q ∙ e)).1

-- ---- what the functions that write ask for of the lent part, by what the tests found
module _ (on : Form → Bool) (s : Sizes) (n : ℕ) (m : List ℕ) (t : Scans) (b : Admits on (Ok (s, n)) m t) (j : ℕ) where
  seen : view_of s (take n m) ≡ view_of s m
  seen = part_seen (admitted on s n m t b).0

  pub free_in_part : Finds (Ok j) (FreeAt (view_of s m)) → FreeAt (view_of s (take n m)) j
  free_in_part h = rw seen (found _ j h)

  pub open_in_part : (k : ℕ) → Finds (Ok j) (OpenAt (view_of s m) k) → OpenAt (view_of s (take n m)) k j
  open_in_part k h = rw seen (found _ j h)

  pub number_in_part : IfPassed (Ok j) (transactions_given (view_of s m) < most_numbers) → transactions_given (view_of s (take n m)) < most_numbers
  number_in_part h = rw seen (if_passed _ j h)

  pub row_in_part : IfPassed (Ok j) (rows_given (view_of s m) < s.rows) → rows_given (view_of s (take n m)) < s.rows
  row_in_part h = rw seen (if_passed _ j h)

  pub room_in_part : (r k : ℕ) → IfPassed (Ok j) (Room s (view_of s m) r k) → Room s (view_of s (take n m)) r k
  room_in_part r k h = rw seen (if_passed _ j h)

  pub wanted_in_part : (r k : ℕ) → IfPassed (Ok j) (Room s (view_of s m) r (records_wanted (view_of s m) r k))
      → Room s (view_of s (take n m)) r (records_wanted (view_of s (take n m)) r k)
  wanted_in_part r k h = rw seen (if_passed _ j h)

-- the tests of begin, with a keeper or without
pub begin_tests_lem : (s : Sizes) (m : List ℕ) (d : Result ℕ Refusal) → Says d (verdict (begin_tests_in (view_of s m))) → Tests s m Call.begin d
unfolding Tests tests_in
begin_tests_lem s m d h = λ ps. h

pub begin_as_tests : (s : Sizes) (m : List ℕ) (x : ℕ) (d : Result ℕ Refusal) → Says d (verdict (begin_tests_in (view_of s m))) → Tests s m (Call.begin_as x) d
unfolding Tests tests_in
begin_as_tests s m x d h = λ ps. h

pub ruleset in_part = (free_in_part, open_in_part, number_in_part, row_in_part, room_in_part, wanted_in_part, counted)
