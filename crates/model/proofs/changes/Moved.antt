-- A move between the stored forms: its test is the history's, and what it leaves in the second memory represents the same history. A store whose rows, tail records and open transactions
-- bear no keeper is the same in both forms.
use mathlib.Core.Path.{◌≡◌, refl, sym, ◌∙◌, ap, ap₂}
use mathlib.Core.Logic.{◌≢◌}
use mathlib.Core.Bool.{Bool, true, false, not, cond, ◌&&◌, ◌||◌}
use mathlib.Core.List.{List, [], ◌∷◌}
use Prim.Native.Nat.{ℕ, zero, suc, ◌+◌, ◌*◌, ◌<◌}
use native.Mathlib.Omega.{arith}
use native.Mathlib.Nat.{le_refl, mod-eq_of_lt}
use native.Mathlib.Decide.{dec_lt}
use lib.Dec.{T, eqb, eqb→eq}
use lib.ListN.{length, get_or, get_or-eq_default}
use lib.Seq.{take_all}
use borrow.Author.Tests.{ne_eqb}
use Rattle.terms.specs.Measures.{most_transactions}
use Rattle.terms.specs.declared.Shape.{Shape}
use Rattle.terms.specs.declared.Form.{Form}
use Rattle.terms.specs.declared.ScanEntry.{ScanEntry}
use Rattle.terms.specs.Entries.{bears, first_index}
use Rattle.history.specs.History.{History, Record, any, filterb, up_to, is_active, state_of, keeper_of, has_keeper, keeper_borne, move_tests, bearer, row_at, range_of, records_of}
use Rattle.history.specs.Records.{no_record}
use Rattle.history.specs.Forms.{is_form, other_form}
use Rattle.history.proofs.Accepted.{Passed}
use Rattle.history.proofs.Lists.{by_cases, by_test, neither, both, parts, eqb_equal, all_at, any_append, any_at}
use Rattle.history.proofs.Steps.{active_is}
use Rattle.loops.proofs.Change.{zeros}
use Rattle.layout.specs.declared.Region.TheVariants.{Header, Opens, RowKeeper, TailKeeper, OpenKeeper}
use Rattle.layout.specs.Regions.{len, ranges_at, capacity_at, spares_at, rows_at, transactions_at, scans_at, stamp_at, merges_at, commits_at}
use Rattle.layout.specs.Sizes.{sizes_of}
use Rattle.layout.specs.View.{View, put, renew, rows_given, used_in}
use Rattle.layout.specs.Moved.{later_zero, moved}
use Rattle.layout.proofs.Moved.{columns_fit, moved_columns, moved_header, moved_long, moved_fits}
use Rattle.model.specs.Stored.{any_below, row_in, record_in, value_in, page_in, cell_in, current_in, row_keeper, record_keeper}
use Rattle.model.specs.Reading.{scan_page, was_current}
use Rattle.model.specs.Calls.{bears_keeper, keeper_borne_in}
use Rattle.model.specs.Represents.{HeaderFor, Represents, WellFormed, Whole}
use Rattle.model.proofs.Lists.{same_truth, any_below_lem, below_found, below_at, below_same, first_below, first_passes}
use Rattle.model.proofs.Book.{number_live, number_given}
use Rattle.model.proofs.Opens.{open_kind, open_there}
use Rattle.model.proofs.lookups.Heads.{in_range}
use Rattle.model.proofs.changes.Keepers.{later_none}

-- ---- whether one of the numbers below n passes, as a list has it
below_up_to_lem : (f : ℕ → Bool) (n : ℕ) → any f (up_to n) ≡ any_below f n
unfolding any_below
below_up_to_lem f zero = refl
below_up_to_lem f (suc n) = any_append f (up_to n) (n ∷ []) ∙ ap₂ ◌||◌ (below_up_to_lem f n) (or_none (f n))
  where
    or_none : (b : Bool) → (b || false) ≡ b
    or_none true = refl
    or_none false = refl

-- ---- and of the elements that a test picks
any_picked : {A : Type 0} (p f : A → Bool) (l : List A) → any f (filterb p l) ≡ any (λ x. p x && f x) l
any_picked p f [] = refl
any_picked p f (x ∷ l) =
    elim (p x) as (λ b. any f (cond b (x ∷ filterb p l) (filterb p l)) ≡ (b && f x || any (λ y. p y && f y) l)) [ true ↦ ap (λ (b : Bool). f x || b) (any_picked p f l) | false ↦ any_picked p f l ]

-- ---- no row, tail record or open transaction bears a keeper
pub record NoneBorne (S : Shape) (v : View) (h : History) : Type 0 where
  pub by_rows : (r : ℕ) → r < length h.rows → keeper_of h (row_at h r).inserter ≡ 0
  pub by_records : (g i : ℕ) → g < S.ranges → i < length (records_of h g) → keeper_of h (bearer (row_at h) (get_or (records_of h g) i no_record)) ≡ 0
  pub by_opens : (j : ℕ) → get_or (v Opens) j 0 ≢ 0 → keeper_of h (get_or (v Opens) j 0) ≡ 0

no_keeper : (h : History) (t : ℕ) → (T (has_keeper h t) → ⊥) → keeper_of h t ≡ 0
unfolding has_keeper
no_keeper h t f = by_test (λ b. (T (not b) → ⊥) → (T b → keeper_of h t ≡ 0) → keeper_of h t ≡ 0) (eqb (keeper_of h t) 0) (λ _ _ g. g tt) (λ _ g _. absurd (g tt)) f (eqb→eq (keeper_of h t) 0)

both_ways : (b : Bool) → T (not b) → T b → ⊥
both_ways false n t = t
both_ways true n t = elim n [ ]

pub moved_from_first : (F : Form) → T (is_form Form.First F) → F ≡ Form.First
moved_from_first Form.First t = refl
moved_from_first Form.Newest t = elim t [ ]

module _ {F : Form} {S : Shape} {v : View} {ps : List ScanEntry} {h : History} (o : Represents F S v ps h) (k : WellFormed S h) where
  -- ---- the test of the way back
  bears_is : (word t : ℕ) → word ≡ keeper_of h t → bears_keeper word ≡ has_keeper h t
  unfolding has_keeper
  bears_is word t e = ap (λ (w : ℕ). not (eqb w 0)) (mod-eq_of_lt (omega (arith, e, o.keepers.small t)) ∙ e)

  rows_borne : any_below (λ r. bears_keeper (row_keeper v r)) (rows_given v) ≡ any (λ w. has_keeper h w.inserter) h.rows
  unfolding row_keeper row_at
  rows_borne =
      ap (any_below (λ r. bears_keeper (row_keeper v r))) o.header.rows_given
      ∙ any_below_lem h.rows _ (λ r. bears_keeper (row_keeper v r)) (λ w. has_keeper h w.inserter) (length h.rows) (le_refl _) (λ r b. bears_is _ _ (o.keepers.of_rows r b))
      ∙ ap (any (λ w. has_keeper h w.inserter)) (take_all (length h.rows) h.rows (le_refl _))

  abbrev borne : Record → Bool
  borne y = has_keeper h (bearer (row_at h) y)

  range_borne : (g : ℕ) → g < S.ranges → any_below (λ i. bears_keeper (record_keeper v (g * S.capacity + i))) (used_in v g) ≡ any borne (records_of h g)
  unfolding record_keeper
  range_borne g b =
      ap (any_below (λ i. bears_keeper (record_keeper v (g * S.capacity + i)))) (o.tails g b).used_all
      ∙ any_below_lem (records_of h g) no_record _ borne (length (records_of h g)) (le_refl _) (λ i u. bears_is _ _ (o.keepers.of_records g i b u))
      ∙ ap (any borne) (take_all (length (records_of h g)) (records_of h g) (le_refl _))

  -- a record is one of a range
  ranges_borne : any_below (λ g. any borne (records_of h g)) S.ranges ≡ any borne h.tail
  unfolding records_of
  ranges_borne = same_truth _ _ there back
    where
      there : T (any_below (λ g. any borne (records_of h g)) S.ranges) → T (any borne h.tail)
      there t =
          let x = below_found _ S.ranges t in
          let u : T (any (λ y. eqb (range_of y.row) x.0 && borne y) h.tail) = rw (any_picked (λ y. eqb (range_of y.row) x.0) borne h.tail) at x.2 in
          let i = first_index (λ y. eqb (range_of y.row) x.0 && borne y) h.tail in
          any_at borne h.tail no_record i (first_below (λ y. eqb (range_of y.row) x.0 && borne y) h.tail u)
          (parts (eqb (range_of (get_or h.tail i no_record).row) x.0) (borne (get_or h.tail i no_record)) (first_passes (λ y. eqb (range_of y.row) x.0 && borne y) h.tail no_record u)).1

      back : T (any borne h.tail) → T (any_below (λ g. any borne (records_of h g)) S.ranges)
      back t =
          let i = first_index borne h.tail in
          let y : Record = get_or h.tail i no_record in
          let b : i < length h.tail = first_below borne h.tail t in
          below_at _ S.ranges (range_of y.row) (in_range k y.row (all_at k.invariants.order.records i no_record b).inside)
          (rw (any_picked (λ z. eqb (range_of z.row) (range_of y.row)) borne h.tail)
          (any_at (λ z. eqb (range_of z.row) (range_of y.row) && borne z) h.tail no_record i b (both (eqb (range_of y.row) (range_of y.row)) (borne y) (eqb_equal (range_of y.row) (range_of y.row) refl) (first_passes borne h.tail no_record t))))

  opens_borne : any_below (λ j. not (eqb (get_or (v Opens) j 0) 0) && bears_keeper (get_or (v OpenKeeper) j 0)) most_transactions
      ≡ any (λ i. is_active (state_of h (suc i)) && has_keeper h (suc i)) (up_to (length h.transactions))
  unfolding state_of
  opens_borne = same_truth _ _ there back ∙ sym (below_up_to_lem _ (length h.transactions))
    where
      there : T (any_below (λ j. not (eqb (get_or (v Opens) j 0) 0) && bears_keeper (get_or (v OpenKeeper) j 0)) most_transactions) → T (any_below (λ i. is_active (state_of h (suc i)) && has_keeper h (suc i)) (length h.transactions))
      there t = go (get_or (v Opens) x.0 0) refl (parts (not (eqb (get_or (v Opens) x.0 0) 0)) (bears_keeper (get_or (v OpenKeeper) x.0 0)) x.2)
        where
          x : (j : ℕ) × (j < most_transactions) × T (not (eqb (get_or (v Opens) j 0) 0) && bears_keeper (get_or (v OpenKeeper) j 0))
          x = below_found (λ j. not (eqb (get_or (v Opens) j 0) 0) && bears_keeper (get_or (v OpenKeeper) j 0)) most_transactions t

          go : (n : ℕ) → get_or (v Opens) x.0 0 ≡ n → T (not (eqb (get_or (v Opens) x.0 0) 0)) × T (bears_keeper (get_or (v OpenKeeper) x.0 0)) → T (any_below (λ i. is_active (state_of h (suc i)) && has_keeper h (suc i)) (length h.transactions))
          go zero e p = absurd (rw e at p.0)
          go (suc n) e p =
              let f : get_or (v Opens) x.0 0 ≢ 0 = λ z. omega (arith, e, z) in
              below_at (λ i. is_active (state_of h (suc i)) && has_keeper h (suc i)) (length h.transactions) n (omega (arith, e, number_given open_kind h.transactions (v Opens) o.opens x.0))
              (both (is_active (state_of h (suc n))) (has_keeper h (suc n)) (rw e at (number_live open_kind h.transactions (v Opens) o.opens x.0 f)) (rw e at (rw (bears_is (get_or (v OpenKeeper) x.0 0) (get_or (v Opens) x.0 0) (o.keepers.of_opens x.0 f)) at p.1)))

      back : T (any_below (λ i. is_active (state_of h (suc i)) && has_keeper h (suc i)) (length h.transactions)) → T (any_below (λ j. not (eqb (get_or (v Opens) j 0) 0) && bears_keeper (get_or (v OpenKeeper) j 0)) most_transactions)
      back t =
          let x = below_found (λ i. is_active (state_of h (suc i)) && has_keeper h (suc i)) (length h.transactions) t in
          let p = parts (is_active (state_of h (suc x.0))) (has_keeper h (suc x.0)) x.2 in
          let there = open_there h.transactions (v Opens) o.opens (suc x.0) (active_is _ p.0) in
          let j = first_index (bears (suc x.0)) (v Opens) in
          let f : get_or (v Opens) j 0 ≢ 0 = λ z. omega (arith, there.1, z) in
          below_at (λ j. not (eqb (get_or (v Opens) j 0) 0) && bears_keeper (get_or (v OpenKeeper) j 0)) most_transactions j (omega (arith, there.0, o.whole.long Opens))
          (both (not (eqb (get_or (v Opens) j 0) 0)) (bears_keeper (get_or (v OpenKeeper) j 0)) (rw (ne_eqb (get_or (v Opens) j 0) 0 f) tt) (rw (bears_is (get_or (v OpenKeeper) j 0) (get_or (v Opens) j 0) (o.keepers.of_opens j f), there.1) p.1))

  pub borne_is : keeper_borne_in S v ≡ keeper_borne h
  unfolding keeper_borne_in keeper_borne
  borne_is = ap₂ ◌||◌ rows_borne (ap₂ ◌||◌ (below_same _ _ S.ranges range_borne ∙ ranges_borne) opens_borne)

  abbrev in_rows : Bool
  in_rows = any (λ w. has_keeper h w.inserter) h.rows

  abbrev in_tail : Bool
  in_tail = any (λ y. has_keeper h (bearer (row_at h) y)) h.tail

  abbrev in_opens : Bool
  in_opens = any (λ i. is_active (state_of h (suc i)) && has_keeper h (suc i)) (up_to (length h.transactions))

  -- an entry that names a transaction is one of the list
  entry_in : (j : ℕ) → get_or (v Opens) j 0 ≢ 0 → j < most_transactions
  entry_in j n = by_cases (dec_lt j most_transactions) (λ b. b) (λ b. absurd (n (get_or-eq_default (v Opens) 0 {n = j} (omega (arith, o.whole.long Opens)))))

  -- ---- an accepted move meets no keeper: on the way back by its test, and else since the first form has none
  pub borne_none : (to : Form) → T (is_form (other_form to) F) → Passed (move_tests to h) → NoneBorne S v h
  unfolding move_tests keeper_borne row_at records_of
  borne_none Form.First w p =
      let a = neither in_rows (in_tail || in_opens) p.0 in
      let b = neither in_tail in_opens a.1 in
      record {
        by_rows = λ r u. no_keeper h _ (λ t. both_ways in_rows a.0 (any_at (λ w. has_keeper h w.inserter) h.rows _ r u t));
        by_records = λ g i u z. no_keeper h _ (λ t. both_ways in_tail b.0 (rw ranges_borne at (below_at (λ a. any borne (records_of h a)) S.ranges g u (any_at borne (records_of h g) no_record i z t))));
        by_opens = λ j n. no_keeper h _ (λ t. both_ways in_opens b.1 (rw opens_borne at (below_at (λ j. not (eqb (get_or (v Opens) j 0) 0) && bears_keeper (get_or (v OpenKeeper) j 0)) most_transactions j (entry_in j n)
            (both (not (eqb (get_or (v Opens) j 0) 0)) (bears_keeper (get_or (v OpenKeeper) j 0)) (rw (ne_eqb (get_or (v Opens) j 0) 0 n) tt) (rw (bears_is (get_or (v OpenKeeper) j 0) (get_or (v Opens) j 0) (o.keepers.of_opens j n)) t)))));
      }
  borne_none Form.Newest w p =
      let f = moved_from_first F w in
      record {
        by_rows = λ r u. sym (o.keepers.of_rows r u) ∙ later_none F (λ x. len (sizes_of x S) RowKeeper) refl (v RowKeeper) (o.whole.long RowKeeper) f r;
        by_records = λ g i u z. sym (o.keepers.of_records g i u z) ∙ later_none F (λ x. len (sizes_of x S) TailKeeper) refl (v TailKeeper) (o.whole.long TailKeeper) f _;
        by_opens = λ j n. sym (o.keepers.of_opens j n) ∙ later_none F (λ x. len (sizes_of x S) OpenKeeper) refl (v OpenKeeper) (o.whole.long OpenKeeper) f j;
      }

  pub moved_represents : (to : Form) → NoneBorne S v h → Represents to S (moved to S v) ps h
  unfolding moved later_zero put renew row_in record_in value_in page_in cell_in current_in scan_page was_current
  moved_represents to none =
      record {
        header = header;
        opens = o.opens;
        notes = o.notes;
        keepers = record {
          of_rows = λ r b. zeros (sizes_of to S).later.rows r ∙ sym (none.by_rows r b);
          of_records = λ g i b u. zeros (sizes_of to S).later.slots (g * S.capacity + i) ∙ sym (none.by_records g i b u);
          of_opens = λ j n. zeros (sizes_of to S).later.opens j ∙ sym (none.by_opens j n);
          small = o.keepers.small;
        };
        rows = o.rows;
        tails = o.tails;
        currents = o.currents;
        waits = o.waits;
        pool = o.pool;
        scans = o.scans;
        scan_pages = o.scan_pages;
        whole = whole;
      }
    where
      whole : Whole to S (moved to S v)
      whole = record { long = moved_long F to S v o.whole.long; fits = moved_fits to S v (columns_fit to S.columns k.small.columns) o.whole.fits }

      header : HeaderFor to S h (moved to S v)
      header =
          record {
            columns = moved_columns to S v (omega (arith, o.whole.long Header));
            ranges = moved_header to S v ranges_at (λ e. omega arith) ∙ o.header.ranges;
            capacity = moved_header to S v capacity_at (λ e. omega arith) ∙ o.header.capacity;
            spares = moved_header to S v spares_at (λ e. omega arith) ∙ o.header.spares;
            rows_given = moved_header to S v rows_at (λ e. omega arith) ∙ o.header.rows_given;
            transactions_given = moved_header to S v transactions_at (λ e. omega arith) ∙ o.header.transactions_given;
            scans_given = moved_header to S v scans_at (λ e. omega arith) ∙ o.header.scans_given;
            last_stamp = moved_header to S v stamp_at (λ e. omega arith) ∙ o.header.last_stamp;
            commits_made = moved_header to S v commits_at (λ e. omega arith) ∙ o.header.commits_made;
            merges_made = moved_header to S v merges_at (λ e. omega arith) ∙ o.header.merges_made;
          }
