-- A store just made, in either form, represents the empty history.
use mathlib.Core.Path.{◌≡◌, refl, ◌∙◌, ap}
use mathlib.Core.Logic.{inr}
use mathlib.Core.Bool.{Bool, true, false, not, ◌&&◌}
use mathlib.Core.List.{List, []}
use Prim.Native.Nat.{ℕ, zero, suc, ◌+◌, ◌*◌, ◌≤◌, ◌<◌, zero-le}
use native.Mathlib.Omega.{arith}
use native.Mathlib.Nat.{le_refl, not-suc-le-zero, mul-le-mul}
use native.Mathlib.Decide.{dec_lt}
use lib.Dec.{T, eqb}
use lib.ListN.{length, get_or, replicate, length-replicate}
use mir.Syntax.{w32}
use mir.Val.{to_z}
use Rattle.terms.specs.Measures.{range_rows, most_scans, within_limits, most_transactions, most_chunks}
use Rattle.terms.specs.declared.Shape.{Shape}
use Rattle.terms.specs.declared.Form.{Form}
use Rattle.history.specs.History.{state_of, start, count, row_at, inserted_value, inserted, last_setting, records_of, keeper_of, last_through, merged_through, scan_at, cell_through}
use Rattle.history.specs.Lists.{nil}
use Rattle.history.proofs.Lists.{by_cases, both_test, le_test}
use Rattle.loops.specs.Change.{numbered}
use Rattle.words.specs.Words.{Fit}
use Rattle.loops.proofs.Change.{changed_length, changed_outside, changed_fit, zeros}
use Rattle.layout.specs.Regions.{len, columns_word}
use Rattle.layout.proofs.Moved.{columns_fit}
use Rattle.layout.specs.View.{blank, renew, put}
use Rattle.layout.specs.declared.Region.{Region}
use Rattle.layout.specs.declared.Region.TheVariants.{Header, Opens, Current, PageState, PageChunk}
use Rattle.layout.specs.Sizes.{sizes_of}
use Rattle.terms.specs.Entries.{free_entry}
use Rattle.model.specs.Stored.{page_in, cell_in, current_in, chunk_of, chunks_of, pages_of, within, waiting_page, current_page, count_below}
use Rattle.model.specs.Writing.{made_view}
use Rattle.layout.specs.Codes.{as_current, keeper_limit}
use Rattle.model.proofs.Lists.{below_none}
use Rattle.model.specs.Represents.{Holds, TailOf, every_row, CurrentsAre, PoolIs, Represents, Small, Whole}
use Rattle.model.proofs.Views.{renew_whole, put_whole, changed_start}
use Rattle.model.proofs.upkeep.Merged.{chunk_in}

-- ---- a stretch from the start
none_counted : {A : Type 0} (f : A → Bool) (n : ℕ) (x : A) → f x ≡ false → count f (replicate n x) ≡ 0
none_counted f zero x e = refl
none_counted f (suc n) x e = rw e (none_counted f n x e)

-- the first a of n numbers pass, and no other
below_first : (f : ℕ → Bool) (a n : ℕ) → a ≤ n → ((k : ℕ) → k < a → f k ≡ true) → ((k : ℕ) → a ≤ k → k < n → f k ≡ false) → count_below f n ≡ a
below_first f a zero b t e = omega arith
below_first f a (suc n) b t e = by_cases (dec_lt n a)
    (λ u. rw (t n u) (omega (arith, below_first f n n (le_refl _) (λ k c. t k (omega arith)) (λ k c d. absurd (omega arith)))))
    (λ u. rw (e n (omega arith) (le_refl _)) (below_first f a n (omega arith) t (λ k c d. e k c (omega arith))))

-- ---- the shape's limits as numbers
pub small_shape : (S : Shape) → T (within_limits S) → Small S
unfolding within_limits
small_shape S t = let limits = simp (both_test, le_test) at t in search limits

module _ (F : Form) (S : Shape) (small : Small S) where
  few_chunks : chunks_of S ≤ most_chunks
  few_chunks = mul-le-mul small.columns small.ranges

  -- ---- the words of the pages
  state_first : (p : ℕ) → p < chunks_of S → (page_in (made_view F S) p).state ≡ as_current
  unfolding made_view blank put renew page_in
  state_first p b = changed_start (λ i x. as_current) (chunks_of S) (replicate (pages_of S) 0) p (rw length-replicate (omega arith)) b

  state_rest : (p : ℕ) → chunks_of S ≤ p → (page_in (made_view F S) p).state ≡ 0
  unfolding made_view blank put renew page_in
  state_rest p b = changed_outside (λ i x. as_current) 0 (replicate (pages_of S) 0) (chunks_of S) p (inr (omega arith)) ∙ zeros (pages_of S) p

  page_made : (p : ℕ) → p < chunks_of S → page_in (made_view F S) p ≡ record { state = as_current; chunk = p; made = 0; replaced = 0; lineage = 0; newest = 0 }
  unfolding made_view blank put renew page_in
  page_made p b = let room : chunks_of S ≤ length {A = ℕ} (replicate (pages_of S) 0) = rw length-replicate (omega arith) in simp (changed_start, zeros)

  current_made : (g c : ℕ) → g < S.ranges → c < S.columns → current_in S (made_view F S) g c ≡ chunk_of S g c
  unfolding made_view blank put renew current_in
  current_made g c a b = changed_start (λ i x. i) (chunks_of S) (replicate (chunks_of S) 0) (chunk_of S g c) (rw length-replicate (le_refl _)) (chunk_in S g c a b)

  holds_made : (g c : ℕ) (cell : ℕ → ℕ) → ((i : ℕ) → cell i ≡ 0) → (p : ℕ) → Holds start g c every_row record { state = as_current; chunk = p; made = 0; replaced = 0; lineage = 0; newest = 0 } cell
  unfolding start cell_through records_of last_setting inserted inserted_value row_at
  holds_made g c cell z p =
      record {
        through = record { within = zero-le; closed_all = nil };
        newest = nil;
        stamped = zero-le;
        cells = λ r e q. ap (to_z w32) (z (within r));
      }

  cells_made : (p i : ℕ) → cell_in (made_view F S) p i ≡ 0
  unfolding made_view blank put renew cell_in
  cells_made p i = zeros (pages_of S * range_rows) (p * range_rows + i)

  currents_made : CurrentsAre S start (made_view F S)
  currents_made g c a b =
      rw (current_made g c a b, page_made (chunk_of S g c) (chunk_in S g c a b))
      record {
        inside = omega (arith, chunk_in S g c a b);
        state = refl;
        chunk = refl;
        made = zero-le;
        lineage = unfold merged_through last_through start in refl;
        holds = holds_made g c (cell_in (made_view F S) (chunk_of S g c)) (cells_made (chunk_of S g c)) (chunk_of S g c);
      }

  state_not_waiting : (p : ℕ) → waiting_page (page_in (made_view F S) p).state ≡ false
  state_not_waiting p = by_cases (dec_lt p (chunks_of S)) (λ b. ap waiting_page (state_first p b)) (λ b. ap waiting_page (state_rest p (omega arith)))

  pool_made : PoolIs S [] (page_in (made_view F S))
  pool_made =
      record {
        current =
            below_first (λ p. current_page (page_in (made_view F S) p).state) (chunks_of S) (pages_of S) (omega arith)
            (λ p b. ap current_page (state_first p b)) (λ p a b. ap current_page (state_rest p a));
        waiting = λ q. below_none (λ p. waiting_page (page_in (made_view F S) p).state && q (page_in (made_view F S) p).replaced) (pages_of S) (λ p b. ap (λ (w : Bool). w && q (page_in (made_view F S) p).replaced) (state_not_waiting p));
      }

  blank_whole : Whole F S (blank (sizes_of F S))
  unfolding blank
  blank_whole = record { long = λ k. length-replicate (len (sizes_of F S) k) 0; fits = λ k i. rw (zeros (len (sizes_of F S) k) i) (omega arith) }

  blank_long : (k : Region) → length (blank (sizes_of F S) k) ≡ len (sizes_of F S) k
  blank_long k = blank_whole.long k

  number_fit : (l : List ℕ) → Fit l → Fit (numbered 0 (chunks_of S) l)
  number_fit l f = changed_fit (λ i x. i) 0 (chunks_of S) l (λ i x a b. omega (arith, few_chunks)) f

  made_whole : Whole F S (made_view F S)
  unfolding made_view
  made_whole =
      put_whole Header 0 (columns_word F S.columns) (columns_fit F S.columns small.columns)
      (put_whole Header 1 S.ranges (omega (arith, small.ranges))
      (put_whole Header 2 S.capacity (omega (arith, small.capacity))
      (put_whole Header 3 S.spares (omega (arith, small.spares))
      (renew_whole Current _ (changed_length (λ i x. i) 0 (blank (sizes_of F S) Current) (chunks_of S) ∙ blank_long Current) (number_fit (blank (sizes_of F S) Current) (blank_whole.fits Current))
      (renew_whole PageChunk _ (changed_length (λ i x. i) 0 (blank (sizes_of F S) PageChunk) (chunks_of S) ∙ blank_long PageChunk) (number_fit (blank (sizes_of F S) PageChunk) (blank_whole.fits PageChunk))
      (renew_whole PageState _ (changed_length (λ i x. as_current) 0 (blank (sizes_of F S) PageState) (chunks_of S) ∙ blank_long PageState)
      (changed_fit (λ i x. as_current) 0 (chunks_of S) (blank (sizes_of F S) PageState) (λ i x a b. omega arith) (blank_whole.fits PageState)) blank_whole))))))

  pub made_represents : (n : ℕ) → most_scans ≤ n → Represents F S (made_view F S) (replicate n free_entry) start
  made_represents n enough =
      record {
        header = unfold made_view blank put renew start in record { columns = refl; ranges = refl; capacity = refl; spares = refl; rows_given = refl; transactions_given = refl; scans_given = refl; last_stamp = refl; commits_made = refl; merges_made = refl };
        opens = unfold made_view blank put renew start in (λ q. refl);
        notes = λ j b f. absurd (f (no_open j));
        keepers = record {
          of_rows = λ r b. absurd (no_rows r b);
          of_records = λ g j b u. absurd (no_records g j u);
          of_opens = λ j f. absurd (f (no_open j));
          small = no_keeper;
        };
        rows = λ r b. absurd (no_rows r b);
        tails = λ g b. no_tail g;
        currents = currents_made;
        waits = λ p b t. absurd (rw (state_not_waiting p) at t);
        pool = unfold start in pool_made;
        scans = unfold start in record { room = rw length-replicate enough; same = λ q. none_counted (λ p. not (eqb p.number 0) && q p) n free_entry refl };
        scan_pages = λ k t. absurd (no_scan_lem k t);
        whole = made_whole;
      }
    where
      no_open : (j : ℕ) → get_or (made_view F S Opens) j 0 ≡ 0
      no_open j = unfold made_view blank put renew in (zeros most_transactions j)

      no_rows : (r : ℕ) → r < length start.rows → ⊥
      no_rows r b = unfold start in (not-suc-le-zero b)

      no_records : (g j : ℕ) → j < length (records_of start g) → ⊥
      no_records g j b = unfold start records_of in (not-suc-le-zero b)

      no_tail : (g : ℕ) → TailOf S (state_of start) (records_of start g) (made_view F S) g
      no_tail g = unfold made_view blank put renew start records_of in record { used_all = zeros S.ranges g; each = λ k u. absurd (not-suc-le-zero u); links = λ k u. absurd (not-suc-le-zero u) }

      no_keeper : (t : ℕ) → keeper_of start t < keeper_limit
      no_keeper zero = unfold keeper_of start in (omega arith)
      no_keeper (suc t) = unfold keeper_of start in (omega arith)

      no_scan_lem : (k : ℕ) → T (scan_at start k).running → ⊥
      no_scan_lem zero t = unfold scan_at start in t
      no_scan_lem (suc k) t = unfold scan_at start in t
