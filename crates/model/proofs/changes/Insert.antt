-- Insert keeps the relation: a row more, and its values in the current pages of its range.
use mathlib.Core.Path.{◌≡◌, refl, sym, ◌∙◌, ap, subst}
use mathlib.Core.Logic.{◌≢◌}
use mathlib.Core.Bool.{false, ◌&&◌}
use mathlib.Core.List.{List, [], ◌∷◌, ◌++◌}
use Prim.Native.Nat.{ℕ, zero, suc, ◌+◌, ◌*◌, ◌/◌, ◌%◌, ◌^◌, ◌≤◌, ◌<◌}
use native.Mathlib.Omega.{arith}
use native.Mathlib.Nat.{le_refl, not-suc-le-zero}
use native.Mathlib.Decide.{ℕ_discrete}
use lib.Dec.{T, eqb}
use lib.ListN.{get_or-append, length, get_or, set, length-append, length-set}
use lib.Seq.{get_or-set_same, get_or-set_other, take-length}
use lib.IntN.{ℤ, pos}
use lib.Pow.{shr_le}
use borrow.Author.Tests.{ne_eqb}
use mir.Syntax.{w32}
use mir.Val.{to_z, of_z, SFits}
use mir.ValLaws.{to_z-of_z, of_z_fits}
use Rattle.terms.specs.Measures.{range_rows}
use Rattle.terms.specs.declared.Shape.{Shape}
use Rattle.terms.specs.declared.Form.{Form}
use Rattle.history.specs.History.{insert, History, Row, Record, State, active, state_of, keeper_of, row_at, bit, sets, range_of, records_of, merged_through, scan_at, seen_at, with_rows, commit_of}
use Rattle.history.specs.Lists.{All, nil, cons}
use Rattle.history.proofs.Lists.{at_append, by_cases, all_append, all_map, all_at, any_none}
use Rattle.history.specs.Steps.{Step}
use Rattle.history.specs.Records.{was_set, no_record, last_of}
use Rattle.history.proofs.States.{active_unseen}
use Rattle.history.specs.Invariants.{Timely}
use Rattle.words.specs.Words.{Fit}
use Rattle.loops.proofs.Change.{set_fit}
use Rattle.layout.specs.View.{View, renew, put}
use Rattle.layout.specs.declared.Region.TheVariants.{Header, Opens, RowTransaction, RowState, RowStamp, RowLink, RowMask, Current, Cells, Changes, RowOrdinal, RowKeeper}
use Rattle.terms.specs.declared.ScanEntry.{ScanEntry}
use Rattle.terms.specs.Entries.{bears, first_index}
use Rattle.layout.specs.Regions.{rows_at, len}
use Rattle.layout.specs.Sizes.{sizes_of}
use Rattle.model.specs.Stored.{row_in, record_in, value_in, page_in, cell_in, current_in, chunk_of, within, open_index, open_keeper, next_word}
use Rattle.layout.specs.Codes.{as_open}
use Rattle.model.specs.Reading.{scan_page, was_current}
use Rattle.model.specs.Writing.{noted, put_cells, inserted_at, inserted_in}
use Rattle.model.proofs.Lists.{same_part}
use Rattle.model.specs.Represents.{state_word, RowIs, RowsAre, Holds, every_row, CurrentIs, CurrentOf, CurrentsAre, ScanPageOf, ScanPagesAre, NotesAre, KeepersFor, HeaderFor, Represents, WellFormed, Whole}
use Rattle.model.proofs.Holding.{same_row, with_row, row_new, rows_more, not_given_lem, other_row, holds_step, holds_cells, holds_insert}
use Rattle.model.proofs.Steady.{scan_cells, scan_page_step, waits_stay}
use Rattle.model.proofs.Views.{renew_whole, put_whole, noted_whole, header_put, header_same}
use Rattle.model.proofs.changes.Keepers.{keepers_row, later_put, own_keeper}
use Rattle.model.proofs.changes.Notes.{notes_more, few_changes}
use Rattle.model.proofs.Opens.{active_given}

-- ---- a new row has no record and no bit
pub bit_none : (c : ℕ) → bit 0 c ≡ false
unfolding bit
bit_none c = ne_eqb (0 / 2 ^ c % 2) 1 (λ e. omega (arith, shr_le 0 c))

pub no_link : (l : List Record) (r n : ℕ) → n ≤ length l → All (λ (x : Record). x.row ≢ r) l → last_of l r n ≡ 0
unfolding last_of
no_link l r zero b a = refl
no_link l r (suc n) b a = rw (ne_eqb (get_or l n no_record).row r (all_at a n no_record b)) (no_link l r n (omega arith) a)

pub never_set : (l : List Record) (r c : ℕ) → All (λ (x : Record). x.row ≢ r) l → was_set l r c ≡ false
unfolding was_set
never_set l r c a = any_none (λ (x : Record). eqb x.row r && sets c x.content) (all_map (λ (x : Record) f. rw (ne_eqb x.row r f) tt) a)

-- ---- the cells that are written
module _ (S : Shape) (current : List ℕ) (g i : ℕ) (vs : List ℤ) (cells : List ℕ) where
  abbrev page : ℕ → ℕ
  page c = get_or current (chunk_of S g c) 0

  pub cells_length : (n : ℕ) → length (put_cells S current g i vs n cells) ≡ length cells
  cells_length zero = refl
  cells_length (suc n) = length-set (put_cells S current g i vs n cells) _ _ ∙ cells_length n

  pub cells_other : (n j : ℕ) → ((c : ℕ) → c < n → j ≢ page c * range_rows + i) → get_or (put_cells S current g i vs n cells) j 0 ≡ get_or cells j 0
  cells_other zero j f = refl
  cells_other (suc n) j f =
      get_or-set_other (put_cells S current g i vs n cells) _ j _ 0 (f n (le_refl _)) ∙ cells_other n j (λ c b. f c (omega arith))

  pub cells_same : (n c : ℕ) → c < n → ((a b : ℕ) → a < n → b < n → page a ≡ page b → a ≡ b) → page c * range_rows + i < length cells
      → get_or (put_cells S current g i vs n cells) (page c * range_rows + i) 0 ≡ of_z w32 (get_or vs c (pos 0))
  cells_same zero c b d e = absurd (not-suc-le-zero b)
  cells_same (suc n) c b d e = by_cases (ℕ_discrete c n)
      (λ q. rw q (get_or-set_same (put_cells S current g i vs n cells) (page n * range_rows + i) _ 0 (omega (arith, cells_length n, ap page q))))
      (λ q. get_or-set_other (put_cells S current g i vs n cells) (page n * range_rows + i) (page c * range_rows + i) _ 0 (λ z. q (d c n b (le_refl _) (omega arith)))
      ∙ cells_same n c (omega arith) (λ x y p q. d x y (omega arith) (omega arith)) e)

  cells_fit : ((c : ℕ) → of_z w32 (get_or vs c (pos 0)) < 2 ^ 32) → Fit cells → (n : ℕ) → Fit (put_cells S current g i vs n cells)
  cells_fit f k zero = k
  cells_fit f k (suc n) = set_fit (put_cells S current g i vs n cells) _ _ (cells_fit f k n) (f n)

-- ---- values that fit
pub value_fits : (vs : List ℤ) → All (SFits w32) vs → (c : ℕ) → SFits w32 (get_or vs c (pos 0))
value_fits [] nil c = record { sfits = omega arith }
value_fits (x ∷ vs) (cons p ps) zero = p
value_fits (x ∷ vs) (cons p ps) (suc c) = value_fits vs ps c

-- ---- current pages are pages of one range and column each
pub current_apart : (S : Shape) (v : View) (h : History) → CurrentsAre S h v → (g c g' c' : ℕ) → g < S.ranges → c < S.columns → g' < S.ranges → c' < S.columns
    → current_in S v g c ≡ current_in S v g' c' → (g ≡ g') × (c ≡ c')
current_apart S v h o g c g' c' a b a' b' e =
    same_part S.columns g g' c c' b b' (sym (o g c a b).chunk ∙ ap (λ (p : ℕ). (page_in v p).chunk) e ∙ (o g' c' a' b').chunk)

module _ {F : Form} {S : Shape} {v : View} {ps : List ScanEntry} {h : History} (o : Represents F S v ps h) (k : WellFormed S h) (t : ℕ) (vs : List ℤ) (a : state_of h t ≡ active)
    (room : length h.rows < S.ranges * range_rows) (typed : All (SFits w32) vs) where
  abbrev row : Row
  row = record { inserter = t; values = vs }

  abbrev r : ℕ
  r = length h.rows

  abbrev h' : History
  h' = with_row h row

  abbrev v' : View
  v' = inserted_at S t vs (length h.rows) v

  abbrev cells' : List ℕ
  cells' = put_cells S (v Current) (range_of (length h.rows)) (within (length h.rows)) vs S.columns (v Cells)

  pub inside : range_of (length h.rows) < S.ranges
  unfolding range_of
  inside = omega arith

  insert_rows : RowsAre h' v'
  unfolding inserted_at noted open_index put renew row_in row_at state_of records_of with_rows
  insert_rows = at_append (λ i w. RowIs (state_of h) w (records_of h (range_of i)) i (row_in v' i)) h.rows row _
      (λ i u. let f : i ≢ r = λ e. omega arith in simp get_or-set_other (o.rows i u))
      record {
        transaction = get_or-set_same (v RowTransaction) r t 0 (omega (arith, o.whole.long RowTransaction));
        state = get_or-set_same (v RowState) r as_open 0 (omega (arith, o.whole.long RowState)) ∙ sym (ap state_word a);
        stamp = get_or-set_same (v RowStamp) r 0 0 (omega (arith, o.whole.long RowStamp)) ∙ sym (ap (λ (x : State). (commit_of x).stamp) a);
        ordinal = get_or-set_same (v RowOrdinal) r 0 0 (omega (arith, o.whole.long RowOrdinal)) ∙ sym (ap (λ (x : State). (commit_of x).ordinal) a);
        link = get_or-set_same (v RowLink) r 0 0 (omega (arith, o.whole.long RowLink)) ∙ sym (no_link (records_of h (range_of r)) r _ (le_refl _) fresh);
        mask = λ c. ap (λ (m : ℕ). bit m c) (get_or-set_same (v RowMask) r 0 0 (omega (arith, o.whole.long RowMask))) ∙ bit_none c ∙ sym (never_set (records_of h (range_of r)) r c fresh);
      }
    where
      fresh : All (λ (x : Record). x.row ≢ r) (records_of h (range_of r))
      fresh = rw take-length at (not_given_lem h (range_of r) (length (records_of h (range_of r))) r k.invariants.order (le_refl _))

  -- what the cells of a page are now: for a page that is of no column of the row's range, and for cells other than the row's
  pub cell_kept : (p i : ℕ) → i < range_rows → ((c : ℕ) → c < S.columns → p ≡ current_in S v (range_of r) c → i ≢ within r) → get_or cells' (p * range_rows + i) 0 ≡ cell_in v p i
  unfolding current_in cell_in
  cell_kept p i b f =
      cells_other S (v Current) (range_of r) (within r) vs (v Cells) S.columns (p * range_rows + i)
      (λ c d e. f c d (omega arith) (omega arith))

  -- the new cell
  cell_written : (c : ℕ) → c < S.columns → to_z w32 (get_or cells' (current_in S v (range_of r) c * range_rows + within r) 0) ≡ get_or vs c (pos 0)
  unfolding current_in
  cell_written c b =
      ap (to_z w32)
      (cells_same S (v Current) (range_of r) (within r) vs (v Cells) S.columns c b
      (λ x y p q e. (current_apart S v h o.currents (range_of r) x (range_of r) y inside p inside q e).1)
      (omega (arith, (o.currents (range_of r) c inside b).inside, o.whole.long Cells)))
      ∙ to_z-of_z w32 (get_or vs c (pos 0)) (value_fits vs typed c)

  insert_currents : Step S h (insert t vs) h' → CurrentsAre S h' v'
  unfolding inserted_at noted open_index put renew page_in cell_in current_in merged_through
  insert_currents step g c b d = by_cases (ℕ_discrete (range_of r) g)
      (λ e. packed (holds_insert row g c (page_in v p) k.invariants.order step e
      (subst (λ (z : ℕ). to_z w32 (get_or cells' (current_in S v z c * range_rows + within r) 0) ≡ get_or vs c (pos 0)) e (cell_written c d)) (λ i u f. cell_kept p i u (λ c' w z. f)) x.holds))
      (λ f. packed
      (holds_cells (λ i e q. cell_kept p (within i) (omega arith) (λ c' w z. absurd (f (sym (current_apart S v h o.currents g c (range_of r) c' b d inside w z).0))))
      (holds_step k.invariants.order step g c (page_in v p) (λ i e q. (tt, other_row h row i (λ z. f (ap range_of (sym z) ∙ e)))) x.holds)))
    where
      p : ℕ
      p = current_in S v g c

      x : CurrentOf S h v g c
      x = o.currents g c b d

      cell : ℕ → ℕ
      cell i = get_or cells' (p * range_rows + i) 0

      packed : Holds h' g c every_row (page_in v p) cell → CurrentIs S h' g c p (page_in v p) cell
      packed q =
          record { inside = x.inside; state = x.state; chunk = x.chunk; made = unfold with_rows in x.made; lineage = unfold with_rows in x.lineage; holds = q }

  -- a page of this chunk that is a current page of the new row's range has another cell in it for each row given before
  pub scan_apart : (g c p : ℕ) → c < S.columns → (page_in v p).chunk ≡ chunk_of S g c → (j : ℕ) → range_of j ≡ g → j ≢ r → (c' : ℕ) → c' < S.columns → p ≡ current_in S v (range_of r) c'
      → within j ≢ within r
  scan_apart g c p d pl j e f c' w z u =
      f (same_row j r (e ∙ (same_part S.columns g (range_of r) c c' d w (sym pl ∙ ap (λ (p : ℕ). (page_in v p).chunk) z ∙ (o.currents (range_of r) c' inside w).chunk)).0) u)

  insert_scans : Step S h (insert t vs) h' → ScanPagesAre S h' v'
  unfolding inserted_at noted open_index put renew page_in cell_in current_in scan_page was_current scan_at Timely with_rows
  insert_scans step i run g c b d =
      let p : ℕ = scan_page S v (scan_at h i).merges g c in
      let x : ScanPageOf S h v (scan_at h i) g c = o.scan_pages i (unfold with_rows in run) g c b d in
      scan_cells (λ j e q. cell_kept p (within j) (omega arith) (scan_apart g c p d x.chunk j e (seen j q))) (scan_page_step k.invariants.order step (k.invariants.timely i).commits x)
    where
      -- a row that the scan sees is not the new one, which is open
      seen : (j : ℕ) → T (seen_at h' (scan_at h i).snapshot (row_at h' j).inserter) → j ≢ r
      seen j q e = rw (e, row_new h row, active_unseen h' (scan_at h i).snapshot t (unfold state_of with_rows in a)) at q

  insert_notes : NotesAre (h.rows ++ row ∷ []) h.tail (v Opens) (set (v Changes) (first_index (bears t) (v Opens)) (next_word (get_or (v Changes) (first_index (bears t) (v Opens)) 0)))
  unfolding state_of
  insert_notes =
      notes_more h.rows (h.rows ++ row ∷ []) h.tail h.tail h.transactions (v Opens) (v Changes) t (o.whole.long Opens) (o.whole.long Changes) (few_changes k)
      (simp length-append (omega arith)) (λ u f n. record { no_row = all_append n.no_row (cons (λ e. f (sym e)) nil); no_record = n.no_record }) o.opens a o.notes

  -- the keeper that the row bears
  own : (open_keeper v t ≡ keeper_of h t) × (open_keeper v t < 2 ^ 32) × (F ≡ Form.First → open_keeper v t ≡ 0)
  own = own_keeper o k t a

  insert_keepers : KeepersFor S h' v'
  unfolding inserted_at noted put renew keeper_of records_of with_rows
  insert_keepers =
      rw (rows_more h row) (keepers_row k.invariants o.opens o.keepers t row (open_keeper v t) refl own.0 (later_put F (λ f. len (sizes_of f S) RowKeeper) refl (v RowKeeper) r (open_keeper v t) (o.whole.long RowKeeper) room own.2) (row_at h') (row_new h row)
      (λ i b. unfold row_at with_rows in (get_or-append h.rows (row ∷ []) record { inserter = 0; values = [] } i b)))

  insert_whole : Whole F S v'
  unfolding inserted_at state_of
  insert_whole =
      let number : t < 2 ^ 32 = omega (arith, (active_given h.transactions t a).1, k.invariants.limits.transactions) in
      noted_whole t
      (put_whole Header rows_at (r + 1) (omega (arith, k.small.ranges))
      (renew_whole Cells cells' (cells_length S (v Current) (range_of r) (within r) vs (v Cells) S.columns ∙ o.whole.long Cells)
      (cells_fit S (v Current) (range_of r) (within r) vs (v Cells) (λ c. (of_z_fits w32 (get_or vs c (pos 0)) (value_fits vs typed c)).fits) (o.whole.fits Cells) S.columns)
      (put_whole RowMask r 0 (omega arith) (put_whole RowLink r 0 (omega arith) (put_whole RowKeeper r _ own.1 (put_whole RowOrdinal r 0 (omega arith) (put_whole RowStamp r 0 (omega arith) (put_whole RowState r 0 (omega arith) (put_whole RowTransaction r t number o.whole)))))))))

  insert_at : Step S h (insert t vs) h' → Represents F S v' ps h'
  unfolding inserted_at noted open_index put renew with_rows record_in value_in page_in state_of records_of current_in
  insert_at step =
      let header : HeaderFor F S h' v' =
      header_same (sym (simp length-append (omega arith))) refl refl refl (header_put (v Header) 4 (r + 1) (omega (arith, o.whole.long Header)) (omega arith) o.header) in
      search (header, insert_notes, insert_keepers, insert_rows, insert_currents step, waits_stay o k step refl, insert_scans step, insert_whole)

  pub insert_kept : Step S h (insert t vs) h' → Represents F S (inserted_in S t vs v) ps h'
  unfolding inserted_in
  insert_kept step = rw o.header.rows_given (insert_at step)
