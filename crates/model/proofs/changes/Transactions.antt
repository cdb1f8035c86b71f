-- Open transactions: begin, commit and abort keep the relation. Commit and abort mark every row and record that bears the number.
use mathlib.Core.Path.{◌≡◌, refl, sym, ◌∙◌, ap}
use mathlib.Core.Logic.{◌≢◌, inl, inr}
use mathlib.Core.Bool.{true, false, cond}
use mathlib.Core.List.{List, [], ◌∷◌, ◌++◌}
use Prim.Native.Nat.{ℕ, zero, suc, ◌+◌, ◌*◌, ◌^◌, ◌≤◌, ◌<◌, zero-le}
use native.Mathlib.Omega.{arith}
use native.Mathlib.Nat.{le_refl, le_trans, not-suc-le-zero, zero-add, mul-le-mul_right, mod-eq_of_lt, suc-mul}
use native.Mathlib.Decide.{ℕ_discrete}
use lib.Dec.{T, eqb}
use lib.ListN.{length, get_or, set, length-append, length-set}
use lib.Seq.{get_or-set_same, get_or-set_other}
use borrow.Author.Tests.{ne_eqb, eq-eqb}
use Rattle.terms.specs.Measures.{range_rows, most_numbers}
use Rattle.terms.specs.declared.Shape.{Shape}
use Rattle.terms.specs.declared.Form.{Form}
use Rattle.history.specs.History.{Call, commit, abort, History, Row, Record, Commit, next_commit, State, unknown, active, aborted, committed, any, nth, change, state_of, row_at, range_of, records_of, scan_at, keeper_of, with_begun, with_transactions, commit_of}
use Rattle.history.proofs.Lists.{by_cases, all_each, nth_beyond, clash, all_map, nth_changed, nth_other, length_change}
use Rattle.history.specs.Steps.{Step, Closing, by_commit, by_abort}
use Rattle.history.proofs.States.{given_known, state_began}
use Rattle.history.proofs.Limits.{closing_inactive, commits_few}
use Rattle.history.proofs.Order.{sound_at}
use Rattle.history.specs.Invariants.{InOrder, Limits}
use Rattle.history.specs.Records.{no_record}
use Rattle.loops.specs.Change.{marked}
use Rattle.words.specs.Words.{Fit}
use Rattle.loops.proofs.Change.{changed_length, changed_outside, changed_at_lem, changed_fit}
use Rattle.layout.specs.View.{View, renew, put, rows_given, transactions_given, commits_made, used_in}
use Rattle.layout.specs.declared.Region.TheVariants.{Header, Opens, RowTransaction, RowState, RowStamp, TailTransaction, TailState, TailStamp, Used, Changes, RowOrdinal, TailOrdinal, OpenKeeper}
use Rattle.layout.specs.declared.Region.{Region}
use Rattle.layout.specs.Sizes.{sizes_of}
use Rattle.terms.specs.declared.ScanEntry.{ScanEntry}
use Rattle.terms.specs.Entries.{first_index}
use Rattle.layout.specs.Regions.{len, transactions_at, stamp_at, commits_at}
use Rattle.model.proofs.Opens.{opens_begin, opens_close, open_there}
use Rattle.model.specs.Stored.{RowWords, RecordWords, row_in, record_in, value_in, page_in, cell_in, current_in, open_index, next_word}
use Rattle.layout.specs.Codes.{keeper_limit}
use Rattle.model.specs.Reading.{scan_page, was_current}
use Rattle.model.specs.Writing.{begun, mark_tails, mark_all, settled, freed, committed_in, aborted_in}
use Rattle.model.proofs.Lists.{first_below, part_in}
use Rattle.model.specs.Represents.{state_word, RowIs, RecordIs, TailOf, RowsAre, TailsAre, OpensAre, Unchanged, NotesAre, KeepersFor, HeaderFor, Represents, WellFormed, Whole}
use Rattle.model.proofs.Views.{renew_whole, put_whole, changed_start, header_put, header_same}
use Rattle.model.proofs.changes.Keepers.{keepers_begun, keepers_freed, later_put}
use Rattle.model.proofs.Steady.{pages_stay}

-- ---- rows and records under new states
abbrev stamp_of : State → ℕ
stamp_of x = (commit_of x).stamp

abbrev ordinal_of : State → ℕ
ordinal_of x = (commit_of x).ordinal

row_states : {st st' : ℕ → State} {w : Row} {recs : List Record} {r : ℕ} {x : RowWords} → st' w.inserter ≡ st w.inserter → RowIs st w recs r x → RowIs st' w recs r x
row_states e o = search (o.state ∙ ap state_word (sym e), o.stamp ∙ ap stamp_of (sym e), o.ordinal ∙ ap ordinal_of (sym e))

record_states : {C : ℕ} {st st' : ℕ → State} {y : Record} {x : RecordWords} {value : ℕ → ℕ} → st' y.transaction ≡ st y.transaction → RecordIs C st y x value → RecordIs C st' y x value
record_states e o = search (o.state ∙ ap state_word (sym e), o.stamp ∙ ap stamp_of (sym e), o.ordinal ∙ ap ordinal_of (sym e))

-- ---- begin
-- a number not yet given has made nothing
not_begun : (h : History) → InOrder h → Unchanged h.rows h.tail (suc (length h.transactions))
unfolding state_of row_at
not_begun h i =
    record {
      no_row = all_each h.rows record { inserter = 0; values = [] } (λ r b e. given_known _ (i.inserters r b) (ap (state_of h) e ∙ nth_beyond unknown h.transactions));
      no_record = all_map (λ y p e. given_known _ p.giver (ap (state_of h) e ∙ nth_beyond unknown h.transactions)) i.records;
    }

-- an entry that is taken or freed, with nothing noted
notes_set : (rows : List Row) (tail : List Record) (l notes : List ℕ) (j t : ℕ) → j < length l → j < length notes → (t ≢ 0 → Unchanged rows tail t) → NotesAre rows tail l notes
    → NotesAre rows tail (set l j t) (set notes j 0)
notes_set rows tail l notes j t b c u o k d = by_cases (ℕ_discrete k j)
    (λ e. rw (e, get_or-set_same l j t 0 b, get_or-set_same notes j 0 0 c) (λ n. record { bound = zero-le; none = λ _. u n }))
    (λ f. rw (get_or-set_other l j k t 0 f, get_or-set_other notes j k 0 0 f) (o k d))

module _ {F : Form} {S : Shape} {v : View} {ps : List ScanEntry} {h : History} (o : Represents F S v ps h) (k : WellFormed S h) (x : ℕ) where
  abbrev begun_history : History
  begun_history = with_begun h x

  begun_rows : RowsAre begun_history v
  unfolding row_at records_of with_begun with_transactions
  begun_rows r b = row_states {st = state_of h} {st' = state_of begun_history} (state_began h (h.keepers ++ x ∷ []) _ (k.invariants.order.inserters r b)) (o.rows r b)

  begun_tails : TailsAre S begun_history v
  unfolding records_of with_begun with_transactions
  begun_tails g b =
      let t : TailOf S (state_of h) (records_of h g) v g = o.tails g b in
      record {
        used_all = t.used_all;
        each = λ i u. record_states {st = state_of h} {st' = state_of begun_history} (state_began h (h.keepers ++ x ∷ []) _ (sound_at h g k.invariants.order i no_record u).giver) (t.each i u);
        links = t.links;
      }

  begun_whole : length h.transactions < most_numbers → x < keeper_limit → Whole F S (begun x v)
  unfolding begun
  begun_whole few fits =
      let b : transactions_given v + 1 < 2 ^ 32 = omega (arith, o.header.transactions_given) in
      put_whole Header transactions_at _ b (put_whole OpenKeeper _ x (omega arith) (put_whole Changes _ 0 (omega arith) (put_whole Opens _ _ b o.whole)))

  pub begin_kept : {c : Call} → T (any (λ i. eqb i 0) (v Opens)) → Step S h c begun_history → length h.transactions < most_numbers → x < keeper_limit → (F ≡ Form.First → x ≡ 0) → Represents F S (begun x v) ps begun_history
  unfolding begun put renew with_begun with_transactions row_in record_in value_in page_in cell_in current_in scan_page was_current scan_at
  begin_kept free step few fits none = search (header, opens, notes, keepers, begun_rows, begun_tails, pages_stay o k step refl refl (λ i. refl), begun_whole few fits)
    where
      n : ℕ
      n = transactions_given v + 1

      j : ℕ
      j = first_index (λ i. eqb i 0) (v Opens)

      e : n ≡ suc (length h.transactions)
      e = omega (arith, o.header.transactions_given)

      inside : j < length (v Opens)
      inside = first_below (λ i. eqb i 0) (v Opens) free

      header : HeaderFor F S begun_history (begun x v)
      header = unfold begun put renew with_begun with_transactions in
          (header_same refl (e ∙ sym (simp length-append (omega arith))) refl refl (header_put (v Header) 5 n (omega (arith, o.whole.long Header)) (omega arith) o.header))

      opens : OpensAre (h.transactions ++ active ∷ []) (set (v Opens) j n)
      opens = rw e (opens_begin h.transactions (v Opens) o.opens free)

      notes : NotesAre h.rows h.tail (set (v Opens) j n) (set (v Changes) j 0)
      notes =
          notes_set h.rows h.tail (v Opens) (v Changes) j n inside (omega (arith, inside, o.whole.long Opens, o.whole.long Changes))
          (λ _. rw e (not_begun h k.invariants.order)) o.notes

      keepers : KeepersFor S begun_history (begun x v)
      keepers = unfold begun put renew with_begun with_transactions keeper_of row_at records_of in
          (rw e (keepers_begun k.invariants o.opens o.keepers x j fits inside
          (later_put F (λ f. len (sizes_of f S) OpenKeeper) refl (v OpenKeeper) j x (o.whole.long OpenKeeper) (omega (arith, inside, o.whole.long Opens)) none)))

-- ---- the marks
pub marked_at : (ks : List ℕ) (n t w : ℕ) (l : List ℕ) (r : ℕ) → n ≤ length l → r < n → get_or (marked ks 0 n t 0 w l) r 0 ≡ cond (eqb (get_or ks r 0) t) w (get_or l r 0)
marked_at ks n t w l r a b =
    changed_start (λ i x. cond (eqb (get_or ks (0 + i) 0) t) w x) n l r a b ∙ ap (λ (j : ℕ). cond (eqb (get_or ks j 0) t) w (get_or l r 0)) (zero-add r)

pub marks_length : (S : Shape) (used ks : List ℕ) (t w n : ℕ) (l : List ℕ) → length (mark_tails S used ks t w n l) ≡ length l
marks_length S used ks t w zero l = refl
marks_length S used ks t w (suc n) l = changed_length _ (n * S.capacity) (mark_tails S used ks t w n l) (get_or used n 0) ∙ marks_length S used ks t w n l

module _ (S : Shape) (used ks : List ℕ) (t w : ℕ) (l : List ℕ) (few : (g : ℕ) → g < S.ranges → get_or used g 0 ≤ S.capacity) (room : S.ranges * S.capacity ≤ length l) where
  -- the ranges from n on are as they were
  marks_above : (n j : ℕ) → n ≤ S.ranges → n * S.capacity ≤ j → get_or (mark_tails S used ks t w n l) j 0 ≡ get_or l j 0
  marks_above zero j a b = refl
  marks_above (suc n) j a b =
      changed_outside _ (n * S.capacity) (mark_tails S used ks t w n l) (get_or used n 0) j (inr (omega (arith, few n a, suc-mul n S.capacity)))
      ∙ marks_above n j (omega arith) (omega (arith, suc-mul n S.capacity))

  pub marks_at : (n g i : ℕ) → n ≤ S.ranges → g < n → i < get_or used g 0
      → get_or (mark_tails S used ks t w n l) (g * S.capacity + i) 0 ≡ cond (eqb (get_or ks (g * S.capacity + i) 0) t) w (get_or l (g * S.capacity + i) 0)
  marks_at zero g i a b c = absurd (not-suc-le-zero b)
  marks_at (suc n) g i a b c = by_cases (ℕ_discrete g n)
      (λ e. rw e
      (changed_at_lem (λ i x. cond (eqb (get_or ks (n * S.capacity + i) 0) t) w x) (n * S.capacity) (mark_tails S used ks t w n l) (get_or used n 0) i
      (omega (arith, marks_length S used ks t w n l, few n a, suc-mul n S.capacity, mul-le-mul_right S.capacity a)) (rw e at c)
      ∙ ap (λ (x : ℕ). cond (eqb (get_or ks (n * S.capacity + i) 0) t) w x) (marks_above n (n * S.capacity + i) (omega arith) (omega arith))))
      (λ f. let u : g < n = omega arith in
      changed_outside _ (n * S.capacity) (mark_tails S used ks t w n l) (get_or used n 0) (g * S.capacity + i)
      (inl (omega (arith, part_in n S.capacity g i u (le_trans c (few g (omega arith))))))
      ∙ marks_at n g i (omega arith) u c)

marked_fit : (ks : List ℕ) (at n t w : ℕ) (l : List ℕ) → w < 2 ^ 32 → Fit l → Fit (marked ks at n t at w l)
marked_fit ks at n t w l b f = changed_fit _ at n l (λ i x c d. elim (eqb (get_or ks (at + i) 0) t) as (λ z. cond z w x < 2 ^ 32) [ true ↦ b | false ↦ d ]) f

marks_fit : (S : Shape) (used ks : List ℕ) (t w n : ℕ) (l : List ℕ) → w < 2 ^ 32 → Fit l → Fit (mark_tails S used ks t w n l)
marks_fit S used ks t w zero l b f = f
marks_fit S used ks t w (suc n) l b f = marked_fit ks (n * S.capacity) (get_or used n 0) t w (mark_tails S used ks t w n l) b (marks_fit S used ks t w n l b f)

mark_all_whole : {F : Form} {S : Shape} {v : View} (t : ℕ) (rows tails : Region) (w : ℕ) → w < 2 ^ 32 → Whole F S v → Whole F S (mark_all S t rows tails w v)
unfolding mark_all
mark_all_whole {F} {S} {v} t rows tails w b o =
    renew_whole tails _ (marks_length S (v Used) (v TailTransaction) t w S.ranges (v tails) ∙ o.long tails) (marks_fit S (v Used) (v TailTransaction) t w S.ranges (v tails) b (o.fits tails))
    (renew_whole rows _ (changed_length _ 0 (v rows) (rows_given v) ∙ o.long rows) (marked_fit (v RowTransaction) 0 (rows_given v) t w (v rows) b (o.fits rows)) o)

pub settled_whole : {F : Form} {S : Shape} {v : View} (t state : ℕ) (s : Commit) → state < 2 ^ 32 → s.stamp < 2 ^ 32 → s.ordinal < 2 ^ 32 → Whole F S v → Whole F S (settled S t state s v)
unfolding settled
settled_whole t state s a b c o =
    mark_all_whole t RowOrdinal TailOrdinal s.ordinal c (mark_all_whole t RowStamp TailStamp s.stamp b (mark_all_whole t RowState TailState state a o))

-- a function of a transaction's state, after t is closed with x
closed_is : {A : Type 0} (f : State → A) (ts : List State) (t : ℕ) (x : State) (k : ℕ) → nth ts t unknown ≡ active
    → f (nth (change ts t x) k unknown) ≡ cond (eqb k t) (f x) (f (nth ts k unknown))
closed_is f ts t x k a = by_cases (ℕ_discrete k t)
    (λ e. rw (eq-eqb k t e, e, nth_changed unknown ts t x (λ u. clash (cc))))
    (λ n. rw (ne_eqb k t n, nth_other unknown ts t x k n))

module _ {F : Form} {S : Shape} {v : View} {ps : List ScanEntry} {h : History} (o : Represents F S v ps h) (k : WellFormed S h) (t : ℕ) {x : State} {s : Commit} (a : state_of h t ≡ active) (c : Closing h x s) where
  abbrev closed_history : History
  closed_history = with_transactions h (change h.transactions t x) h.keepers s

  abbrev marks : View
  marks = settled S t (state_word x) (commit_of x) v

  -- what a word of region i says of row r's inserter, after the marks; and of the transaction of record n of range g
  row_word : (f : State → ℕ) (i : Region) (r : ℕ) → len (sizes_of F S) i ≡ S.ranges * range_rows → r < length h.rows → get_or (v i) r 0 ≡ f (state_of h (row_at h r).inserter)
      → get_or (marked (v RowTransaction) 0 (rows_given v) t 0 (f x) (v i)) r 0 ≡ f (state_of closed_history (row_at h r).inserter)
  unfolding state_of row_in with_transactions
  row_word f i r e b q =
      marked_at (v RowTransaction) (rows_given v) t (f x) (v i) r (omega (arith, o.header.rows_given, o.whole.long i, e, k.invariants.limits.rows)) (omega (arith, o.header.rows_given))
      ∙ rw ((o.rows r b).transaction, q) (sym (closed_is f h.transactions t x (row_at h r).inserter a))

  closed_rows : RowsAre closed_history marks
  unfolding row_at records_of with_transactions mark_all settled renew row_in
  closed_rows r b =
      let y : RowIs (state_of h) (row_at h r) (records_of h (range_of r)) r (row_in v r) = o.rows r b in
      record {
        transaction = y.transaction;
        state = row_word state_word RowState r refl b y.state;
        stamp = row_word stamp_of RowStamp r refl b y.stamp;
        ordinal = row_word ordinal_of RowOrdinal r refl b y.ordinal;
        link = y.link;
        mask = y.mask;
      }

  used_few : (g : ℕ) → g < S.ranges → used_in v g ≤ S.capacity
  used_few g b = omega (arith, (o.tails g b).used_all, k.invariants.limits.records g)

  record_word : (f : State → ℕ) (i : Region) (g n : ℕ) → len (sizes_of F S) i ≡ S.ranges * S.capacity → g < S.ranges → n < length (records_of h g)
      → get_or (v i) (g * S.capacity + n) 0 ≡ f (state_of h (get_or (records_of h g) n no_record).transaction)
      → get_or (mark_tails S (v Used) (v TailTransaction) t (f x) S.ranges (v i)) (g * S.capacity + n) 0 ≡ f (state_of closed_history (get_or (records_of h g) n no_record).transaction)
  unfolding state_of record_in with_transactions
  record_word f i g n e b u q =
      let y : TailOf S (state_of h) (records_of h g) v g = o.tails g b in
      marks_at S (v Used) (v TailTransaction) t (f x) (v i) used_few (omega (arith, o.whole.long i, e)) S.ranges g n (le_refl _) b (omega (arith, y.used_all))
      ∙ rw ((y.each n u).transaction, q) (sym (closed_is f h.transactions t x (get_or (records_of h g) n no_record).transaction a))

  closed_tails : TailsAre S closed_history marks
  unfolding records_of with_transactions mark_all settled renew record_in value_in
  closed_tails g b =
      let y : TailOf S (state_of h) (records_of h g) v g = o.tails g b in
      record {
        used_all = y.used_all;
        each = λ i u.
            let z : RecordIs S.columns (state_of h) (get_or (records_of h g) i no_record) (record_in v (g * S.capacity + i)) (value_in S v (g * S.capacity + i)) = y.each i u in
            record {
              transaction = z.transaction;
              row = z.row;
              state = record_word state_word TailState g i refl b u z.state;
              stamp = record_word stamp_of TailStamp g i refl b u z.stamp;
              ordinal = record_word ordinal_of TailOrdinal g i refl b u z.ordinal;
              content = z.content;
            };
        links = y.links;
      }

  -- the open entry is free again, and every row and record is marked
  closed_parts : OpensAre (change h.transactions t x) (freed t marks Opens) × NotesAre h.rows h.tail (freed t marks Opens) (freed t marks Changes) × RowsAre closed_history (freed t marks)
      × TailsAre S closed_history (freed t marks) × KeepersFor S closed_history (freed t marks)
  unfolding state_of keeper_of row_at records_of with_transactions freed open_index put renew mark_all settled row_in record_in value_in
  closed_parts =
      let inside = (open_there h.transactions (v Opens) o.opens t a).0 in (
        opens_close h.transactions (v Opens) t x o.opens a (closing_inactive c),
        notes_set h.rows h.tail (v Opens) (v Changes) _ 0 inside (omega (arith, o.whole.long Opens, o.whole.long Changes)) (λ f. absurd (f refl)) o.notes,
        closed_rows,
        closed_tails,
        keepers_freed k.invariants o.opens o.keepers _ inside,
      )

  closed_whole : state_word x < 2 ^ 32 → stamp_of x < 2 ^ 32 → ordinal_of x < 2 ^ 32 → Whole F S (freed t marks)
  unfolding freed
  closed_whole b d e =
      put_whole OpenKeeper _ 0 (omega arith) (put_whole Changes _ 0 (omega arith) (put_whole Opens _ 0 (omega arith) (settled_whole t (state_word x) (commit_of x) b d e o.whole)))

pub abort_kept : {F : Form} {S : Shape} {v : View} {ps : List ScanEntry} {h : History} → Represents F S v ps h → WellFormed S h → (t : ℕ) → state_of h t ≡ active
    → Step S h (abort t) (with_transactions h (change h.transactions t aborted) h.keepers h.last)
    → Represents F S (aborted_in S t v) ps (with_transactions h (change h.transactions t aborted) h.keepers h.last)
unfolding aborted_in freed open_index mark_all settled put renew with_transactions row_in record_in value_in page_in cell_in current_in scan_page was_current scan_at
abort_kept {F} {S} {v} {ps} {h} o k t a step =
    search (
      header_same {t' = length (change h.transactions t aborted)} refl (sym (length_change h.transactions t aborted)) refl refl o.header,
      closed_parts o k t a by_abort,
      closed_whole o k t a by_abort (omega arith) (omega arith) (omega arith),
      pages_stay o k step refl refl (λ i. refl),
    )

-- the count of commits has not gone round
next_ordinal : {F : Form} {S : Shape} (v : View) {h : History} → HeaderFor F S h v → Limits S h → (next_word (commits_made v) ≡ suc h.last.ordinal) × (suc h.last.ordinal < 2 ^ 32)
next_ordinal v {h} o l =
    let b : suc h.last.ordinal < 2 ^ 32 = omega (arith, commits_few l, l.transactions) in
    (mod-eq_of_lt (omega (arith, o.commits_made)) ∙ omega (arith, o.commits_made), b)

pub commit_kept : {F : Form} {S : Shape} {v : View} {ps : List ScanEntry} {h : History} → Represents F S v ps h → WellFormed S h → (t s : ℕ) → state_of h t ≡ active → h.last.stamp ≤ s → s < 2 ^ 32
    → Step S h (commit t s) (with_transactions h (change h.transactions t (committed (next_commit h s))) h.keepers (next_commit h s))
    → Represents F S (committed_in S t s v) ps (with_transactions h (change h.transactions t (committed (next_commit h s))) h.keepers (next_commit h s))
unfolding committed_in freed open_index mark_all settled put renew with_transactions row_in record_in value_in page_in cell_in current_in scan_page was_current scan_at
commit_kept {F} {S} {v} {ps} {h} o k t s a later fit step =
    let e = next_ordinal v o.header k.invariants.limits in
    rw e.0
    (search (
      header_same {t' = length (change h.transactions t (committed (next_commit h s)))} refl (sym (length_change h.transactions t (committed (next_commit h s)))) refl refl
          (header_put (set (v Header) stamp_at s) 9 (suc h.last.ordinal) (rw length-set (omega (arith, o.whole.long Header))) (omega arith) (header_put (v Header) 7 s (omega (arith, o.whole.long Header)) (omega arith) o.header)),
      closed_parts o k t a (by_commit later),
      put_whole Header commits_at (suc h.last.ordinal) e.1 (put_whole Header stamp_at s fit (closed_whole o k t a (by_commit later) (omega arith) fit e.1)),
      pages_stay o k step refl refl (λ i. refl),
    ))
