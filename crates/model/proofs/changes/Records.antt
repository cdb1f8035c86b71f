-- Update and delete keep the relation: the records that a call makes stand at the end of their range, the row's link leads to the last of them, and the row's
-- mask has their columns.
use mathlib.Core.Path.{◌≡◌, refl, sym, ◌∙◌, ap, subst}
use mathlib.Core.Logic.{◌≢◌}
use mathlib.Core.Bool.{true, false, cond, ◌&&◌, ◌||◌, or-false}
use mathlib.Core.List.{List, [], ◌∷◌, ◌++◌, append-nil, append_assoc}
use Prim.Native.Nat.{ℕ, zero, suc, ◌+◌, ◌*◌, ◌^◌, ◌≤◌, ◌<◌}
use native.Mathlib.Omega.{arith}
use native.Mathlib.Nat.{le_refl}
use native.Mathlib.Decide.{ℕ_discrete}
use lib.Dec.{eqb, eqb→eq}
use lib.ListN.{length, get_or, set, length-append}
use lib.Seq.{get_or-append_seam, get_or-append-add}
use borrow.Author.Tests.{ne_eqb}
use Rattle.terms.specs.declared.Shape.{Shape}
use Rattle.terms.specs.declared.Form.{Form}
use Rattle.history.specs.History.{delete, History, Record, State, active, Content, ending, state_of, keeper_of, borne_by, row_at, bit, sets, range_of, records_of, scan_at, delete_records, with_tail, commit_of}
use Rattle.history.specs.Lists.{All, nil}
use Rattle.history.proofs.Lists.{by_cases, eqb_same, all_map, all_at, all_append, any_append, by_test}
use Rattle.history.proofs.Steps.{New}
use Rattle.history.specs.Steps.{Step}
use Rattle.history.specs.Records.{was_set, no_record, last_of}
use Rattle.history.proofs.Ranges.{records_made_lem}
use Rattle.history.proofs.Links.{last_of_append}
use Rattle.layout.specs.View.{View, renew, put, used_in}
use Rattle.layout.specs.Regions.{len}
use Rattle.layout.specs.Sizes.{sizes_of}
use Rattle.layout.specs.declared.Region.TheVariants.{Opens, Changes, RowLink, RowKeeper, TailKeeper, OpenKeeper}
use Rattle.terms.specs.declared.ScanEntry.{ScanEntry}
use Rattle.terms.specs.Entries.{bears, first_index}
use Rattle.model.specs.Stored.{RowWords, RecordWords, row_in, record_in, value_in, page_in, cell_in, current_in, open_index, open_keeper, next_word}
use Rattle.layout.specs.Codes.{as_open, as_delete}
use Rattle.model.specs.Reading.{scan_page, was_current}
use Rattle.model.specs.Writing.{noted, next_slot, appended, filled_in, deleted_in}
use Rattle.model.specs.Represents.{state_word, RowIs, RowsAre, ContentIs, RecordIs, TailsFor, TailsAre, NotesAre, KeepersAre, Represents, WellFormed, Whole}
use Rattle.model.proofs.Steady.{pages_stay}
use Rattle.model.proofs.Views.{noted_whole}
use Rattle.model.proofs.changes.Keepers.{WordsBear, words_more, later_put, own_keeper}
use Rattle.model.proofs.changes.Notes.{notes_more, few_changes}
use Rattle.model.proofs.Opens.{active_given}
use Rattle.model.proofs.changes.Insert.{never_set}
use Rattle.model.proofs.lookups.Heads.{in_range}
use Rattle.model.proofs.changes.Append.{tails_more, appended_here, appended_there, keeper_here, used_here, used_there, link_here, link_there, appended_whole, slot_next, slot_in, filled_here, filled_there, content_values, filled_whole}

-- ---- the last record of a row
-- records of other rows at the end do not matter
last_of_others : (l m : List Record) (r n : ℕ) → n ≤ length m → All (λ (x : Record). x.row ≢ r) m → last_of (l ++ m) r (length l + n) ≡ last_of l r (length l)
unfolding last_of
last_of_others l m r zero b a =
    let e : length l + 0 ≡ length l = omega arith in
    ap (last_of (l ++ m) r) e ∙ last_of_append l m r (length l) (le_refl _)
last_of_others l m r (suc n) b a =
    let e : length l + suc n ≡ suc (length l + n) = omega arith in
    rw (e, get_or-append-add l m n no_record, ne_eqb (get_or m n no_record).row r (all_at a n no_record b)) (last_of_others l m r n (omega arith) a)

pub last_of_new : (l : List Record) (y : Record) → last_of (l ++ y ∷ []) y.row (length (l ++ y ∷ [])) ≡ suc (length l)
unfolding last_of
last_of_new l y =
    let e : length (l ++ y ∷ []) ≡ suc (length l) = simp length-append (omega arith) in
    rw (e, get_or-append_seam l y [] no_record, eqb_same y.row)

-- a row's words with another link and mask
abbrev pub relinked : RowWords → ℕ → ℕ → RowWords
relinked x l m = record { transaction = x.transaction; state = x.state; stamp = x.stamp; ordinal = x.ordinal; link = l; mask = m }

-- ---- the records that a call makes on row r, one after another
-- those of range g, with ms at the end of the row's range
abbrev with_made : History → ℕ → List Record → ℕ → List Record
with_made h r ms g = records_of h g ++ cond (eqb (range_of r) g) ms []

-- Memory u has the records ms of row r besides those of v: the tails hold them, the row's link leads to the last, and nothing else of the rows differs.
pub record Extended (F : Form) (S : Shape) (h : History) (v : View) (r : ℕ) (ms : List Record) (u : View) : Type 0 where
  pub whole : Whole F S u
  pub tails : TailsFor S (state_of h) (with_made h r ms) u
  pub keepers : WordsBear S (keeper_of h) (row_at h) (with_made h r ms) (u TailKeeper)
  pub link : get_or (u RowLink) r 0 ≡ last_of (records_of h (range_of r) ++ ms) r (length (records_of h (range_of r) ++ ms))
  pub others : (i : ℕ) → i ≢ r → get_or (u RowLink) i 0 ≡ get_or (v RowLink) i 0
  pub rows : (i : ℕ) → row_in u i ≡ relinked (row_in v i) (get_or (u RowLink) i 0) (row_in v i).mask

set_append : (l m : List Record) (r c : ℕ) → was_set (l ++ m) r c ≡ (was_set l r c || was_set m r c)
unfolding was_set
set_append l m r c = any_append (λ x. eqb x.row r && sets c x.content) l m

module _ {F : Form} {S : Shape} {v : View} {ps : List ScanEntry} {h : History} (o : Represents F S v ps h) (k : WellFormed S h) {t r : ℕ} (a : state_of h t ≡ active) (b : r < length h.rows) {ms : List Record}
    (new : All (New h t r) ms) where
  abbrev h' : History
  h' = with_tail h (h.tail ++ ms)

  row_other : (i : ℕ) (x : RowWords) → i ≢ r → RowIs (state_of h) (row_at h i) (records_of h (range_of i)) i x → RowIs (state_of h) (row_at h i) (records_of h' (range_of i)) i x
  row_other i x n p =
      rw (records_made_lem h (range_of i) new)
      record {
        transaction = p.transaction;
        state = p.state;
        stamp = p.stamp;
        ordinal = p.ordinal;
        link = p.link ∙ sym (rw length-append (last_of_others (records_of h (range_of i)) more i (length more) (le_refl _) apart));
        mask = λ c. p.mask c ∙ sym (set_append (records_of h (range_of i)) more i c ∙ rw (never_set more i c apart) (or-false _));
      }
    where
      more : List Record
      more = cond (eqb (range_of r) (range_of i)) ms []

      apart : All (λ (x : Record). x.row ≢ i) more
      apart = elim (eqb (range_of r) (range_of i)) as (λ q. All (λ (x : Record). x.row ≢ i) (cond q ms [])) [ true ↦ all_map (λ x p e. n (sym e ∙ p.row)) new | false ↦ nil ]

  -- in a memory x that differs from u in the mask of row r alone
  pub made_rows : {u : View} → Extended F S h v r ms u → (x : View) (m : ℕ) → ((i : ℕ) → i ≢ r → row_in x i ≡ row_in u i) → row_in x r ≡ relinked (row_in u r) (get_or (u RowLink) r 0) m
      → ((c : ℕ) → bit m c ≡ (bit (row_in v r).mask c || was_set ms r c)) → RowsAre h' x
  unfolding state_of row_at with_tail
  made_rows E x m other own f i u = by_cases (ℕ_discrete i r)
      (λ q. rw (q, own, E.rows r, records_made_lem h (range_of r) new, eqb_same (range_of r))
      record {
        transaction = (o.rows r b).transaction;
        state = (o.rows r b).state;
        stamp = (o.rows r b).stamp;
        ordinal = (o.rows r b).ordinal;
        link = E.link;
        mask = λ c. f c ∙ rw ((o.rows r b).mask c) (sym (set_append (records_of h (range_of r)) ms r c));
      })
      (λ n. rw (other i n, E.rows i, E.others i n) (row_other i _ n (unfold row_in in (o.rows i u))))

  -- the call is noted, and the tails hold its records
  pub made_parts : {u : View} → Extended F S h v r ms u → 0 < length ms
      → NotesAre h.rows (h.tail ++ ms) (v Opens) (set (v Changes) (first_index (bears t) (v Opens)) (next_word (get_or (v Changes) (first_index (bears t) (v Opens)) 0))) × TailsAre S h' u
  unfolding state_of with_tail
  made_parts E some = (
    notes_more h.rows h.rows h.tail (h.tail ++ ms) h.transactions (v Opens) (v Changes) t (o.whole.long Opens) (o.whole.long Changes) (few_changes k)
        (simp length-append (omega arith))
        (λ u f n. record { no_row = n.no_row; no_record = all_append n.no_record (all_map (λ x p e. f (sym e ∙ p.transaction)) new) })
        o.opens a o.notes,
    λ g u. rw (records_made_lem h g new) (E.tails g u),
  )

  pub made_keepers : {u : View} → Extended F S h v r ms u → KeepersAre S (keeper_of h) (row_at h) (length h.rows) (records_of h') (v RowKeeper) (u TailKeeper) (v Opens) (v OpenKeeper)
  made_keepers E = record {
    of_rows = o.keepers.of_rows;
    of_records = λ g i u. rw (records_made_lem h g new) (E.keepers g i u);
    of_opens = o.keepers.of_opens;
    small = o.keepers.small;
  }

pub number_fits : {S : Shape} {h : History} → WellFormed S h → (t : ℕ) → state_of h t ≡ active → t < 2 ^ 31
unfolding state_of
number_fits {h = h} k t a = omega (arith, (active_given h.transactions t a).1, k.invariants.limits.transactions)

pub none_made : {F : Form} {S : Shape} {v : View} {ps : List ScanEntry} {h : History} → Represents F S v ps h → (r : ℕ) → r < length h.rows → Extended F S h v r [] v
unfolding row_in
none_made {F} {S} {v} {ps} {h} o r b = record {
  whole = o.whole;
  tails = λ g u. rw (elim (eqb (range_of r) g) as (λ q. records_of h g ++ cond q [] [] ≡ records_of h g) [ true ↦ append-nil (records_of h g) | false ↦ append-nil (records_of h g) ]) (o.tails g u);
  keepers = λ g i u. rw (elim (eqb (range_of r) g) as (λ q. records_of h g ++ cond q [] [] ≡ records_of h g) [ true ↦ append-nil (records_of h g) | false ↦ append-nil (records_of h g) ]) (o.keepers.of_records g i u);
  link = rw (append-nil (records_of h (range_of r))) (o.rows r b).link;
  others = λ i f. refl;
  rows = λ i. refl;
}

module _ {F : Form} {S : Shape} {h : History} {v : View} {r : ℕ} {ms : List Record} {u : View} (E : Extended F S h v r ms u) (k : WellFormed S h) (t : ℕ) (a : state_of h t ≡ active) (b : r < length h.rows)
    (content : Content) (keeper : ℕ) (own : keeper ≡ keeper_of h (borne_by content (row_at h r).inserter t)) (keeper-fits : keeper < 2 ^ 32) (keeper_none : F ≡ Form.First → keeper ≡ 0) (kind mask : ℕ)
    (room : length (records_of h (range_of r)) + length ms < S.capacity) (kind_fits : kind < 2 ^ 32) (mask_Fits : mask < 2 ^ 32) where
  abbrev y : Record
  y = record { transaction = t; row = r; content = content }

  abbrev made : ℕ → List Record
  made = with_made h r ms

  abbrev more : ℕ → List Record
  more = with_made h r (ms ++ record { transaction = t; row = r; content = content } ∷ [])

  inside : range_of r < S.ranges
  inside = in_range k r b

  made_length : length (made (range_of r)) ≡ length (records_of h (range_of r) ++ ms)
  made_length = rw (eqb_same (range_of r))

  made_room : length (made (range_of r)) < S.capacity
  made_room = omega (arith, made_length, length-append (records_of h (range_of r)) ms)

  made_few : (g : ℕ) → length (made g) ≤ S.capacity
  made_few g = by_test (λ q. length (records_of h g ++ cond q ms []) ≤ S.capacity) (eqb (range_of r) g)
      (λ t. rw (← (eqb→eq (range_of r) g t), length-append) (omega arith)) (λ _. rw (append-nil (records_of h g)) (k.invariants.limits.records g))

  made_grows : (g : ℕ) → more g ≡ cond (eqb (range_of r) g) (made g ++ y ∷ []) (made g)
  made_grows g =
      elim (eqb (range_of r) g) as (λ q. records_of h g ++ cond q (ms ++ y ∷ []) [] ≡ cond q ((records_of h g ++ cond q ms []) ++ y ∷ []) (records_of h g ++ cond q ms []))
      [ true ↦ sym (append_assoc (records_of h g) ms (y ∷ [])) | false ↦ refl ]

  used_is : used_in u (range_of r) ≡ length (made (range_of r))
  used_is = (E.tails (range_of r) inside).used_all

  room_in : used_in u (range_of r) < S.capacity
  room_in = omega (arith, used_is, made_room)

  appended_fits : Whole F S (appended S t keeper r kind mask u)
  appended_fits = appended_whole E.whole t keeper r kind mask inside room_in (omega (arith, number_fits k t a)) keeper-fits (omega (arith, k.invariants.limits.rows, k.small.ranges)) kind_fits mask_Fits (omega (arith, k.small.capacity))

  -- the record's words
  abbrev end : ℕ
  end = range_of r * S.capacity + length (made (range_of r))

  end_is : range_of r * S.capacity + used_in u (range_of r) ≡ end
  end_is = ap (λ (i : ℕ). range_of r * S.capacity + i) used_is

  keeper_taken : get_or (set (u TailKeeper) end keeper) end 0 ≡ keeper
  keeper_taken =
      later_put F (λ f. len (sizes_of f S) TailKeeper) refl (u TailKeeper) end keeper (E.whole.long TailKeeper) (rw end_is at (slot_in E.whole t keeper r kind mask inside room_in)) keeper_none

  here : record_in (appended S t keeper r kind mask u) end ≡ record { transaction = t; row = r; kind = kind; mask = mask; link = (row_in u r).link; state = as_open; stamp = 0; ordinal = 0 }
  here = rw end_is at (appended_here E.whole t keeper r kind mask inside room_in)

  there : (j : ℕ) → j ≢ end → record_in (appended S t keeper r kind mask u) j ≡ record_in u j
  there j f = appended_there E.whole t keeper r kind mask inside room_in j (λ e. f (e ∙ end_is))

  open_record : (value : ℕ → ℕ) → ContentIs S.columns content kind mask value → RecordIs S.columns (state_of h) y (record_in (appended S t keeper r kind mask u) end) value
  open_record value c = rw here record { transaction = refl; row = refl; state = sym (ap state_word a); stamp = sym (ap (λ (x : State). (commit_of x).stamp) a); ordinal = sym (ap (λ (x : State). (commit_of x).ordinal) a); content = c }

  new_link : (record_in (appended S t keeper r kind mask u) end).link ≡ last_of (made (range_of r)) r (length (made (range_of r)))
  unfolding row_in
  new_link = ap (λ (x : RecordWords). x.link) here ∙ E.link ∙ rw (eqb_same (range_of r))

  -- what a memory has that differs from the appended one in the words of the columns alone
  extended : (w : View) → Whole F S w → w TailKeeper ≡ appended S t keeper r kind mask u TailKeeper → ((j : ℕ) → record_in w j ≡ record_in (appended S t keeper r kind mask u) j) → ((g : ℕ) → used_in w g ≡ used_in (appended S t keeper r kind mask u) g)
      → ((i : ℕ) → get_or (w RowLink) i 0 ≡ get_or (appended S t keeper r kind mask u RowLink) i 0) → ((i : ℕ) → row_in w i ≡ relinked (row_in u i) (get_or (w RowLink) i 0) (row_in u i).mask)
      → ((j c : ℕ) → j ≢ end → c < S.columns → value_in S w j c ≡ value_in S u j c) → ContentIs S.columns content kind mask (value_in S w end) → Extended F S h v r (ms ++ y ∷ []) w
  extended w fits keepers records used links rows values c = record {
    whole = fits;
    keepers = rw (keepers, keeper_here E.whole t keeper r kind mask inside room_in, end_is)
        (words_more S (keeper_of h) (row_at h) made more (u TailKeeper) (range_of r) y keeper made_few made_room keeper_taken made_grows own E.keepers);
    tails = tails_more S u w (state_of h) made more (range_of r) y inside made_few made_room made_grows
        (used (range_of r) ∙ used_here E.whole t keeper r kind mask inside room_in) (λ g f. used g ∙ used_there E.whole t keeper r kind mask inside room_in g f) (λ j f. records j ∙ there j f) values
        (rw (records end) (open_record _ c)) (ap (λ (x : RecordWords). x.link) (records end) ∙ new_link) E.tails;
    link = links r ∙ link_here E.whole t keeper r kind mask inside room_in (omega (arith, k.invariants.limits.rows)) ∙ ap suc (used_is ∙ made_length)
        ∙ sym (rw (← (append_assoc (records_of h (range_of r)) ms (y ∷ []))) (last_of_new (records_of h (range_of r) ++ ms) y));
    others = λ i f. links i ∙ link_there E.whole t keeper r kind mask inside room_in i f ∙ E.others i f;
    rows = λ i. rows i ∙ ap (λ (x : RowWords). relinked x (get_or (w RowLink) i 0) x.mask) (E.rows i);
  }

  -- without values
  pub extend_plain : ((value : ℕ → ℕ) → ContentIs S.columns content kind mask value) → Extended F S h v r (ms ++ y ∷ []) (appended S t keeper r kind mask u)
  extend_plain c =
      extended (appended S t keeper r kind mask u) appended_fits refl (λ j. refl) (λ g. refl) (λ i. refl) (unfold row_in appended put renew in (λ i. refl))
      (λ j c f d. unfold value_in appended put renew in refl) (c _)

  -- with a word for each column
  pub extend : (f : ℕ → ℕ) → ContentIs S.columns content kind mask f → ((c : ℕ) → f c < 2 ^ 32)
      → Extended F S h v r (ms ++ y ∷ []) (filled_in S (next_slot S u (range_of r)) f (appended S t keeper r kind mask u))
  extend f c fits =
      extended w (filled_whole appended_fits (next_slot S u (range_of r)) f slot_inside fits) (unfold filled_in renew in refl) (unfold record_in filled_in renew in (λ j. refl)) (unfold filled_in renew in (λ g. refl))
      (unfold filled_in renew in (λ i. refl)) (unfold row_in filled_in appended put renew in (λ i. refl))
      (λ j c n d. filled_there appended_fits (next_slot S u (range_of r)) f slot_inside j c (λ z. n (z ∙ slot_end)) d ∙ (unfold value_in appended put renew in refl))
      (content_values S.columns content kind mask f _
      (λ c d. subst (λ (j : ℕ). value_in S w j c ≡ f c) slot_end (filled_here appended_fits (next_slot S u (range_of r)) f slot_inside c d)) c)
    where
      w : View
      w = filled_in S (next_slot S u (range_of r)) f (appended S t keeper r kind mask u)

      slot_end : next_slot S u (range_of r) ≡ end
      slot_end = slot_next E.whole t keeper r kind mask inside room_in ∙ end_is

      slot_inside : next_slot S u (range_of r) < S.ranges * S.capacity
      slot_inside = rw (slot_next E.whole t keeper r kind mask inside room_in) (slot_in E.whole t keeper r kind mask inside room_in)

pub delete_kept : {F : Form} {S : Shape} {v : View} {ps : List ScanEntry} {h : History} → Represents F S v ps h → WellFormed S h → (t r : ℕ) → state_of h t ≡ active → r < length h.rows
    → length (records_of h (range_of r)) + 1 ≤ S.capacity → Step S h (delete t r) (with_tail h (h.tail ++ delete_records t r)) → All (New h t r) (delete_records t r)
    → Represents F S (deleted_in S t r v) ps (with_tail h (h.tail ++ delete_records t r))
unfolding deleted_in noted open_index put renew with_tail delete_records record_in value_in page_in cell_in current_in scan_page was_current appended state_of keeper_of row_at scan_at
delete_kept {F} {S} {v} {ps} {h} o k t r a b room step new =
    search (made_parts o k a b new made (omega arith), made_keepers o k a b new made, rows, noted_whole t made.whole, pages_stay o k step refl refl (λ i. refl))
  where
    y : Record
    y = record { transaction = t; row = r; content = ending }

    made : Extended F S h v r (y ∷ []) (appended S t (open_keeper v t) r as_delete 0 v)
    made = extend_plain (none_made o r b) k t a b ending (open_keeper v t) (own_keeper o k t a).0 (own_keeper o k t a).1 (own_keeper o k t a).2 as_delete 0 (omega arith) (omega arith) (omega arith) (λ value. refl)

    rows : RowsAre (with_tail h (h.tail ++ y ∷ [])) (deleted_in S t r v)
    rows = made_rows o k a b new made (deleted_in S t r v) (row_in v r).mask (λ i f. unfold row_in in refl) (unfold row_in in refl)
        (λ c. unfold was_set sets in (sym (rw (eqb_same r) (or-false _))))
