-- One call of every kind: the store's tests have the history's outcome, an accepted call has the history's answer, and the relation is kept.
use mathlib.Core.Path.{◌≡◌, refl, sym, ◌∙◌, ap, ap₂}
use mathlib.Core.Logic.{◌≢◌}
use mathlib.Core.Bool.{Bool, not, cond, ◌&&◌, ◌||◌}
use mathlib.Core.List.{List, [], ◌∷◌, ◌++◌}
use Prim.Native.Nat.{ℕ, zero, suc, ◌+◌, ◌*◌, ◌-◌, ◌≤◌, ◌<◌}
use native.Mathlib.Omega.{arith}
use native.Mathlib.Nat.{add-zero, le_refl, le_trans}
use native.Mathlib.Numerals.{add-one}
use lib.Dec.{T, leb, ltb, eqb, eqb→eq, nleb→lt, nltb→le}
use lib.ListN.{length, get_or, length-append}
use lib.Seq as Seq
use lib.IntN.{ℤ, ◌+ℤ◌, +ℤ_assoc, +ℤ_idl, +ℤ_idr}
use borrow.Author.Tests.{ne_eqb}
use mir.Syntax.{w32}
use mir.Val.{to_z}
use Rattle.terms.specs.Measures.{range_rows, most_numbers, most_scans}
use Rattle.terms.specs.declared.Shape.{Shape}
use Rattle.terms.specs.declared.Form.{Form}
use Rattle.terms.specs.declared.Refusal.{Refusal}
use Rattle.std.specs.Prelude.{Ok}
use Rattle.terms.specs.declared.Fields.{Fields}
use Rattle.history.specs.History as H
use Rattle.history.specs.History.{Call, begin, insert, update, delete, commit, abort, latest, read_at, own_read, open_scan, scan_read, sum, close, merge, release, page_cell, lineage, crossings, begin_as, keeper_at, move, History, Record, Snapshot, snapshot_at, latest_snapshot, active, Test, ◌when◌, Verdict, accept, refuse, verdict, tests, reply, effect, answer, next, answer_if, next_if, stamps_after, stamps_if, slice_of, filled, crossings_between, no_span, outnumber, any, filterb, count, up_to, total, state_of, row_at, range_of, records_of, seen_at, seen_by, ended, visible, version_of, shown, read, scan_at, inserted, last_setting, cell_value, not_active, not_running, not_given, no_column, no_range, lacks_records, earlier, later, out_of_reach, no_page, cell_through}
use Rattle.history.proofs.Lists.{by_test, all_map, all_at, filterb_append, any_agree, not_not, parts}
use Rattle.history.proofs.Accepted.{Passed, passed}
use Rattle.history.proofs.Steps.{mergeable, is_active_lem, within_reach, step, made_new}
use Rattle.history.specs.Steps.{by_update, by_delete}
use Rattle.history.proofs.Ranges.{last_agree}
use Rattle.history.proofs.Versions.{crossings_told}
use Rattle.history.proofs.Pages.{cell_is}
use Rattle.history.specs.Invariants.{Stamped}
use Rattle.history.proofs.Invariants.{invariants_next}
use Rattle.history.proofs.Limits.{commits_few}
use Rattle.layout.specs.View.{View, last_stamp, used_in}
use Rattle.layout.specs.declared.Region.TheVariants.{Opens, Changes}
use Rattle.terms.specs.declared.ScanEntry.{ScanEntry}
use Rattle.terms.specs.Entries.{bears, first_index}
use Rattle.model.specs.Stored.{cell_in, current_in, within, open_index, scan_entry, word_limit}
use Rattle.model.specs.declared.Reader.{Reader}
use Rattle.model.specs.Reading.{reader, all_up_to, snapshot_of, read_in, read_current, own_changes, word_in, scan_page, Tally, tally, sum_in}
use Rattle.model.specs.Versions.{crossings_in}
use Rattle.model.specs.Calls.{begin_tests_in, read_at_tests_in, move_tests_in, tests_in, reply_in, stamps_in, stamps_next, act_in, store_act, entries_after, view_if, entries_if, say, store_next, entries_next, not_open_in, no_scan_in, not_given_in, lacks_in, earlier_in, later_in, no_span_in, out_of_reach_in, Typed}
use Rattle.model.specs.Represents.{every_row, CurrentOf, Unchanged, scan_as, Represents, WellFormed, SameCall, StepKept}
use Rattle.model.proofs.Opens.{opens_is, opens_full, open_there, active_given}
use Rattle.model.proofs.changes.Transactions.{begin_kept, commit_kept, abort_kept}
use Rattle.history.specs.Forms.{FormUse, either, newest, moving, works_on, form_use, form_after, form_if, form_next}
use Rattle.model.proofs.changes.Insert.{insert_kept}
use Rattle.model.proofs.changes.Moved.{borne_is, borne_none, moved_represents}
use Rattle.model.proofs.lookups.Heads.{in_range, SeesAs, sees_at, sees_own, sees_all, held_is, gone_is, visible_is}
use Rattle.model.proofs.lookups.Read.{word_is, keeper_is, read_is}
use Rattle.model.proofs.lookups.Versions.{values_is}
use Rattle.model.proofs.changes.Records.{delete_kept}
use Rattle.model.proofs.changes.Update.{wanted_is, update_kept}
use Rattle.model.proofs.upkeep.Scans.{scan_is, scan_count, scan_found, open_kept, close_kept}
use Rattle.model.proofs.upkeep.Merged.{free_is, open_among_is, merge_kept}
use Rattle.model.proofs.upkeep.Release.{release_count, release_kept}

-- ---- tests that agree as far as they are run: each has the other's outcome, if those before it passed
pub data Agree : List Test → List Test → Type 0 where
  done : Agree [] []
  test : {n : Refusal} {a b : Bool} {ts us : List Test} → a ≡ b → (T (not b) → Agree ts us) → Agree (n when a ∷ ts) (n when b ∷ us)

pub agree_verdict : {ts us : List Test} → Agree ts us → verdict ts ≡ verdict us
unfolding verdict
agree_verdict done = refl
agree_verdict (test {n} {b = b} {ts} {us} e f) = rw e
    (by_test (λ z. cond z (refuse n) (verdict ts) ≡ cond z (refuse n) (verdict us)) b (λ _. refl) (λ u. agree_verdict (f u)))

-- ---- a transaction that changed nothing reads the latest
own_latest : (h : History) (t r c : ℕ) → r < length h.rows → Unchanged h.rows h.tail t → read (seen_at h (latest_snapshot h)) h r c ≡ read (seen_by h t) h r c
unfolding read visible version_of ended
own_latest h t r c b u =
    ap₂ (λ (x y : Bool). cond (x && not y) (shown h (last_setting (seen_at h (latest_snapshot h)) r c (inserted h r c) h.tail)) (Ok Fields.None)) first second
    ∙ ap (λ (y : H.Version). cond (visible (seen_by h t) h r) (shown h y) (Ok Fields.None))
    (last_agree (seen_at h (latest_snapshot h)) r c (seen_by h t) (inserted h r c) (all_map (λ (y : Record) n _. same y.transaction n) u.no_record))
  where
    same : (k : ℕ) → k ≢ t → seen_at h (latest_snapshot h) k ≡ seen_by h t k
    same k n = unfold seen_by in (rw (ne_eqb k t n))

    first : seen_at h (latest_snapshot h) (row_at h r).inserter ≡ seen_by h t (row_at h r).inserter
    first = same _ (unfold row_at in (all_at u.no_row r record { inserter = 0; values = [] } b))

    second : any (λ y. eqb y.row r && (H.ends y.content && seen_at h (latest_snapshot h) y.transaction)) h.tail ≡ any (λ y. eqb y.row r && (H.ends y.content && seen_by h t y.transaction)) h.tail
    second = any_agree (all_map (λ (y : Record) n. ap (λ (z : Bool). eqb y.row r && (H.ends y.content && z)) (same y.transaction n)) u.no_record)

-- ---- sums
total_append : (f : ℕ → ℤ) (l m : List ℕ) → total f (l ++ m) ≡ total f l +ℤ total f m
unfolding total
total_append f [] m = sym (+ℤ_idl _)
total_append f (x ∷ l) m = ap (λ (z : ℤ). f x +ℤ z) (total_append f l m) ∙ sym (+ℤ_assoc (f x) (total f l) (total f m))

-- the rows below n that a reader sees, and their sum
abbrev tallied : History → (ℕ → Bool) → ℕ → ℕ → Tally
tallied h f c n = record { count = length (filterb (visible f h) (up_to n)); total = total (λ r. (version_of f h r c).value) (filterb (visible f h) (up_to n)) }

module _ {F : Form} {S : Shape} {v : View} {ps : List ScanEntry} {h : History} (o : Represents F S v ps h) (k : WellFormed S h) where
  -- ---- the conditions, one for one
  open_is : (t : ℕ) → not_open_in v t ≡ not_active h t
  unfolding not_open_in not_active state_of
  open_is t = ap not (opens_is h.transactions (v Opens) o.opens t)

  given_is : (r : ℕ) → not_given_in v r ≡ not_given h r
  unfolding not_given_in not_given
  given_is r = ap (λ (n : ℕ). leb n r) o.header.rows_given

  later_is : (s : ℕ) → later_in v s ≡ later h s
  unfolding later_in later
  later_is s = ap (λ (n : ℕ). ltb n s) o.header.last_stamp

  earlier_is : (s : ℕ) → earlier_in v s ≡ earlier h s
  unfolding earlier_in earlier
  earlier_is s = ap (ltb s) o.header.last_stamp

  span_is : (from to : ℕ) → no_span_in v from to ≡ no_span h from to
  unfolding no_span_in no_span
  span_is from to = ap (λ (z : Bool). ltb to from || z) (later_is to)

  -- a reader of all commits at s or before
  made_few : h.last.ordinal ≤ word_limit - 1
  made_few = omega (arith, commits_few k.invariants.limits, k.invariants.limits.transactions)

  all_seen : (s : ℕ) → SeesAs h (reader (all_up_to s) 0) (seen_at h (snapshot_at h s))
  all_seen s = sees_all h s 0 (word_limit - 1) (seen_at h (snapshot_at h s)) k.invariants.order.stamps made_few (sees_at h (snapshot_at h s))

  crossings_is : (r c : ℕ) (mark : ℤ) (from to : ℕ) → r < length h.rows → c < S.columns → crossings_in S v r c mark from to ≡ crossings_between h r c mark from to
  unfolding crossings_in crossings_between
  crossings_is r c mark from to b d =
      rw (values_is o k (reader (all_up_to to) 0) (seen_at h (snapshot_at h to)) (all_seen to) r b c d)
      (crossings_told h k.invariants.order (seen_at h (snapshot_at h to)) r c (omega (arith, k.small.columns)) mark from)

  scan_running : (i : ℕ) → no_scan_in ps i ≡ not_running h i
  unfolding no_scan_in not_running scan_at
  scan_running i = ap not (scan_is h.scans ps o.scans i)

  used_is : (r : ℕ) → r < length h.rows → used_in v (range_of r) ≡ length (records_of h (range_of r))
  used_is r b = (o.tails (range_of r) (in_range k r b)).used_all

  lacks_is : (r n m : ℕ) → r < length h.rows → n ≡ m → lacks_in S v r n ≡ lacks_records S h r m
  unfolding lacks_in lacks_records
  lacks_is r n m b e = ap₂ (λ (x y : ℕ). ltb S.capacity (x + y)) (used_is r b) e

  reach_is : (g c n : ℕ) → g < S.ranges → c < S.columns → out_of_reach_in S v g c n ≡ out_of_reach h g c n
  unfolding out_of_reach_in out_of_reach
  reach_is g c n a b = ap₂ (λ (x y : ℕ). leb n x || ltb y n) (o.currents g c a b).lineage (o.tails g a).used_all

  begin_agrees : Agree (begin_tests_in v) (H.begin_tests h)
  unfolding begin_tests_in H.begin_tests H.all_active
  begin_agrees = test (ap (leb most_numbers) o.header.transactions_given) (λ p. test (opens_full h.transactions (v Opens) (o.whole.long Opens) o.opens) (λ q. done))

  read_at_agrees : (s r c : ℕ) → Agree (read_at_tests_in S v s r c) (H.read_at_tests S h s r c)
  unfolding read_at_tests_in H.read_at_tests
  read_at_agrees s r c = test (later_is s) (λ z. test (given_is r) (λ p. test refl (λ q. done)))

  move_agrees : (to : Form) → Agree (move_tests_in to S v) (H.move_tests to h)
  unfolding move_tests_in H.move_tests
  move_agrees Form.First = test (borne_is o k) (λ p. done)
  move_agrees Form.Newest = done

  pub tests_agree : (c : Call) → Agree (tests_in S v ps c) (tests S h c)
  unfolding tests_in tests not_given no_column no_range no_page H.all_given H.all_running
  tests_agree begin = begin_agrees
  tests_agree (insert t vs) = test (open_is t) (λ p. test (ap (leb (S.ranges * range_rows)) o.header.rows_given) (λ q. done))
  tests_agree (update t r m vs) =
      test (open_is t) (λ p. test (given_is r) (λ u. let b = nleb→lt (length h.rows) r u in
      test refl (λ n. test (held_is o k r b t) (λ f. test (gone_is o k r b t) (λ q. test (lacks_is r _ _ b (wanted_is o k r m b n t vs)) (λ z. done))))))
  tests_agree (delete t r) =
      test (open_is t) (λ p. test (given_is r) (λ u. let b = nleb→lt (length h.rows) r u in
      test (held_is o k r b t) (λ f. test (gone_is o k r b t) (λ q. test (lacks_is r 1 1 b refl) (λ z. done)))))
  tests_agree (commit t s) = test (open_is t) (λ p. test (earlier_is s) (λ q. done))
  tests_agree (abort t) = test (open_is t) (λ p. done)
  tests_agree (latest r c) = test (given_is r) (λ p. test refl (λ q. done))
  tests_agree (read_at s r c) = read_at_agrees s r c
  tests_agree (own_read t r c) = test (open_is t) (λ z. test (given_is r) (λ p. test refl (λ q. done)))
  tests_agree (open_scan s) =
      test (later_is s) (λ z. test (ap (leb most_numbers) o.header.scans_given) (λ p. test (ap (leb most_scans) (scan_count h.scans ps o.scans)) (λ q. done)))
  tests_agree (scan_read i r c) = test (scan_running i) (λ z. test (given_is r) (λ p. test refl (λ q. done)))
  tests_agree (sum i c) = test (scan_running i) (λ z. test refl (λ q. done))
  tests_agree (close i) = test (scan_running i) (λ z. done)
  tests_agree (merge g c n) =
      test refl (λ p. test refl (λ q.
      test (reach_is g c n (nleb→lt _ _ p) (nleb→lt _ _ q)) (λ z.
      test (open_among_is o k g n (nleb→lt _ _ p) (within_reach h g c n z).1) (λ w.
      test (free_is o k) (λ y. done)))))
  tests_agree release = done
  tests_agree (page_cell c r) = test refl (λ p. test (given_is r) (λ q. done))
  tests_agree (lineage g c) = test refl (λ p. test refl (λ q. done))
  tests_agree (crossings r c mark from to stamps) =
      test (given_is r) (λ p. test refl (λ q. test (span_is from to) (λ z.
      test (ap (λ (l : List ℕ). outnumber l stamps) (crossings_is r c mark from to (nleb→lt _ _ p) (nleb→lt _ _ q))) (λ u. done))))
  tests_agree (begin_as x) = begin_agrees
  tests_agree (keeper_at s r c) = read_at_agrees s r c
  tests_agree (move to second) = move_agrees to

  -- ---- the answers
  -- a reader whose snapshot has every commit made
  current_read : (who : Reader) (r c : ℕ) (f : ℕ → Bool) → SeesAs h who f → h.last.ordinal ≤ who.commits → r < length h.rows → c < S.columns → read_current S v who r c ≡ read f h r c
  unfolding read_current Stamped
  current_read who r c f w a b d =
      let x = (o.currents (range_of r) c (in_range k r b) d).holds in
      read_is o k who f w r b c d (current_in S v (range_of r) c) every_row x
      (all_map (λ y _ s e. le_trans (k.invariants.order.stamps y.transaction s e).ordinals a) x.through.closed_all) (λ z. tt)

  -- a reader of all commits, with the changes of transaction m
  all_read : (s m r c : ℕ) (f : ℕ → Bool) → SeesAs h (reader (snapshot_at h s) m) f → r < length h.rows → c < S.columns → read_current S v (reader (all_up_to s) m) r c ≡ read f h r c
  all_read s m r c f w b d = current_read (reader (all_up_to s) m) r c f (sees_all h s m (word_limit - 1) f k.invariants.order.stamps made_few w) made_few b d

  read_at_lem : (s r c : ℕ) → r < length h.rows → c < S.columns → read_current S v (reader (all_up_to s) 0) r c ≡ read (seen_at h (snapshot_at h s)) h r c
  read_at_lem s r c b d = all_read s 0 r c (seen_at h (snapshot_at h s)) (sees_at h (snapshot_at h s)) b d

  own_read_lem : (t r c : ℕ) → state_of h t ≡ active → r < length h.rows → c < S.columns → read_current S v (reader (all_up_to (last_stamp v)) (own_changes v t)) r c ≡ read (seen_by h t) h r c
  unfolding own_changes open_index
  own_read_lem t r c a b d = ap (λ (s : ℕ). read_current S v (reader (all_up_to s) (cond (eqb noted 0) 0 t)) r c) o.header.last_stamp ∙
      by_test (λ z. read_current S v (reader (all_up_to h.last.stamp) (cond z 0 t)) r c ≡ read (seen_by h t) h r c) (eqb noted 0)
      (λ z. read_at_lem h.last.stamp r c b d ∙ own_latest h t r c b (unchanged (eqb→eq noted 0 z)))
      (λ _. all_read h.last.stamp t r c (seen_by h t) (sees_own h t a) b d)
    where
      j : ℕ
      j = first_index (bears t) (v Opens)

      noted : ℕ
      noted = get_or (v Changes) j 0

      here : (j < length (v Opens)) × (get_or (v Opens) j 0 ≡ t)
      here = open_there h.transactions (v Opens) o.opens t (unfold state_of in a)

      not_zero : get_or (v Opens) j 0 ≢ 0
      not_zero e = omega (arith, here.1, (active_given h.transactions t (unfold state_of in a)).0)

      unchanged : noted ≡ 0 → Unchanged h.rows h.tail t
      unchanged e = rw here.1 at ((o.notes j (omega (arith, here.0, o.whole.long Opens)) not_zero).none e)

  found : (i : ℕ) → T (scan_at h i).running → scan_entry ps i ≡ scan_as i (scan_at h i)
  unfolding scan_at
  found i t = scan_found h.scans ps o.scans i t

  seen_row : (s : Snapshot) (r : ℕ) → T (visible (seen_at h s) h r) → T (seen_at h s (row_at h r).inserter)
  unfolding visible
  seen_row s r z = (parts (seen_at h s (row_at h r).inserter) _ z).0

  pub scan_read_lem : (i r c : ℕ) → T (scan_at h i).running → r < length h.rows → c < S.columns
      → read_in S v (reader (scan_at h i).snapshot 0) (scan_page S v (scan_at h i).merges (range_of r) c) r c ≡ read (seen_at h (scan_at h i).snapshot) h r c
  scan_read_lem i r c t b d =
      let x = o.scan_pages i t (range_of r) c (in_range k r b) d in
      read_is o k (reader (scan_at h i).snapshot 0) _ (sees_at h (scan_at h i).snapshot) r b c d _ _ x.holds x.taken_before (seen_row (scan_at h i).snapshot r)

  tally_is : (i c : ℕ) → T (scan_at h i).running → c < S.columns → (n : ℕ) → n ≤ length h.rows
      → tally S v (scan_as i (scan_at h i)) c n ≡ tallied h (seen_at h (scan_at h i).snapshot) c n
  unfolding tally total
  tally_is i c t d zero b = refl
  tally_is i c t d (suc n) b =
      rw (
        filterb_append (visible f h) (up_to n) (n ∷ []),
        length-append rows (filterb (visible f h) (n ∷ [])),
        total_append value rows (filterb (visible f h) (n ∷ [])),
        visible_is o k n b (reader (scan_at h i).snapshot 0) f (sees_at h (scan_at h i).snapshot),
        tally_is i c t d n (omega arith),
      )
      (by_test (λ z. ◌≡◌ {A = Tally} (cond z record { count = suc (length rows); total = total value rows +ℤ to_z w32 word } record { count = length rows; total = total value rows })
      record { count = length rows + length (cond z (n ∷ []) []); total = total value rows +ℤ total value (cond z (n ∷ []) []) }) (visible f h n)
      (λ z. rw (same z, add-one (length rows), +ℤ_idr (value n)))
      (λ _. rw (add-zero (length rows), +ℤ_idr (total value rows))))
    where
      f : ℕ → Bool
      f = seen_at h (scan_at h i).snapshot

      value : ℕ → ℤ
      value r = (version_of f h r c).value

      rows : List ℕ
      rows = filterb (visible f h) (up_to n)

      word : ℕ
      word = word_in S v (reader (scan_at h i).snapshot 0) (scan_page S v (scan_at h i).merges (range_of n) c) n c

      same : T (visible f h n) → to_z w32 word ≡ value n
      same z =
          let x = o.scan_pages i t (range_of n) c (in_range k n b) d in
          word_is o k (reader (scan_at h i).snapshot 0) f (sees_at h (scan_at h i).snapshot) n b c d _ _ x.holds x.taken_before (seen_row (scan_at h i).snapshot n z)

  sum_same : (i c : ℕ) → T (scan_at h i).running → c < S.columns → sum_in S v (scan_entry ps i) c ≡ H.sum_of (seen_at h (scan_at h i).snapshot) h c
  unfolding sum_in H.sum_of H.rows_seen
  sum_same i c t d =
      rw (found i t, o.header.rows_given, tally_is i c t d (length h.rows) (le_refl _))

  cell_same : (c r : ℕ) → c < S.columns → r < length h.rows → to_z w32 (cell_in v (current_in S v (range_of r) c) (within r)) ≡ cell_value h c r
  cell_same c r d b =
      let x : CurrentOf S h v (range_of r) c = o.currents (range_of r) c (in_range k r b) d in
      x.holds.cells r refl tt ∙ ap (cell_through h c r) x.lineage ∙ sym (cell_is h c r)

  pub reply_same : (c : Call) → Passed (tests S h c) → reply_in S v ps c ≡ reply S h c
  unfolding reply_in reply tests H.read_at_tests not_given no_column no_range not_running
  reply_same begin p = ap (λ x. Ok (Fields.Number x)) (omega (arith, o.header.transactions_given))
  reply_same (insert t vs) p = ap (λ x. Ok (Fields.Number x)) o.header.rows_given
  reply_same (update t r m vs) p =
      ap₂ (λ (x y : ℕ). Ok (Fields.Number (x + y))) (used_is r (search nleb→lt)) (wanted_is o k r m (search nleb→lt) (search) t vs)
  reply_same (delete t r) p = ap (λ (x : ℕ). Ok (Fields.Number (x + 1))) (used_is r (search nleb→lt))
  reply_same (commit t s) p = refl
  reply_same (abort t) p = refl
  reply_same (latest r c) p =
      ap (λ (s : ℕ). read_current S v (reader (all_up_to s) 0) r c) o.header.last_stamp ∙ read_at_lem h.last.stamp r c (search nleb→lt) (search nleb→lt)
  reply_same (read_at s r c) p = read_at_lem s r c (search nleb→lt) (search nleb→lt)
  reply_same (own_read t r c) p = own_read_lem t r c (search is_active_lem) (search nleb→lt) (search nleb→lt)
  reply_same (open_scan s) p = ap (λ x. Ok (Fields.Number x)) (omega (arith, o.header.scans_given))
  reply_same (scan_read i r c) p =
      ap (λ (s : ScanEntry). read_in S v (reader (snapshot_of s) 0) (scan_page S v s.merges (range_of r) c) r c) (found i (not_not (scan_at h i).running (search)))
      ∙ scan_read_lem i r c (not_not (scan_at h i).running (search)) (search nleb→lt) (search nleb→lt)
  reply_same (sum i c) p = sum_same i c (not_not (scan_at h i).running (search)) (search nleb→lt)
  reply_same (close i) p = refl
  reply_same (merge g c n) p = refl
  reply_same release p = ap (λ x. Ok (Fields.Number x)) (release_count o)
  reply_same (page_cell c r) p = ap (λ x. Ok (Fields.Value x)) (cell_same c r (search nleb→lt) (search nleb→lt))
  reply_same (lineage g c) p = ap₂ (λ n m. Ok (Fields.Lineage n m)) (o.currents g c (search nleb→lt) (search nleb→lt)).lineage (o.tails g (search nleb→lt)).used_all
  reply_same (crossings r c mark from to stamps) p = ap (λ (l : List ℕ). Ok (Fields.Listed (length l))) (crossings_is r c mark from to (search nleb→lt) (search nleb→lt))
  reply_same (begin_as x) p = ap (λ x. Ok (Fields.Number x)) (omega (arith, o.header.transactions_given))
  reply_same (move to second) p = refl
  reply_same (keeper_at s r c) p = keeper_is o k (reader (all_up_to s) 0) (seen_at h (snapshot_at h s)) (all_seen s) r (search nleb→lt) c (search nleb→lt)

  pub filled_same : (c : Call) → Passed (tests S h c) → stamps_in S v (slice_of c) ≡ filled h (slice_of c)
  unfolding stamps_in filled tests not_given no_column
  filled_same begin p = refl
  filled_same (insert t vs) p = refl
  filled_same (update t r m vs) p = refl
  filled_same (delete t r) p = refl
  filled_same (commit t s) p = refl
  filled_same (abort t) p = refl
  filled_same (latest r c) p = refl
  filled_same (read_at s r c) p = refl
  filled_same (own_read t r c) p = refl
  filled_same (open_scan s) p = refl
  filled_same (scan_read i r c) p = refl
  filled_same (sum i c) p = refl
  filled_same (close i) p = refl
  filled_same (merge g c n) p = refl
  filled_same release p = refl
  filled_same (page_cell c r) p = refl
  filled_same (lineage g c) p = refl
  filled_same (begin_as x) p = refl
  filled_same (keeper_at s r c) p = refl
  filled_same (move to second) p = refl
  filled_same (crossings r c mark from to stamps) p = ap (λ (l : List ℕ). Seq.sets stamps 0 l) (crossings_is r c mark from to (search nleb→lt) (search nleb→lt))

  -- ---- what a call leaves
  free_entry_lem : T (not (H.all_active h)) → T (any (λ i. eqb i 0) (v Opens))
  unfolding H.all_active
  free_entry_lem q = not_not (any (λ i. eqb i 0) (v Opens)) (rw (opens_full h.transactions (v Opens) (o.whole.long Opens) o.opens) q)

  pub act_kept : (c : Call) → Typed c → T (works_on c F) → Passed (tests S h c) → Represents (form_after (form_use c) accept F) S (store_act S v ps c) (entries_after v ps c) (effect S h c)
  unfolding act_in entries_after effect tests H.begin_tests not_given not_running lacks_records H.all_given earlier H.all_running later
  act_kept begin y q p = begin_kept o k H.unknown_keeper (free_entry_lem (search)) (step S h begin p) (search nleb→lt) (omega arith) (λ _. refl)
  act_kept (insert t vs) y q p = insert_kept o k t vs (search is_active_lem) (search nleb→lt) y.1 (step S h (insert t vs) p)
  act_kept (update t r m vs) y q p =
      update_kept o k t r m vs (search is_active_lem) (search nleb→lt) (search) y.2 y.3 (search nltb→le) (step S h (update t r m vs) p)
      (made_new {S = S} (by_update m vs (search)))
  act_kept (delete t r) y q p =
      delete_kept o k t r (search is_active_lem) (search nleb→lt) (search nltb→le) (step S h (delete t r) p) (made_new {S = S} by_delete)
  act_kept (commit t s) y q p = commit_kept o k t s (search is_active_lem) (search nltb→le) y.1 (step S h (commit t s) p)
  act_kept (abort t) y q p = abort_kept o k t (search is_active_lem) (step S h (abort t) p)
  act_kept (latest r c) y q p = o
  act_kept (read_at s r c) y q p = o
  act_kept (own_read t r c) y q p = o
  act_kept (open_scan s) y q p =
      open_kept o k s (search nleb→lt) (search nleb→lt) (step S h (open_scan s) p)
  act_kept (scan_read i r c) y q p = o
  act_kept (sum i c) y q p = o
  act_kept (close i) y q p = close_kept o k i (not_not (scan_at h i).running (search)) (step S h (close i) p)
  act_kept (merge g c n) y q p = merge_kept o k (mergeable S h g c n p) (step S h (merge g c n) p)
  act_kept release y q p = release_kept o k (step S h release p)
  act_kept (page_cell c r) y q p = o
  act_kept (lineage g c) y q p = o
  act_kept (crossings r c mark from to stamps) y q p = o
  act_kept (begin_as x) y q p = begin_kept o k x (free_entry_lem (search)) (step S h (begin_as x) p) (search nleb→lt) y (λ f. absurd (rw f at q))
  act_kept (keeper_at s r c) y q p = o
  act_kept (move to second) y q p = unfold form_if in (moved_represents o k to (borne_none o k to q p))

-- a refused call leaves the form
refused_form : (u : FormUse) (n : Refusal) (F : Form) → form_after u (refuse n) F ≡ F
unfolding form_if
refused_form either n F = refl
refused_form newest n F = refl
refused_form (moving to) n F = refl

-- ---- one call
pub one_call : StepKept
unfolding say store_next entries_next stamps_next form_next form_if answer next stamps_after answer_if view_if entries_if next_if stamps_if
one_call F S v ps h c y q o k = go (verdict (tests S h c)) refl
  where
    same : verdict (tests_in S v ps c) ≡ verdict (tests S h c)
    same = agree_verdict (tests_agree o k c)

    well_formed : WellFormed S (next S h c)
    well_formed = record { small = k.small; invariants = invariants_next c k.invariants }

    go : (w : Verdict) → verdict (tests S h c) ≡ w → SameCall F S v ps h c
    go accept e =
        let p = passed (tests S h c) e in
        record { answered = rw (same, e) (reply_same o k c p); filled = rw (same, e) (filled_same o k c p); shown = rw (same, e) (act_kept o k c y q p); well_formed = well_formed }
    go (refuse n) e = record { answered = rw (same, e); filled = rw (same, e); shown = rw (same, e, refused_form (form_use c) n F) o; well_formed = well_formed }
