-- The calls on a store, as the plain history has them: `tests_in` are a call's refusals in the stated order, `reply_in` what it answers if none applies, `act_in`, `entries_after` and
-- `stamps_in` the memory, the scan list and the lent slice that it leaves then. All five are total and look at the memory alone. The test of the stored facts,
-- which every call makes first, is not here: it is the same for all.
use Rattle.std.specs.Prelude.{Bool, not, ◌&&◌, ◌||◌, List, [], ◌∷◌, ℕ, ◌+◌, ◌*◌, ◌^◌, ◌%◌, ◌<◌, leb, ltb, eqb, length, get_or, set, ℤ}
use Rattle.std.proofs.Math.Seq as Seq
use Rattle.std.specs.Int.{w32}
use Rattle.std.proofs.Common.{to_z, SFits}
use Rattle.terms.specs.Measures.{range_rows, most_transactions, most_scans, most_numbers, most_columns}
use Rattle.terms.specs.declared.Shape.{Shape}
use Rattle.terms.specs.declared.Form.{Form}
use Rattle.terms.specs.declared.Refusal.{Refusal}
use Rattle.std.specs.Prelude.{Ok}
use Rattle.terms.specs.Answers.{Answer}
use Rattle.terms.specs.declared.Fields.{Fields}
use Rattle.history.specs.History.{Call, begin, insert, update, delete, commit, abort, latest, read_at, own_read, open_scan, scan_read, sum, close, merge, release, page_cell, lineage, crossings, begin_as, keeper_at, move, unknown_keeper, Test, ◌when◌, verdict, Verdict, accept, refuse, answer_if, Outcome, Slice, none, of_crossings, slice_of, lent_to, stamps_if, any, count, no_column, no_range, bad_mask, outnumber, range_of}
use Rattle.history.specs.Lists.{All}
use Rattle.history.specs.Forms.{FormUse, either, newest, moving, form_use}
use Rattle.layout.specs.View.{View, put, rows_given, transactions_given, scans_given, last_stamp, merges_made, commits_made, used_in}
use Rattle.layout.specs.Moved.{moved}
use Rattle.layout.specs.declared.Region.TheVariants.{Header, Opens, OpenKeeper}
use Rattle.terms.specs.declared.ScanEntry.{ScanEntry}
use Rattle.terms.specs.Entries.{free_entry, first_index, bears, is_scan}
use Rattle.layout.specs.Regions.{scans_at}
use Rattle.model.specs.Stored.{RecordWords, row_in, record_in, page_in, current_in, cell_in, within, committed_state, delete_kind, row_keeper, record_keeper, scan_entry, pages_of, any_below, count_below, word_limit}
use Rattle.layout.specs.Codes.{keeper_limit}
use Rattle.model.specs.Reading.{reader, all_up_to, snapshot_of, read_in, read_current, keeper_in, own_changes, scan_page, sum_in}
use Rattle.model.specs.Versions.{crossings_in}
use Rattle.model.specs.Writing.{begun, committed_in, aborted_in, inserted_in, updated_in, deleted_in, merged_in, released_in, releasable, records_wanted, free_in}

-- ---- the conditions of the refusals (section 3 of docs/SPECIFICATION.md), read in the memory
-- 3
unfoldable pub not_open_in : View → ℕ → Bool
not_open_in v t = not (any (bears t) (v Opens))

-- 4
unfoldable pub no_scan_in : List ScanEntry → ℕ → Bool
no_scan_in ps k = not (any (is_scan k) ps)

-- 5
unfoldable pub not_given_in : View → ℕ → Bool
not_given_in v r = leb (rows_given v) r

-- Open is a number that stands in the list of open numbers, whatever state words say.
abbrev pub open_in : View → ℕ → Bool
open_in v t = any (bears t) (v Opens)

-- one of the used records of row r passes: of those of its range that name it
abbrev pub any_record : Shape → View → ℕ → (RecordWords → Bool) → Bool
any_record S v r f =
    any_below (λ i. eqb (record_in v (range_of r * S.capacity + i)).row r && f (record_in v (range_of r * S.capacity + i))) (used_in v (range_of r))

-- 9: the row's inserter, or the transaction of one of its records, is open and not the caller
unfoldable pub open_other : View → ℕ → ℕ → Bool
open_other v t k = open_in v k && not (eqb k t)

unfoldable pub held_in : Shape → View → ℕ → ℕ → Bool
held_in S v t r = open_other v t (row_in v r).transaction || any_record S v r (λ x. open_other v t x.transaction)

-- 10, for a row that is not held, so that what is not the caller's is committed or aborted: it is aborted unless its state word says committed. The row's
-- insert is aborted, or one of its records is a delete that is not.
abbrev pub stands_for : ℕ → ℕ → ℕ → Bool
stands_for t transaction state = eqb transaction t || committed_state state

unfoldable pub gone_in : Shape → View → ℕ → ℕ → Bool
gone_in S v t r =
    not (stands_for t (row_in v r).transaction (row_in v r).state)
    || any_record S v r (λ x. delete_kind x.kind && stands_for t x.transaction x.state)

-- 12
unfoldable pub lacks_in : Shape → View → ℕ → ℕ → Bool
lacks_in S v r n = ltb S.capacity (used_in v (range_of r) + n)

-- 13
unfoldable pub earlier_in : View → ℕ → Bool
earlier_in v s = ltb s (last_stamp v)

unfoldable pub later_in : View → ℕ → Bool
later_in v s = ltb (last_stamp v) s

-- 13, of two stamps
unfoldable pub no_span_in : View → ℕ → ℕ → Bool
no_span_in v from to = ltb to from || later_in v to

-- 16
unfoldable pub out_of_reach_in : Shape → View → ℕ → ℕ → ℕ → Bool
out_of_reach_in S v g c n = leb n (page_in v (current_in S v g c)).lineage || ltb (used_in v g) n

-- 17: one of the records 1 to n
unfoldable pub open_among_in : Shape → View → ℕ → ℕ → Bool
open_among_in S v g n = any_below (λ i. open_in v (record_in v (g * S.capacity + i)).transaction) n

-- 22: one of the given rows, of the used tail records or of the open transactions bears a keeper other than 0
abbrev pub bears_keeper : ℕ → Bool
bears_keeper word = not (eqb (word % keeper_limit) unknown_keeper)

unfoldable pub keeper_borne_in : Shape → View → Bool
keeper_borne_in S v =
    any_below (λ r. bears_keeper (row_keeper v r)) (rows_given v)
    || (any_below (λ g. any_below (λ i. bears_keeper (record_keeper v (g * S.capacity + i))) (used_in v g)) S.ranges
    || any_below (λ j. not (eqb (get_or (v Opens) j 0) 0) && bears_keeper (get_or (v OpenKeeper) j 0)) most_transactions)

-- ---- the tests, in the order of section 4
unfoldable pub move_tests_in : Form → Shape → View → List Test
move_tests_in Form.First S v = Refusal.Keeper when keeper_borne_in S v ∷ []
move_tests_in Form.Newest S v = []

unfoldable pub begin_tests_in : View → List Test
begin_tests_in v = Refusal.Number when leb most_numbers (transactions_given v) ∷ Refusal.Busy when not (any (λ k. eqb k 0) (v Opens)) ∷ []

unfoldable pub read_at_tests_in : Shape → View → ℕ → ℕ → ℕ → List Test
read_at_tests_in S v s r c = Refusal.Time when later_in v s ∷ Refusal.Row when not_given_in v r ∷ Refusal.Column when no_column S c ∷ []

unfoldable pub tests_in : Shape → View → List ScanEntry → Call → List Test
tests_in S v ps begin = begin_tests_in v
tests_in S v ps (insert t vs) =
    Refusal.Transaction when not_open_in v t ∷ Refusal.Full when leb (S.ranges * range_rows) (rows_given v) ∷ []
tests_in S v ps (update t r m vs) =
    Refusal.Transaction when not_open_in v t
    ∷ Refusal.Row when not_given_in v r
    ∷ Refusal.Mask when bad_mask S m
    ∷ Refusal.Held when held_in S v t r
    ∷ Refusal.Gone when gone_in S v t r
    ∷ Refusal.Tail when lacks_in S v r (records_wanted v r m)
    ∷ []
tests_in S v ps (delete t r) =
    Refusal.Transaction when not_open_in v t
    ∷ Refusal.Row when not_given_in v r
    ∷ Refusal.Held when held_in S v t r
    ∷ Refusal.Gone when gone_in S v t r
    ∷ Refusal.Tail when lacks_in S v r 1
    ∷ []
tests_in S v ps (commit t s) = Refusal.Transaction when not_open_in v t ∷ Refusal.Time when earlier_in v s ∷ []
tests_in S v ps (abort t) = Refusal.Transaction when not_open_in v t ∷ []
tests_in S v ps (latest r c) = Refusal.Row when not_given_in v r ∷ Refusal.Column when no_column S c ∷ []
tests_in S v ps (read_at s r c) = read_at_tests_in S v s r c
tests_in S v ps (own_read t r c) =
    Refusal.Transaction when not_open_in v t ∷ Refusal.Row when not_given_in v r ∷ Refusal.Column when no_column S c ∷ []
tests_in S v ps (open_scan s) =
    Refusal.Time when later_in v s
    ∷ Refusal.Number when leb most_numbers (scans_given v)
    ∷ Refusal.Busy when leb most_scans (count (λ p. not (eqb p.number 0)) ps)
    ∷ []
tests_in S v ps (scan_read k r c) =
    Refusal.Scan when no_scan_in ps k ∷ Refusal.Row when not_given_in v r ∷ Refusal.Column when no_column S c ∷ []
tests_in S v ps (sum k c) = Refusal.Scan when no_scan_in ps k ∷ Refusal.Column when no_column S c ∷ []
tests_in S v ps (close k) = Refusal.Scan when no_scan_in ps k ∷ []
tests_in S v ps (merge g c n) =
    Refusal.Range when no_range S g
    ∷ Refusal.Column when no_column S c
    ∷ Refusal.Reach when out_of_reach_in S v g c n
    ∷ Refusal.Open when open_among_in S v g n
    ∷ Refusal.NoPage when leb (pages_of S) (free_in S v)
    ∷ []
tests_in S v ps release = []
tests_in S v ps (page_cell c r) = Refusal.Column when no_column S c ∷ Refusal.Row when not_given_in v r ∷ []
tests_in S v ps (lineage g c) = Refusal.Range when no_range S g ∷ Refusal.Column when no_column S c ∷ []
tests_in S v ps (crossings r c mark from to stamps) =
    Refusal.Row when not_given_in v r
    ∷ Refusal.Column when no_column S c
    ∷ Refusal.Time when no_span_in v from to
    ∷ Refusal.List when outnumber (crossings_in S v r c mark from to) stamps
    ∷ []
tests_in S v ps (begin_as k) = begin_tests_in v
tests_in S v ps (keeper_at s r c) = read_at_tests_in S v s r c
tests_in S v ps (move to second) = move_tests_in to S v

-- ---- what an accepted call answers
unfoldable pub reply_in : Shape → View → List ScanEntry → Call → Answer
reply_in S v ps begin = Ok (Fields.Number (transactions_given v + 1))
reply_in S v ps (insert t vs) = Ok (Fields.Number (rows_given v))
reply_in S v ps (update t r m vs) = Ok (Fields.Number (used_in v (range_of r) + records_wanted v r m))
reply_in S v ps (delete t r) = Ok (Fields.Number (used_in v (range_of r) + 1))
reply_in S v ps (commit t s) = Ok Fields.Done
reply_in S v ps (abort t) = Ok Fields.Done
reply_in S v ps (latest r c) = read_current S v (reader (all_up_to (last_stamp v)) 0) r c
reply_in S v ps (read_at s r c) = read_current S v (reader (all_up_to s) 0) r c
reply_in S v ps (own_read t r c) = read_current S v (reader (all_up_to (last_stamp v)) (own_changes v t)) r c
reply_in S v ps (open_scan s) = Ok (Fields.Number (scans_given v + 1))
reply_in S v ps (scan_read k r c) =
    let s = scan_entry ps k in
    read_in S v (reader (snapshot_of s) 0) (scan_page S v s.merges (range_of r) c) r c
reply_in S v ps (sum k c) = sum_in S v (scan_entry ps k) c
reply_in S v ps (close k) = Ok Fields.Done
reply_in S v ps (merge g c n) = Ok Fields.Done
reply_in S v ps release = Ok (Fields.Number (count_below (releasable ps v) (pages_of S)))
reply_in S v ps (page_cell c r) = Ok (Fields.Value (to_z w32 (cell_in v (current_in S v (range_of r) c) (within r))))
reply_in S v ps (lineage g c) = Ok (Fields.Lineage (page_in v (current_in S v g c)).lineage (used_in v g))
reply_in S v ps (crossings r c mark from to stamps) = Ok (Fields.Listed (length (crossings_in S v r c mark from to)))
reply_in S v ps (begin_as k) = Ok (Fields.Number (transactions_given v + 1))
reply_in S v ps (keeper_at s r c) = keeper_in S v (reader (all_up_to s) 0) r c
reply_in S v ps (move to second) = Ok Fields.Done

-- ---- and the slice that it was lent
unfoldable pub stamps_in : Shape → View → Slice → List ℕ
stamps_in S v none = []
stamps_in S v (of_crossings r c mark from to stamps) = Seq.sets stamps 0 (crossings_in S v r c mark from to)

-- ---- the memory that an accepted call leaves
unfoldable pub act_in : Shape → View → List ScanEntry → Call → View
act_in S v ps begin = begun unknown_keeper v
act_in S v ps (insert t vs) = inserted_in S t vs v
act_in S v ps (update t r m vs) = updated_in S t r m vs v
act_in S v ps (delete t r) = deleted_in S t r v
act_in S v ps (commit t s) = committed_in S t s v
act_in S v ps (abort t) = aborted_in S t v
act_in S v ps (latest r c) = v
act_in S v ps (read_at s r c) = v
act_in S v ps (own_read t r c) = v
act_in S v ps (open_scan s) = put Header scans_at (scans_given v + 1) v
act_in S v ps (scan_read k r c) = v
act_in S v ps (sum k c) = v
act_in S v ps (close k) = v
act_in S v ps (merge g c n) = merged_in S g c n v
act_in S v ps release = released_in S ps v
act_in S v ps (page_cell c r) = v
act_in S v ps (lineage g c) = v
act_in S v ps (crossings r c mark from to stamps) = v
act_in S v ps (begin_as k) = begun k v
act_in S v ps (keeper_at s r c) = v
act_in S v ps (move to second) = v

-- and the store that the next call is lent: after a move to a form that is the second memory
abbrev pub into_form : FormUse → Shape → View → View
into_form either S v = v
into_form newest S v = v
into_form (moving to) S v = moved to S v

abbrev pub store_act : Shape → View → List ScanEntry → Call → View
store_act S v ps c = into_form (form_use c) S (act_in S v ps c)

-- ---- and the scan list: an opened scan takes the first free entry, a closed one leaves a free entry
-- the entry of a scan that is opened now at stamp s
abbrev pub new_entry : View → ℕ → ScanEntry
new_entry v s = record { number = scans_given v + 1; stamp = s; merges = merges_made v; commits = commits_made v }

unfoldable pub entries_after : View → List ScanEntry → Call → List ScanEntry
entries_after v ps begin = ps
entries_after v ps (insert t vs) = ps
entries_after v ps (update t r m vs) = ps
entries_after v ps (delete t r) = ps
entries_after v ps (commit t s) = ps
entries_after v ps (abort t) = ps
entries_after v ps (latest r c) = ps
entries_after v ps (read_at s r c) = ps
entries_after v ps (own_read t r c) = ps
entries_after v ps (open_scan s) =
    set ps (first_index (λ p. eqb p.number 0) ps) (new_entry v s)
entries_after v ps (scan_read k r c) = ps
entries_after v ps (sum k c) = ps
entries_after v ps (close k) = set ps (first_index (is_scan k) ps) free_entry
entries_after v ps (merge g c n) = ps
entries_after v ps release = ps
entries_after v ps (page_cell c r) = ps
entries_after v ps (lineage g c) = ps
entries_after v ps (crossings r c mark from to stamps) = ps
entries_after v ps (begin_as k) = ps
entries_after v ps (keeper_at s r c) = ps
entries_after v ps (move to second) = ps

-- ---- a call, and a list of calls
unfoldable pub view_if : Verdict → View → View → View
view_if accept v v' = v'
view_if (refuse n) v v' = v

unfoldable pub entries_if : Verdict → List ScanEntry → List ScanEntry → List ScanEntry
entries_if accept ps ps' = ps'
entries_if (refuse n) ps ps' = ps

unfoldable pub say : Shape → View → List ScanEntry → Call → Answer
say S v ps c = answer_if (verdict (tests_in S v ps c)) (reply_in S v ps c)

unfoldable pub view_next : Shape → View → List ScanEntry → Call → View
view_next S v ps c = view_if (verdict (tests_in S v ps c)) v (act_in S v ps c)

unfoldable pub store_next : Shape → View → List ScanEntry → Call → View
store_next S v ps c = view_if (verdict (tests_in S v ps c)) v (store_act S v ps c)

unfoldable pub entries_next : Shape → View → List ScanEntry → Call → List ScanEntry
entries_next S v ps c = entries_if (verdict (tests_in S v ps c)) ps (entries_after v ps c)

unfoldable pub stamps_next : Shape → View → List ScanEntry → Call → List ℕ
stamps_next S v ps c = stamps_if (verdict (tests_in S v ps c)) (lent_to (slice_of c)) (stamps_in S v (slice_of c))

abbrev pub outcome_in : Shape → View → List ScanEntry → Call → Outcome Answer
outcome_in S v ps c = record { answer = say S v ps c; stamps = stamps_next S v ps c }

unfoldable pub outcomes_in : Shape → View → List ScanEntry → List Call → List (Outcome Answer)
outcomes_in S v ps [] = []
outcomes_in S v ps (c ∷ cs) = outcome_in S v ps c ∷ outcomes_in S (store_next S v ps c) (entries_next S v ps c) cs

-- the store's memory after a list of calls
unfoldable pub view_after : Shape → View → List ScanEntry → List Call → View
view_after S v ps [] = v
view_after S v ps (c ∷ cs) = view_after S (store_next S v ps c) (entries_next S v ps c) cs

-- ---- the numbers fit the call's types
abbrev pub Word : ℕ → Type 0
Word n = n < word_limit

abbrev pub Mask : ℕ → Type 0
Mask m = m < 2 ^ most_columns

abbrev pub Keeper : ℕ → Type 0
Keeper k = k < keeper_limit

abbrev pub Values : List ℤ → Type 0
Values vs = All (SFits w32) vs

abbrev pub Typed : Call → Type 0
Typed begin = Unit {0}
Typed (insert t vs) = Word t × Values vs
Typed (update t r m vs) = Word t × Word r × Mask m × Values vs
Typed (delete t r) = Word t × Word r
Typed (commit t s) = Word t × Word s
Typed (abort t) = Word t
Typed (latest r c) = Word r × Word c
Typed (read_at s r c) = Word s × Word r × Word c
Typed (own_read t r c) = Word t × Word r × Word c
Typed (open_scan s) = Word s
Typed (scan_read k r c) = Word k × Word r × Word c
Typed (sum k c) = Word k × Word c
Typed (close k) = Word k
Typed (merge g c n) = Word g × Word c × Word n
Typed release = Unit {0}
Typed (page_cell c r) = Word c × Word r
Typed (lineage g c) = Word g × Word c
-- what the lent slice holds may be anything
Typed (crossings r c mark from to stamps) = Word r × Word c × SFits w32 mark × Word from × Word to
Typed (begin_as k) = Keeper k
Typed (keeper_at s r c) = Word s × Word r × Word c
-- and so may the second memory
Typed (move to second) = Unit {0}
