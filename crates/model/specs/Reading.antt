-- What a reader finds in the store. Latest read, read at, own read, scan read and sum are one definition: who sees a row or record is told by a snapshot
-- and by the transaction whose own changes count, and the value is found in a page, in the tail records above the page's lineage, and further down only
-- where the page is newer than the stamp. Whoever set it is found in the records alone: a page has no room for the stamps of its cells.
use Rattle.std.specs.Prelude.{Bool, not, cond, ◌&&◌, ◌||◌, ℕ, zero, suc, ◌-◌, ◌%◌, leb, ltb, eqb, get_or, ℤ, pos, ◌+ℤ◌}
use Rattle.std.specs.Int.{w32}
use Rattle.std.proofs.Common.{to_z}
use Rattle.terms.specs.declared.Shape.{Shape}
use Rattle.std.specs.Prelude.{Ok}
use Rattle.terms.specs.Answers.{Answer}
use Rattle.terms.specs.declared.Fields.{Fields}
use Rattle.history.specs.History.{Snapshot, bit, range_of}
use Rattle.std.specs.Prelude.{Option, Some, None}
use Rattle.layout.specs.View.{View, rows_given}
use Rattle.layout.specs.declared.Region.TheVariants.{Changes}
use Rattle.terms.specs.declared.ScanEntry.{ScanEntry}
use Rattle.model.specs.declared.Reader.{Reader}
use Rattle.model.specs.declared.Setter.{Setter}
use Rattle.model.specs.declared.Version.{Version}
use Rattle.model.specs.Stored.{RowWords, RecordWords, PageWords, row_in, record_in, page_in, value_in, current_in, chunk_of, chunks_of, pages_of, cell_in, within, open_state, committed_state, original_kind, setting_kind, delete_kind, waiting_page, first_from, open_index, word_limit, row_keeper, record_keeper}
use Rattle.layout.specs.Codes.{keeper_limit}
use Rattle.layout.specs.Regions.{slot}

-- a reader by its snapshot and the transaction whose own changes count (0: none)
abbrev pub reader : Snapshot → ℕ → Reader
reader t me = record { stamp = record { 0 = t.stamp }; commits = t.commits; me = record { 0 = me } }

-- Every commit at stamp s or before: no word is above the highest, so that no ordinal is left out, in whatever memory. A scan's snapshot has those made before its opening.
abbrev pub all_up_to : ℕ → Snapshot
all_up_to s = record { stamp = s; commits = word_limit - 1 }

abbrev pub snapshot_of : ScanEntry → Snapshot
snapshot_of s = record { stamp = s.stamp; commits = s.commits }

-- Whether a reader sees a row or record of this state, stamp, ordinal and transaction.
unfoldable pub sees : Reader → ℕ → ℕ → ℕ → ℕ → Bool
sees who state stamp ordinal transaction =
    (committed_state state && (leb stamp who.stamp.0 && leb ordinal who.commits))
    || (open_state state && (not (eqb who.me.0 0) && eqb transaction who.me.0))

abbrev pub sees_row : Reader → RowWords → Bool
sees_row who x = sees who x.state x.stamp x.ordinal x.transaction

abbrev pub sees_record : Reader → RecordWords → Bool
sees_record who x = sees who x.state x.stamp x.ordinal x.transaction

-- ---- the newest record of a row tells whether the row is ended: a delete that is not aborted is the last record of its row
unfoldable pub head_in : Shape → View → ℕ → RecordWords
head_in S v r = record_in v (slot S (range_of r) (row_in v r).link)

abbrev pub has_record : View → ℕ → Bool
has_record v r = not (eqb (row_in v r).link 0)

unfoldable pub visible_in : Shape → View → Reader → ℕ → Bool
visible_in S v who r =
    let x = row_in v r in
    let y = head_in S v r in
    sees_row who x && not (has_record v r && (delete_kind y.kind && sees_record who y))

-- ---- the value
-- A record answers for column c if it is a seen setting of c, or holds the original value of c: no setting of c lies below its original.
unfoldable pub answers_for : Reader → ℕ → RecordWords → Bool
answers_for who c x = bit x.mask c && (original_kind x.kind || (setting_kind x.kind && sees_record who x))

-- From record k of range g back along the links, while the record's number is above `low`, to the slot of the first that answers. The links are lower numbers,
-- so k steps are enough.
unfoldable pub walk : Shape → View → Reader → ℕ → ℕ → ℕ → ℕ → ℕ → Option ℕ
walk S v who g c low zero k = None
walk S v who g c low (suc n) k =
    let x = record_in v (slot S g k) in
    let further = walk S v who g c low n x.link in
    cond (leb k low) None (cond (answers_for who c x) (Some (slot S g k)) further)

-- the record that answers for row r and column c, of those with a number above `low`: none for a column that no update has set
unfoldable pub found_in : Shape → View → Reader → ℕ → ℕ → ℕ → Option ℕ
found_in S v who low r c =
    let x = row_in v r in
    let found = walk S v who (range_of r) c low x.link x.link in
    cond (bit x.mask c) found None

-- what is read of the slot found, or else x
abbrev pub or_else : {A : Type 0} → Option ℕ → (ℕ → A) → A → A
or_else (Some i) at x = at i
or_else None at x = x

-- the number below the first record of a range: down to it, every record is looked at
abbrev pub floor : ℕ
floor = 0

-- How far down a reader looks for a value: the records up to a page's lineage are in its cells, unless the page holds a setting later than the stamp. The stamp is
-- enough: what a scan's own page holds was committed before the scan was opened, and every other reader has all commits.
unfoldable pub down_to : Reader → PageWords → ℕ
down_to who page = cond (leb page.newest who.stamp.0) page.lineage floor

-- the word of row r and column c, on page p. Where no record answers, the page's cell does; in a store that calls made, one answers where a reader looks further
-- down than the lineage: at the latest the column's original.
unfoldable pub word_in : Shape → View → Reader → ℕ → ℕ → ℕ → ℕ
word_in S v who p r c = or_else (found_in S v who (down_to who (page_in v p)) r c) (λ i. value_in S v i c) (cell_in v p (within r))

-- ---- who set it
-- Rule 10.8. A record that answers was made by the setter, but for an original: its value is the insert's, whoever's update wrote it down.
unfoldable pub setter_at : View → ℕ → Setter
setter_at v i = cond (original_kind (record_in v i).kind) Setter.Insert (Setter.Update i)

-- Whichever page the value is from, the records above and below its lineage are looked at. Where none answers, the insert set it.
unfoldable pub setter_in : Shape → View → Reader → ℕ → ℕ → Setter
setter_in S v who r c = or_else (found_in S v who floor r c) (setter_at v) Setter.Insert

-- the stamp of a commit; 0 for what is not committed, whatever its word for the stamp says
unfoldable pub commit_stamp : ℕ → ℕ → ℕ
commit_stamp state stamp = cond (committed_state state) stamp 0

unfoldable pub setter_stamp : View → ℕ → Setter → ℕ
setter_stamp v r Setter.Insert = let x = row_in v r in commit_stamp x.state x.stamp
setter_stamp v r (Setter.Update i) = let x = record_in v i in commit_stamp x.state x.stamp

-- ---- the read
unfoldable pub lookup_in : Shape → View → Reader → ℕ → ℕ → ℕ → Version
lookup_in S v who p r c = record { word = word_in S v who p r c; setter = setter_in S v who r c }

-- what a read shows of a version of row r
unfoldable pub shown_in : View → ℕ → Version → Answer
shown_in v r x = Ok (Fields.Version (to_z w32 x.word) (setter_stamp v r x.setter))

unfoldable pub read_in : Shape → View → Reader → ℕ → ℕ → ℕ → Answer
read_in S v who p r c =
    let x = lookup_in S v who p r c in
    cond (visible_in S v who r) (shown_in v r x) (Ok Fields.None)

-- ---- the keeper
-- Rule 10.10: the keeper that the record bears that answers for row r and column c, the insert's where none does. An original bears the insert's itself.
unfoldable pub keeper_word : Shape → View → Reader → ℕ → ℕ → ℕ
keeper_word S v who r c = or_else (found_in S v who floor r c) (record_keeper v) (row_keeper v r)

unfoldable pub keeper_in : Shape → View → Reader → ℕ → ℕ → Answer
keeper_in S v who r c = cond (visible_in S v who r) (Ok (Fields.Number (keeper_word S v who r c % keeper_limit))) (Ok Fields.None)

-- the read of the current page
unfoldable pub read_current : Shape → View → Reader → ℕ → ℕ → Answer
read_current S v who r c = read_in S v who (current_in S v (range_of r) c) r c

-- Whose own changes an own read of transaction t adds: with nothing noted there are none, and it is the latest read.
unfoldable pub own_changes : View → ℕ → ℕ
own_changes v t = cond (eqb (get_or (v Changes) (open_index v t) 0) 0) 0 t

-- ---- a scan's page
-- Page p waits, is of this chunk, and was current after the first m merges.
unfoldable pub was_current : Shape → View → ℕ → ℕ → ℕ → Bool
was_current S v m chunk p =
    let x = page_in v p in
    waiting_page x.state && (eqb (x.chunk % chunks_of S) chunk && (leb x.made m && ltb m x.replaced))

-- Rule 10.6: the current page if it was made before the scan was opened, else the waiting page that was current then.
-- In a store that calls made at most one page passes; elsewhere the first is taken.
unfoldable pub scan_page : Shape → View → ℕ → ℕ → ℕ → ℕ
scan_page S v m g c =
    let current = current_in S v g c in
    let old = first_from (was_current S v m (chunk_of S g c)) (pages_of S) 0 in
    cond (leb (page_in v current).made m) current (cond (ltb old (pages_of S)) old current)

-- ---- a scan's sum: over the first n rows
pub record Tally : Type 0 where
  pub count : ℕ
  pub total : ℤ

unfoldable pub tally : Shape → View → ScanEntry → ℕ → ℕ → Tally
tally S v s c zero = record { count = 0; total = pos 0 }
tally S v s c (suc r) =
    let before = tally S v s c r in
    let w = word_in S v (reader (snapshot_of s) 0) (scan_page S v s.merges (range_of r) c) r c in
    let more : Tally = record { count = suc before.count; total = before.total +ℤ to_z w32 w } in
    cond (visible_in S v (reader (snapshot_of s) 0) r) more before

unfoldable pub sum_in : Shape → View → ScanEntry → ℕ → Answer
sum_in S v s c =
    let t = tally S v s c (rows_given v) in
    Ok (Fields.Sum t.count t.total)
