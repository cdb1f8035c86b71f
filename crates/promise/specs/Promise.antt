-- What every call on a lent memory and a lent scan list answers and leaves, for every memory and list: the definitions that the calls' contracts cite, and that
-- demand 3 is stated over. A memory that is not usable, or in a form that the call does not work on, is answered 2 and left as it is, and so is a move into a second memory that is too short; any
-- other call is answered by the model's definitions over the view of the memory, and what they leave is laid over the bytes that the shape needs: of the memory lent, or of the second one by a move.
use Rattle.std.specs.Prelude.{Bool, true, cond, ◌&&◌, List, [], ◌∷◌, ◌≡◌, ℕ, leb, length}
use Rattle.terms.specs.declared.Shape.{Shape}
use Rattle.terms.specs.Refusals.{is_accepted}
use Rattle.terms.specs.declared.ScanEntry.{ScanEntry}
use Rattle.terms.specs.declared.Refusal.{Refusal}
use Rattle.std.specs.Prelude.{Err}
use Rattle.terms.specs.Answers.{Answer}
use Rattle.words.specs.Words.{words}
use Rattle.terms.specs.declared.Form.{Form}
use Rattle.layout.specs.Sizes.{sizes_of, bytes_needed}
use Rattle.layout.specs.View.{View, lay, view_of}
use Rattle.history.specs.History.{Call, begin, insert, update, delete, commit, abort, latest, read_at, own_read, open_scan, scan_read, sum, close, merge, release, page_cell, lineage, crossings, begin_as, keeper_at, move, Outcome, slice_of, lent_to}
use Rattle.history.specs.Forms.{FormUse, either, newest, moving, form_use, works_on}
use Rattle.scans.specs.declared.Scans.{Scans}
use Rattle.scans.specs.Entries.{freed_if}
use Rattle.scans.specs.Table.{table_of}
use Rattle.making.specs.Made.{made}
use Rattle.facts.specs.Usable.{stored_shape, stored_form, stored_sizes, usable}
use Rattle.model.specs.Calls.{say, view_next, store_next, entries_next, stamps_next}
use Rattle.model.specs.Machine.{Machine}

-- the view of a memory by the shape that it holds
unfoldable pub store_view : List ℕ → View
store_view m = view_of (stored_sizes (words m)) m

-- ---- what is lent to a call: the memory, and the list of open scans
pub record Lent : Type 0 where
  pub memory : List ℕ
  pub list : List ScanEntry

abbrev pub lend : List ℕ → List ScanEntry → Lent
lend m ps = record { memory = m; list = ps }

-- the second memory that a move is lent, as it is before the call; other calls are lent none
abbrev pub second_of : Call → List ℕ
second_of begin = []
second_of (insert t vs) = []
second_of (update t r m vs) = []
second_of (delete t r) = []
second_of (commit t s) = []
second_of (abort t) = []
second_of (latest r c) = []
second_of (read_at s r c) = []
second_of (own_read t r c) = []
second_of (open_scan s) = []
second_of (scan_read k r c) = []
second_of (sum k c) = []
second_of (close k) = []
second_of (merge g c n) = []
second_of release = []
second_of (page_cell c r) = []
second_of (lineage g c) = []
second_of (crossings r c mark from to stamps) = []
second_of (begin_as k) = []
second_of (keeper_at s r c) = []
second_of (move to second) = second

-- it has the bytes that the form moved to needs; a memory that is no move's is not looked at
abbrev pub room_for : FormUse → Shape → List ℕ → Bool
room_for either S second = true
room_for newest S second = true
room_for (moving to) S second = leb (bytes_needed to S) (length second)

-- ---- whether a call is admitted, or answered 2 (2.5): the memory is in a form that it works on, the second memory is long enough, and memory and list are usable
unfoldable pub admits : Lent → Call → Bool
admits x c =
    let m = x.memory in
    works_on c (stored_form (words m)) && (room_for (form_use c) (stored_shape (words m)) (second_of c) && usable m x.list)

-- ---- what a call answers, and what it leaves of the memory and of the list
unfoldable pub answer_of : Lent → Call → Answer
answer_of x c =
    let m = x.memory in
    let ps = x.list in
    cond (admits x c) (say (stored_shape (words m)) (store_view m) ps c) (Err Refusal.Memory)

unfoldable pub memory_after : Lent → Call → List ℕ
memory_after x c =
    let m = x.memory in
    let ps = x.list in
    cond (admits x c) (lay (stored_sizes (words m)) (view_next (stored_shape (words m)) (store_view m) ps c) m) m

unfoldable pub list_after : Lent → Call → List ScanEntry
list_after x c =
    let m = x.memory in
    let ps = x.list in
    cond (admits x c) (entries_next (stored_shape (words m)) (store_view m) ps c) ps

-- and of the slice of stamps that it is lent to write
unfoldable pub stamps_left : Lent → Call → List ℕ
stamps_left x c =
    let m = x.memory in
    let ps = x.list in
    cond (admits x c) (stamps_next (stored_shape (words m)) (store_view m) ps c) (lent_to (slice_of c))

-- and of the second memory: an accepted move lays the store in it, in the form moved to
abbrev pub laid_into : FormUse → Bool → Shape → View → List ℕ → List ℕ
laid_into either accepted S v second = second
laid_into newest accepted S v second = second
laid_into (moving to) accepted S v second = cond accepted (lay (sizes_of to S) v second) second

unfoldable pub second_after : Lent → Call → List ℕ
second_after x c =
    let m = x.memory in
    let ps = x.list in
    let S = stored_shape (words m) in
    cond (admits x c) (laid_into (form_use c) (is_accepted (say S (store_view m) ps c)) S (store_next S (store_view m) ps c) (second_of c)) (second_of c)

abbrev pub outcome_of : Lent → Call → Outcome Answer
outcome_of x c = record { answer = answer_of x c; stamps = stamps_left x c }

-- the store that the next call is lent: what the call left of the memory, and after a move the second memory if it was accepted, else the memory as it was; the list goes with it
abbrev pub store_of : FormUse → Bool → (before after second : List ℕ) → List ℕ
store_of either accepted before after second = after
store_of newest accepted before after second = after
store_of (moving to) accepted before after second = cond accepted second before

abbrev pub left_by : Lent → Call → Lent
left_by x c = record { memory = store_of (form_use c) (is_accepted (answer_of x c)) x.memory (memory_after x c) (second_after x c); list = list_after x c }

-- ---- a list of calls: each is lent what the last one left
unfoldable pub outcomes_of : Lent → List Call → List (Outcome Answer)
outcomes_of x [] = []
outcomes_of x (c ∷ cs) = outcome_of x c ∷ outcomes_of (left_by x c) cs

unfoldable pub left : Lent → List Call → Lent
left x [] = x
left x (c ∷ cs) = left (left_by x c) cs

-- It answers calls as a machine does.
abbrev pub lent_machine : Machine Lent
lent_machine = record { outcome = outcome_of; next = left_by }

-- ---- what a call promises
-- a call over the memory m and the list ps answers r, and leaves the memory m' and the list ps'
unfoldable pub Serves : List ℕ → List ScanEntry → Call → Answer → List ℕ → List ScanEntry → Type 0
Serves m ps c r m' ps' = (r ≡ answer_of (lend m ps) c) × (m' ≡ memory_after (lend m ps) c) × (ps' ≡ list_after (lend m ps) c)

-- The code behind a call takes the scan list as a table of it, by value: it serves the call for every list that the table stands for, and `next` is what becomes
-- of that list.
unfoldable pub ServesBy : Scans → List ℕ → Call → Answer → List ℕ → (List ScanEntry → List ScanEntry) → Type 0
ServesBy t m c r m' next = (ps : List ScanEntry) → t ≡ table_of ps → Serves m ps c r m' (next ps)

-- With the slice that a call is lent to write: what it gives is its answer and the slice as it leaves it.
unfoldable pub Gives : List ℕ → List ScanEntry → Call → Outcome Answer → List ℕ → List ScanEntry → Type 0
Gives m ps c o m' ps' = Serves m ps c o.answer m' ps' × (o.stamps ≡ stamps_left (lend m ps) c)

unfoldable pub GivesBy : Scans → List ℕ → Call → Outcome Answer → List ℕ → (List ScanEntry → List ScanEntry) → Type 0
GivesBy t m c o m' next = (ps : List ScanEntry) → t ≡ table_of ps → Gives m ps c o m' (next ps)

-- a list that is left as it is
abbrev pub kept : List ScanEntry → List ScanEntry
kept ps = ps

-- A move answers r and leaves the second memory as m'; the memory m and the list ps it is lent to read alone.
unfoldable pub Moves : List ℕ → List ScanEntry → Call → Answer → List ℕ → Type 0
Moves m ps c r m' = (r ≡ answer_of (lend m ps) c) × (m' ≡ second_after (lend m ps) c)

unfoldable pub MovesBy : Scans → List ℕ → Call → Answer → List ℕ → Type 0
MovesBy t m c r m' = (ps : List ScanEntry) → t ≡ table_of ps → Moves m ps c r m'

-- a store of the shape S is to be made in them, in the newest form: the list is freed if it is
unfoldable pub Makes : List ℕ → List ScanEntry → Shape → Answer → List ℕ → List ScanEntry → Type 0
Makes m ps S r m' ps' =
    let x = made Form.Newest S (length ps) m in
    (r ≡ x.0) × (m' ≡ x.1) × (ps' ≡ freed_if (is_accepted x.0) ps)
