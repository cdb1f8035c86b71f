-- How a view of the memory is read: the header's words, one row, one tail record, one page, and what the words for states and kinds mean.
-- Where a word can hold more than the store writes, the tests here say what every other value counts as; so each call answers for every memory.
use Rattle.std.specs.Prelude.{Bool, false, cond, ◌||◌, List, ℕ, zero, suc, ◌+◌, ◌*◌, ◌%◌, ◌^◌, ltb, eqb, get_or}
use Rattle.terms.specs.Measures.{range_rows}
use Rattle.terms.specs.declared.Shape.{Shape}
use Rattle.layout.specs.Codes.{as_open, as_committed, as_original, as_setting, as_free, as_current}
use Rattle.layout.specs.View.{View}
use Rattle.layout.specs.declared.Region.TheVariants.{Header, Opens, RowTransaction, RowState, RowStamp, RowLink, RowMask, TailTransaction, TailRow, TailKind, TailMask, TailLink, TailState, TailStamp, TailValues, Current, PageState, PageChunk, PageMade, PageReplaced, PageLineage, PageNewest, Cells, RowOrdinal, TailOrdinal, RowKeeper, TailKeeper, OpenKeeper}
use Rattle.terms.specs.declared.ScanEntry.{ScanEntry}
use Rattle.terms.specs.Entries.{free_entry, first_index, bears, is_scan}

-- ---- sizes that a shape makes
abbrev pub chunks_of : Shape → ℕ
chunks_of S = S.columns * S.ranges

abbrev pub pages_of : Shape → ℕ
pages_of S = chunks_of S + S.spares

-- ---- a word of the header
abbrev pub header_in : View → ℕ → ℕ
header_in v i = get_or (v Header) i 0

-- A count that no measure bounds goes round: in a memory that no call made it may stand at its highest.
abbrev pub word_limit : ℕ
word_limit = 2 ^ 32

abbrev pub next_word : ℕ → ℕ
next_word n = (n + 1) % word_limit

-- ---- what a word means. Of states and kinds, any number above the first two is read as the third.
abbrev pub open_state : ℕ → Bool
open_state w = eqb w as_open

abbrev pub committed_state : ℕ → Bool
committed_state w = eqb w as_committed

abbrev pub original_kind : ℕ → Bool
original_kind w = eqb w as_original

abbrev pub setting_kind : ℕ → Bool
setting_kind w = eqb w as_setting

abbrev pub delete_kind : ℕ → Bool
delete_kind w = ltb as_setting w

abbrev pub free_page : ℕ → Bool
free_page w = eqb w as_free

abbrev pub current_page : ℕ → Bool
current_page w = eqb w as_current

abbrev pub waiting_page : ℕ → Bool
waiting_page w = ltb as_current w

-- ---- one row, one record, one page: all words of one index
pub record RowWords : Type 0 where
  pub transaction : ℕ
  pub state : ℕ
  pub stamp : ℕ
  pub ordinal : ℕ
  pub link : ℕ
  pub mask : ℕ

pub record RecordWords : Type 0 where
  pub transaction : ℕ
  pub row : ℕ
  pub kind : ℕ
  pub mask : ℕ
  pub link : ℕ
  pub state : ℕ
  pub stamp : ℕ
  pub ordinal : ℕ

-- `chunk` is that of the range and column; `made` and `replaced` are numbers of merges.
pub record PageWords : Type 0 where
  pub state : ℕ
  pub chunk : ℕ
  pub made : ℕ
  pub replaced : ℕ
  pub lineage : ℕ
  pub newest : ℕ

unfoldable pub row_in : View → ℕ → RowWords
row_in v r =
    record {
      transaction = get_or (v RowTransaction) r 0;
      state = get_or (v RowState) r 0;
      stamp = get_or (v RowStamp) r 0;
      ordinal = get_or (v RowOrdinal) r 0;
      link = get_or (v RowLink) r 0;
      mask = get_or (v RowMask) r 0;
    }

unfoldable pub record_in : View → ℕ → RecordWords
record_in v s =
    record {
      transaction = get_or (v TailTransaction) s 0;
      row = get_or (v TailRow) s 0;
      kind = get_or (v TailKind) s 0;
      mask = get_or (v TailMask) s 0;
      link = get_or (v TailLink) s 0;
      state = get_or (v TailState) s 0;
      stamp = get_or (v TailStamp) s 0;
      ordinal = get_or (v TailOrdinal) s 0;
    }

unfoldable pub page_in : View → ℕ → PageWords
page_in v p =
    record {
      state = get_or (v PageState) p 0;
      chunk = get_or (v PageChunk) p 0;
      made = get_or (v PageMade) p 0;
      replaced = get_or (v PageReplaced) p 0;
      lineage = get_or (v PageLineage) p 0;
      newest = get_or (v PageNewest) p 0;
    }

-- ---- indices
-- the word of column c in the record at slot s
unfoldable pub value_in : Shape → View → ℕ → ℕ → ℕ
value_in S v s c = get_or (v TailValues) (s * S.columns + c) 0

abbrev pub chunk_of : Shape → ℕ → ℕ → ℕ
chunk_of S g c = g * S.columns + c

-- the current page of range g and column c
unfoldable pub current_in : Shape → View → ℕ → ℕ → ℕ
current_in S v g c = get_or (v Current) (chunk_of S g c) 0

-- where row r stands in its page
abbrev pub within : ℕ → ℕ
within r = r % range_rows

unfoldable pub cell_in : View → ℕ → ℕ → ℕ
cell_in v p i = get_or (v Cells) (p * range_rows + i) 0

-- ---- searches
-- the first of the n numbers from i that passes, else i + n
abbrev pub first_from : (ℕ → Bool) → ℕ → ℕ → ℕ
first_from f zero i = i
first_from f (suc n) i = cond (f i) i (first_from f n (suc i))

-- whether one of the numbers below n passes
unfoldable pub any_below : (ℕ → Bool) → ℕ → Bool
any_below f zero = false
any_below f (suc n) = any_below f n || f n

-- how many of the numbers below n pass
abbrev pub count_below : (ℕ → Bool) → ℕ → ℕ
count_below f zero = 0
count_below f (suc n) = cond (f n) (suc (count_below f n)) (count_below f n)

-- the index of open transaction t
unfoldable pub open_index : View → ℕ → ℕ
open_index v t = first_index (bears t) (v Opens)

-- the keeper of row r's inserter, of the record at slot s, and of open transaction t: the words as they stand
unfoldable pub row_keeper : View → ℕ → ℕ
row_keeper v r = get_or (v RowKeeper) r 0

unfoldable pub record_keeper : View → ℕ → ℕ
record_keeper v s = get_or (v TailKeeper) s 0

unfoldable pub open_keeper : View → ℕ → ℕ
open_keeper v t = get_or (v OpenKeeper) (open_index v t) 0

-- the entry of open scan k
unfoldable pub scan_entry : List ScanEntry → ℕ → ScanEntry
scan_entry ps k = get_or ps (first_index (is_scan k) ps) free_entry
